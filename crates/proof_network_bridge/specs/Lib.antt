pub mod OnWorld
pub mod Payloads
pub mod WorldViews
pub mod EventLaws
pub mod GoingOn
pub mod Alone
