pub mod JoinLaws
pub mod RoleLaws
