pub mod Layouts
pub mod Buffers
pub mod Laws
