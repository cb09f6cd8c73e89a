pub mod Blocks
pub mod Layouts
pub mod Forms
