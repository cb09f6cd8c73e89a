pub mod Places
pub mod Lines
pub mod Blocks
pub mod Runs
pub mod Rows
pub mod Tables
pub mod Theorems
pub mod Witnesses
