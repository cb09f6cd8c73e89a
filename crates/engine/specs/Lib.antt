pub mod Limits
pub mod Windows
pub mod Settled
pub mod Scans
pub mod Blocks
pub mod Lean
