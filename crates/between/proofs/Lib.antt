-- The proofs of the theorems.
pub mod Exact
pub mod InLimits
