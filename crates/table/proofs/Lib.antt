-- The laws that the functions' proofs share, and those that other crates cite.
pub mod Digits
pub mod Minus
pub mod Texts
pub mod Backwards
pub mod Commas
pub mod RefusedLines
pub mod NumberLines
pub mod Faults
pub mod Splitting
pub mod RowSplits
pub mod RowFits
