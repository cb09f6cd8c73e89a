-- The laws that other crates cite.
pub mod Squares
pub mod Floors
pub mod Entries
pub mod Losses
pub mod Sizes
pub mod Equation
pub mod Exact
