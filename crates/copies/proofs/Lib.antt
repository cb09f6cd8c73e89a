-- The laws of the front of a piece, and of lists of a trace's own blocks.
pub mod Fronts
pub mod Copied
pub mod Accepted
pub mod Listed
pub mod Witnesses
