-- The laws that other crates cite.
pub mod Cuts
pub mod Walks
pub mod Pieces
pub mod Fits
pub mod Sessions
pub mod Singles
pub mod Loops
pub mod Standing
pub mod Putting
