pub mod Labelled
pub mod Pieces
pub mod Theorems
pub mod Witnesses
