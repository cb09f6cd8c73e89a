pub mod Packing
pub mod Conversions
pub mod Steps
pub mod Converted
pub mod Theorems
pub mod Pieces
pub mod Witnesses
pub mod Numbered
