pub mod Salvaged
pub mod Pieces
pub mod Theorems
pub mod Witnesses
