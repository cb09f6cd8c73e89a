pub mod Fronts
pub mod Theorems
pub mod Witnesses
