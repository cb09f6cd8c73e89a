pub mod Fractions
pub mod FullThroughput
pub mod Roots
pub mod FullCondition
pub mod Private
pub mod Theorems
