pub mod Decimal
pub mod Field
pub mod Rfc4180
pub mod Lines
pub mod Parts
pub mod Theorems
