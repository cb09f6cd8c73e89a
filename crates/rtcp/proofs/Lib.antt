-- Laws of the definitions.
pub mod Whole
pub mod Places
pub mod Narrow
pub mod Begins
pub mod Left
pub mod Profiles
