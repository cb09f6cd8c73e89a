pub mod BigEndian
pub mod Integers
pub mod Since
