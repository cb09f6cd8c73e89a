-- The laws that other crates cite.
pub mod BigEndian
pub mod Integers
pub mod Differences
pub mod Signed
pub mod Octets
