-- What the functions' proofs share, and what other crates cite.
pub mod Layouts
pub mod Faults
