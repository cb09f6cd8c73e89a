-- What the functions' proofs share, and what other crates cite.
pub mod Rows
pub mod Shifts
pub mod Facts
pub mod Reached
pub mod Answers
pub mod Kept
pub mod Afresh
pub mod Packets
pub mod Totalled
pub mod Losses
pub mod OneCall
pub mod Between
