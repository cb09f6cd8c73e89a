-- The laws of a run of ecnsalvage, and the proofs of its theorems.
pub mod Calls
pub mod Turns
pub mod Followed
pub mod Sorting
pub mod Theorems
pub mod Rooms
pub mod Witnesses
