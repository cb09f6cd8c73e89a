-- The laws of a run of ecnlabel, and the proofs of its theorems.
pub mod Calls
pub mod Turns
pub mod Followed
pub mod Copying
pub mod Theorems
pub mod SameRows
pub mod Unrefused
pub mod Rooms
pub mod Witnesses
