-- The laws that the functions' proofs cite, the laws of a run's lines, and the proofs of its theorems.
pub mod Cuts
pub mod Standing
pub mod Stored
pub mod Taking
pub mod Calls
pub mod Told
pub mod Alike
pub mod Restored
pub mod Kept
pub mod InWords
pub mod Onward
pub mod Beside
pub mod Whole
pub mod Rises
pub mod Suffice
pub mod Witnesses
