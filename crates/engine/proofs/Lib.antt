-- What the functions' proofs share.
pub mod Near
pub mod Union
pub mod Settles
pub mod Counts
pub mod Additions
pub mod Marked
pub mod Looking
pub mod InRow
pub mod Shifting
pub mod Placing
pub mod Parting
pub mod Bytes
pub mod Spots
pub mod Chosen
pub mod Simulated
pub mod Turns
