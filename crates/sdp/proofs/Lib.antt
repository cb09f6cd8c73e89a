-- The laws that the functions' proofs share.
pub mod Tokens
pub mod Fits
pub mod Found
pub mod Values
pub mod Spelling
pub mod Items
pub mod Turns
pub mod Derivations
pub mod Counting
pub mod Answering
pub mod Walking
pub mod Texting
pub mod Backs
pub mod Choices
pub mod Witnesses
