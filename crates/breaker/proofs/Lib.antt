-- The laws of the breaker, and the proofs of its theorems.
pub mod Places
pub mod FractionLost
pub mod Facts
pub mod Products
pub mod Chains
pub mod Kept
pub mod Calls
pub mod Runs
pub mod HeardPackets
pub mod AsBefore
pub mod FullEquation
pub mod Judged
pub mod Equation
