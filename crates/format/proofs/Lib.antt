-- The laws that other crates cite.
pub mod Fits
pub mod Same
