-- The laws that other crates cite, and the worked examples.
pub mod Columns
pub mod Order
pub mod Page
