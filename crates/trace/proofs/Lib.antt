-- The laws that other crates cite.
pub mod Tallies
pub mod Sums
pub mod Labels
pub mod Decisions
pub mod Spacing
pub mod Placed
pub mod Layouts
pub mod Limits
pub mod Records
pub mod Checks
pub mod Accepted
pub mod ReadBack
pub mod Rewritten
pub mod Theorems
