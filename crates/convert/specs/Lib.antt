pub mod Runs
pub mod Tables
pub mod Theorems
pub mod Pieces
pub mod Feeds
pub mod Passes
pub mod FeedTheorems
pub mod Numbered
