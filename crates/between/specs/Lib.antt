pub mod Differences
pub mod PacketCalls
pub mod Theorems
