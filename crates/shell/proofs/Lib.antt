-- The laws of this crate.
mod Answered
mod Asked
mod Ends
mod Filling
mod Fronts
mod Joining
mod Lefts
mod Rests
mod Rounds
mod Sessions
mod SomeMains
mod Taking
mod Turning
