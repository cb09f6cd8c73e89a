pub mod Callers
pub mod FromC
pub mod InTurn
pub mod BlocksFromC
pub mod TableFromC
pub mod Sessions
pub mod RunFromC
pub mod FormsFromC
