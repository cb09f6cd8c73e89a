pub mod Carried
pub mod Reports
