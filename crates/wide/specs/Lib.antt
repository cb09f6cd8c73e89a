pub mod Products
pub mod Page
