pub mod Amounts
pub mod Showing
