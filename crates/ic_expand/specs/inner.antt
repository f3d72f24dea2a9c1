-- For private functions: what their values stand for. No public clause needs what is here.
pub mod Ahead
pub mod Causes
pub mod Given
pub mod Sheets
pub mod Words
