pub mod Lines
pub mod Turns
pub mod Answers
pub mod Serving
pub mod Taking
pub mod Script
pub mod inner
