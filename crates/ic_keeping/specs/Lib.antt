pub mod Way
pub mod Life
pub mod inner
