pub mod Front
pub mod Adding
