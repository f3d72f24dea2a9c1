pub mod Attending
pub mod Served
pub mod Servings
