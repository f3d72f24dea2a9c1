-- What a reader of the public contracts must believe.
pub mod Output
