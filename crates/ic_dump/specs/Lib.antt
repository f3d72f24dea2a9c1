-- What a reader of the public contracts must believe, and `inner`, which is for private functions.
pub mod Telling
pub mod Submitting
pub mod Dumping
pub mod inner
