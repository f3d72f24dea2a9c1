-- What a reader of the public contracts must believe, and `inner`, which is for private functions.
pub mod Warnings
pub mod Faults
pub mod Files
pub mod inner
