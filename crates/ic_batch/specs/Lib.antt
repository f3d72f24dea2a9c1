-- What a reader of the public contracts must believe, and `inner`, which is for private functions.
pub mod Jobs
pub mod Way
pub mod Faults
pub mod Calls
pub mod Batch
pub mod Served
pub mod inner
