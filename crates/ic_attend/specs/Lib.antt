pub mod Parts
pub mod Clients
pub mod Runners
pub mod Ends
pub mod OneHistory
pub mod Desk
pub mod Faults
pub mod inner
