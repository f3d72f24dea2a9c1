-- For private functions. No public clause needs what is here.
pub mod Room
pub mod RuleWords
pub mod Limits
pub mod Heads
pub mod Bindings
pub mod Waits
pub mod Rebuilding
pub mod Activity
pub mod Places
