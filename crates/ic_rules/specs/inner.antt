-- What only the contracts of private functions cite.
pub mod Arguments
pub mod Places
pub mod JobName
pub mod RuleFault
