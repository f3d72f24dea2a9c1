-- What is proved of the definitions of specs/, for proofs of this crate and of those above.
pub mod Orders
pub mod StepsOn
pub mod Separation
pub mod Counting
pub mod FiringKeeps
pub mod FiresKeep
pub mod PairLaws
pub mod Balance
pub mod Active
pub mod RunsOn
pub mod GenerationsOn
pub mod Upto
pub mod InRooms
pub mod Spelled
