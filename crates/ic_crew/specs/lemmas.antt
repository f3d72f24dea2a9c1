-- What is proved of the definitions of specs/. A reader of the contracts needs none of it.
pub mod WorkEq
pub mod DealingLaws
pub mod Crossings
