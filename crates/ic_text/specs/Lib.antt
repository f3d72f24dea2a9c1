-- What a reader of the public contracts must believe; `lemmas`, which is proved; and `inner`, which
-- is for private functions.
pub mod Limits
pub mod Token
pub mod Name
pub mod Source
pub mod SystemSource
pub mod Sense
pub mod SystemSense
pub mod Reading
pub mod Text
pub mod FaultNumber
pub mod SystemText
pub mod lemmas
pub mod inner
