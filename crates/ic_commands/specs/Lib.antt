-- What a reader of the public contracts must believe, and `inner`, which is for private functions.
pub mod LineSource
pub mod LineSense
pub mod LineText
pub mod LinePlain
pub mod ScriptSense
pub mod ReplyText
pub mod inner
