-- What a reader of the public contracts must believe, and `inner`, which is for private functions.
pub mod Comments
pub mod Begins
pub mod Pieces
pub mod Spots
pub mod Reading
pub mod Names
pub mod Generic
pub mod Expanding
pub mod Forms
pub mod Streams
pub mod Marks
pub mod Opening
pub mod inner
