pub mod Word
pub mod Piece
pub mod Tables
pub mod lemmas
pub mod inner
