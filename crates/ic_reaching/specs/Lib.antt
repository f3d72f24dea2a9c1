pub mod OneNet
pub mod Reaching
pub mod FreshNames
pub mod Pieces
pub mod Beside
pub mod lemmas
