-- What a reader of the public contracts must believe, `lemmas`, which is proved of it, and `inner`, which is for private
-- functions.
pub mod Naming
pub mod lemmas
pub mod inner
