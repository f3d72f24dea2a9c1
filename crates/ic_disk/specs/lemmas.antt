-- Lemmas on the definitions of specs/, for proofs here and in the crates above. They are proved, so
-- nothing in them is to be believed.
pub mod ContentLaws
pub mod ImageLaws
pub mod HistoryLaws
pub mod Moments
