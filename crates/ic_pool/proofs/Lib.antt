pub mod Refusals
pub mod CutWorks
pub mod AnswerLemmas
