pub mod HistoryLemmas
pub mod DiskLemmas
pub mod BookLemmas
pub mod AnswerLemmas
pub mod StepLemmas
pub mod EntryLemmas
