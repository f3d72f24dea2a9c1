pub mod FileLemmas
pub mod SheetLemmas
pub mod HeldLemmas
pub mod ReadLemmas
pub mod WriteLemmas
pub mod MomentLemmas
pub mod WorkedLemmas
