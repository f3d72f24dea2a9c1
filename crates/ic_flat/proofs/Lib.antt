pub mod StackLemmas
pub mod WritingLemmas
pub mod TestingLemmas
pub mod NarrowLemmas
pub mod PlaceLemmas
