pub mod HeldLemmas
pub mod TableLemmas
pub mod FormLemmas
pub mod UnusedLemmas
pub mod BegunLemmas
pub mod StoppedLemmas
