pub use Rattle.ic_streams.specs.Stuck
pub mod Tracing
pub mod Interacting
pub mod Tables
pub mod Traces
pub mod inner
