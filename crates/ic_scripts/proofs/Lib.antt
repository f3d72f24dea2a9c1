pub mod Sending
pub mod ToldLemmas
pub mod FirstLemmas
pub mod OnFault
pub mod ReasonLemmas
