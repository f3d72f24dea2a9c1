-- What is proved of nets of rows of terms, for proofs of this crate and of those above.
pub mod Rows
pub mod Orders
pub mod Given
pub mod RowNets
