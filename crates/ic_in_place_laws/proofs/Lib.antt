pub mod Again
pub mod Left
pub mod Traced
pub mod RowsOf
pub mod GoingOn
mod Soon
mod Untold
