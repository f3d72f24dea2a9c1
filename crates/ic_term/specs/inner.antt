-- What only private functions and invariants cite.
pub mod Keys
