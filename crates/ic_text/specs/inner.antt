-- For private functions: how a text is read, step by step. No public clause needs what is here.
pub mod Syntax
pub mod Survey
pub mod Braces
pub mod Words
pub mod Prefix
pub mod Numbered
pub mod Counted
pub mod Refused
pub mod Built
pub mod Printing
pub mod WordTexts
