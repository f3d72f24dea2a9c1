-- For private functions: the texts of the parts of rules. No public clause needs what is here.
pub mod Printing
