-- For private functions: by what names are numbered. No public clause needs what is here.
pub mod Numbering
