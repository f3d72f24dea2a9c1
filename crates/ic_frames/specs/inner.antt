-- What contracts of private functions and types cite. A reader of the public contracts needs none
-- of it.
pub mod Standing
pub mod Reading
pub mod Finding
