-- What contracts of private functions cite. A reader of the public contracts needs none of it.
pub mod Pieces
