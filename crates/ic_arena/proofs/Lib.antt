pub mod NamesPieces
pub mod HeapPieces
pub mod Found
pub mod Full
pub mod Front
pub mod HeapPut
pub mod HeapFreed
