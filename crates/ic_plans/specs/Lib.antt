pub mod Beginning
pub mod inner
