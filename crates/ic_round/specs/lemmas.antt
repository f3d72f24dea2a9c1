-- Lemmas on the definitions of specs/, for proofs of this crate and of those above. They are
-- proved, so nothing in them is to be believed.
pub mod NameStepLemmas
pub mod FreshNames
pub mod ActiveRules
pub mod SoundRules
pub mod FiredNames
pub mod OverSymbols
pub mod AnyOrder
pub mod SettledLemmas
pub mod QuietLemmas
pub mod RoundLemmas
pub mod StepsLemmas
pub mod ChainLemmas
pub mod ActivityLemmas
pub mod NamesLemmas
pub mod Words
pub mod Sizes
pub mod SizeSoFar
pub mod Separating
pub mod Planned
pub mod Products
pub mod NoSteps
pub mod IdleLemmas
