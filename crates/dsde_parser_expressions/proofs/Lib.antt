pub mod ChainLemmas
pub mod LayerLemmas
pub mod LedLemmas
pub mod NodeLemmas
pub mod PartLemmas
pub mod StepLemmas
pub mod TestLemmas
pub mod TookLemmas
