pub mod Order
pub mod HeapSteps
pub mod Sorting
pub mod QueueLemmas
pub mod Due
pub mod Compact
