pub mod Births
pub mod SlotLemmas
pub mod Gone
