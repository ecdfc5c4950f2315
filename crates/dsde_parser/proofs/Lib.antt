mod DepthLemmas
mod RefusalLemmas
mod WholeLemmas
mod WrongLemmas
