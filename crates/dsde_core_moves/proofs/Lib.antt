mod ComparingStepping
mod Holding
pub mod Keeping
mod Leaving
mod Naming
pub mod Sitting
pub mod StepStepping
mod Surviving
mod Valued
