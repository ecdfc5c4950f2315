mod Adding
mod Placing
mod Stepping
mod Passing
