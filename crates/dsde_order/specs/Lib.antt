pub mod Free
pub mod Seating
pub mod Walking
pub mod given
