pub mod Adds
pub mod Advances
mod Advancing
pub mod Agree
pub mod Asked
pub mod Bringing
mod Brings
pub mod Calm
pub mod Chains
pub mod Counting
pub mod Delivering
pub mod DeliveryTelling
pub mod DeliveryTurns
pub mod Drawn
pub mod Finding
pub mod Fronts
pub mod Later
pub mod Measuring
pub mod MoverChanging
pub mod MoverMoving
pub mod MoverTelling
pub mod MoverTurns
pub mod Orderly
pub mod Pairs
pub mod Reaching
pub mod Rooms
pub mod Seating
mod StandingChanging
mod StandingMoving
mod Starting
pub mod Staying
pub mod Steady
pub mod Taking
pub mod Waiting
pub mod Walked
pub mod Walking
pub mod Works
