pub mod CliComing
pub mod CliStoring
mod Completing
pub mod CutTurning
mod Cutting
pub mod Delivering
pub mod DeliveryKeeping
mod Drawing
pub mod Fitting
pub mod Going
mod Images
mod Joining
mod Later
mod LawComing
mod LawStoring
pub mod Loads
pub mod Naming
mod OrderTurning
pub mod Outcomes
mod Relied
mod Restoring
pub mod Returning
pub mod Running
mod Said
mod Seated
pub mod Spots
pub mod Standing
pub mod StandingKeeping
pub mod Telling
mod Times
