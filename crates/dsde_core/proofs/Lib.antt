mod EngineResting
mod EngineTurning
mod Living
mod Phases
mod Planted
mod Resting
mod Starting
mod Outs
