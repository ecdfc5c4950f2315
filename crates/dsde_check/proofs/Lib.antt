mod Refusals
mod Rest
