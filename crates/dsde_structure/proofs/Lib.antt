mod Merging
mod Walking
mod Splitting
mod Surviving
