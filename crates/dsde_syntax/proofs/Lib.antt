mod Nodes
mod Writing
