-- Lemmas that the crates above cite.
pub mod CallHeld
pub mod Dues
pub mod Leaves
pub mod Living
pub mod Ordered
pub mod Pathwise
pub mod Seated
pub mod Sending
pub mod TrafficHeld
