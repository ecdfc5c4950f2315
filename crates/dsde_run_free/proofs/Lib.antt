pub mod Advancing
pub mod Beginning
pub mod Moving
pub mod Seated
pub mod Stepping
pub mod Turning
