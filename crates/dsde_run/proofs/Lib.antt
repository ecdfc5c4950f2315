mod Again
pub mod Asking
pub mod Coming
pub mod CountEnding
pub mod Counting
pub mod Feeds
pub mod Handing
pub mod Joined
mod Joining
pub mod ResumeEnding
pub mod Rooted
pub mod RunEnding
pub mod Standing
pub mod Starting
pub mod Timing
pub mod Tolds
pub mod Turning
