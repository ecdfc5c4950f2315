pub mod Feeds
pub mod FirstLine
pub mod LineFeeds
pub mod Moving
pub mod Passing
pub mod Standing
pub mod Views
