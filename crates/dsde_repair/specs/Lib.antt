pub mod Change
pub mod Rising
pub mod Walks
