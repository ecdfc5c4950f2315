pub mod Changing
pub mod InSlot
