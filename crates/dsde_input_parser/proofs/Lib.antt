pub mod ItemLists
pub mod Items
pub mod RecordLines
pub mod Times
