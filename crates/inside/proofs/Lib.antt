pub mod FirstSlab
pub mod OneColumn
