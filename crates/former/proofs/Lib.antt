pub mod Former
pub mod List
