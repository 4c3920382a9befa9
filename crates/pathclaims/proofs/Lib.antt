pub mod Back
pub mod OnlyPath
pub mod Numbers
pub mod Paths
