-- The same as functions that run.
pub mod Test
pub mod Cells
pub mod Words
pub mod Search
pub mod Walk
pub mod Vertices
pub mod Calls
pub mod Sheets
pub mod Lay
pub mod Ascii
pub mod Text
pub mod Bytes
pub mod Runs
