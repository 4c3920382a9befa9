-- What document 01 means, section by section, in its order.
pub mod Limits
pub mod Outline
pub mod Turn
pub mod Cell
pub mod Strip
pub mod Placing
pub mod Sheet
pub mod Question
pub mod Job
