pub mod Words
pub mod Misfits
mod Lists
pub mod Nested
pub mod Order
pub mod Whole
mod Moves
pub mod Spaced
mod Flat
mod Heads
mod Values
pub mod Spelled
