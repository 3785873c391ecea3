mod Numbers
mod Found
mod Heads
mod Steps
mod Modes
mod Places
mod Parts
mod Apart
mod Owners
mod Cuts
mod Shifts
pub mod Gaps
pub mod Ascents
pub mod Rises
pub mod Firsts
mod Scanned
