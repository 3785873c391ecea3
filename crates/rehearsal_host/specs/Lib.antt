pub mod Filled
pub mod Rehearsal
