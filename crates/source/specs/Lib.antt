pub mod Lines
pub mod Cuts
pub mod Texts
