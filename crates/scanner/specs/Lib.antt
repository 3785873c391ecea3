pub mod Bytes
pub mod Pieces
pub mod Words
pub mod Scans
pub mod Faults
pub mod Laws
pub mod Gaps
