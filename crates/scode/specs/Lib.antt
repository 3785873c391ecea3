pub mod Instructions
pub mod Opcode
pub mod SystemCall
pub mod Words
pub mod Unknown
