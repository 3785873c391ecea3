mod Below
pub mod Standings
