pub mod Places
pub mod Telling
pub mod Changes
pub mod Energies
pub mod Layings
pub mod Rows
pub mod Ranges
