pub mod Areas
pub mod Costs
pub mod Energies
pub mod Bests
pub mod Blackening
pub mod Pages
pub mod Ones
