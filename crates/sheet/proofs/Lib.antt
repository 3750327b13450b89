-- Lemmas on sheets.
pub mod Numbers
pub mod Entries
pub mod Sheets
pub mod Maps
pub mod Needs
pub mod Standing
pub mod Questions
pub mod Turns
pub mod Passes
