-- Lemmas on loading.
pub mod Standing
pub mod Filling
pub mod Entering
pub mod NeedLists
pub mod Needing
pub mod Ones
pub mod Wholes
-- Lemmas on writing.
pub mod Bytes
pub mod Ascending
pub mod Sheets
pub mod Putting
pub mod Back
