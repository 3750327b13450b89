-- What the public calls promise.
pub mod Refusals
pub mod Books
pub mod Loads
pub mod Sheets
pub mod Writes
-- What inner functions agree on.
pub mod Passes
