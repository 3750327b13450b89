-- What the public calls promise.
pub mod Books
pub mod Plans
pub mod Refusals
pub mod Tables
pub mod Calls
pub mod Values
-- What inner functions agree on, and that the laws hold.
pub mod Records
pub mod Accepted
pub mod Needings
pub mod Indexes
pub mod Laws
