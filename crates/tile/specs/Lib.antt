-- What the public calls promise.
pub mod Grids
pub mod Tiles
pub mod Refusals
pub mod Tables
pub mod Calls
pub mod Values
pub mod Theorems
-- What inner functions agree on, and that the laws hold.
pub mod Pixels
pub mod Layings
pub mod Accepted
pub mod Laws
