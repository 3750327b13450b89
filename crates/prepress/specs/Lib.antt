-- What the public calls promise.
pub mod Areas
pub mod Greys
pub mod Splits
pub mod Files
-- What inner functions agree on.
pub mod Cuts
