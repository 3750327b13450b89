-- The lemmas that the answers share.
pub mod Changes
pub mod Writes
pub mod Counts
pub mod Plans
pub mod Keeping
pub mod Enterings
pub mod Needings
pub mod Lookups
pub mod Proper
pub mod Settled
pub mod Ends
pub mod Spans
pub mod Filling
pub mod Indexing
pub mod Sealings
