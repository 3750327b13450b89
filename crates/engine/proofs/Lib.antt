-- The lemmas that the answers share.
pub mod Ones
pub mod Texts
pub mod Rights
pub mod Histories
pub mod Finishing
pub mod Lendings
