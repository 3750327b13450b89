-- The definitions that contracts cite, those of inner functions among them.
pub mod Format
pub mod Sound
pub mod Refusals
pub mod Answers
pub mod Places
pub mod Layout
pub mod Readers
pub mod Wholes
pub mod Texts
