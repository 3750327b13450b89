-- The definitions that the contracts cite.
pub mod Answers
pub mod Texts
pub mod Values
pub mod Refusals
pub mod Plans
pub mod Listings
pub mod Histories
pub mod Lendings
pub mod Gains
