-- What a reader must believe of a job list.
pub mod Lines
pub mod Amounts
pub mod Entries
pub mod Refusals
pub mod Faults
pub mod JobLists
pub mod Names
pub mod Drafts
pub mod Texts
-- What inner functions agree on.
pub mod Passes
