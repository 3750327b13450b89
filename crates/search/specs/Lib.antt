-- The definitions that contracts cite, those of inner functions among them.
pub mod Refusals
pub mod Tables
pub mod Runs
pub mod Trails
pub mod Readings
pub mod Tracings
pub mod Adoptions
pub mod Markings
