-- The definitions that contracts cite, those of inner functions among them.
pub mod Forests
pub mod Rings
pub mod Trees
pub mod Surveys
pub mod Searches
pub mod Plantings
pub mod Climbs
pub mod Carryings
