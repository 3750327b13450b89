-- The definitions that contracts cite, those of inner functions among them.
pub mod Cells
pub mod Rows
pub mod Laws
pub mod Values
