-- What a reader must believe of image files.
pub mod Blanks
pub mod Numerals
pub mod Headers
pub mod Images
pub mod Layouts
pub mod Bitmaps
pub mod Refusals
pub mod Texts
pub mod Values
-- What inner functions agree on.
pub mod Passes
