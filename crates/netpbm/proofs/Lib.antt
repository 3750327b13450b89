-- White space and numbers, read byte by byte.
pub mod Spaces
pub mod Digits
-- Headers, question by question, and greys, pixel by pixel.
pub mod Heads
pub mod Samples
-- Files that are laid out are read.
pub mod Gaps
pub mod Files
-- Files that were read are laid out.
pub mod Found
pub mod Backs
-- Files as tools mostly write them, and the whole promise.
pub mod Usual
-- Files of lines and tones.
pub mod Pixels
pub mod Lines
