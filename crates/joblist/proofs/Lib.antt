-- Words, lists, and questions in a row.
pub mod Numerals
pub mod Lists
pub mod Firsts
-- The first pass: lines become entries.
pub mod LineByLine
pub mod Soundness
-- The second pass: the entries are entered.
pub mod EntryByEntry
-- The third pass: what they need is entered.
pub mod NeedNumbers
pub mod Numbering
pub mod NameByName
pub mod NeedsByEntry
-- What an accepted text is, and its sheet.
pub mod Naming
pub mod Telling
pub mod Writing
