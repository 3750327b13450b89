-- The networks that the cases are about keep the laws, and their codes are few.
use Rattle.std.proofs.Common.{◌≡◌, ℕ, ◌*◌, Bool, true, length}
use Rattle.smallcases.specs.Cases.{Subject, network}
use Rattle.smallcases.specs.Cases.Subject.{a_book, a_tile}
use Rattle.smallcases.proofs.Codes.{FewCodes}
use Rattle.smallcases.proofs.Books.{sound_book, book_codes}
use Rattle.smallcases.proofs.Tiles.{sound_tile, tile_codes}

-- the first code that no arc of a case's network has
abbrev pub code_bound : Subject → ℕ
code_bound (a_book b) = 2 * length b.needs
code_bound (a_tile w h bytes) = 4 * (w * h)

-- whether a case is about something within its bounds
abbrev pub sound : Subject → Bool
sound (a_book b) = sound_book b
sound (a_tile w h bytes) = sound_tile w h bytes

pub few_codes : (s : Subject) → sound s ≡ true → FewCodes (network s) (code_bound s)
few_codes (a_book b) h = book_codes b h
few_codes (a_tile w h bytes) passes = tile_codes w h bytes passes
