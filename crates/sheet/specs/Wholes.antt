-- What reading a whole sheet promises.
use Rattle.std.specs.Prelude.{◌≡◌, ℕ, ◌+◌, ◌≤◌, List, [], length, Ok, Result}
use Rattle.sheet.specs.declared.Counts.{Counts}
use Rattle.sheet.specs.declared.refusal.SheetRefusal.{SheetRefusal}
use Rattle.sheet.specs.Format.{Entry}
use Rattle.std.specs.List.{AllByRecursion}
use Rattle.sheet.specs.Sound.{There, counts}
use Rattle.sheet.specs.Answers.{SoundSheet, SheetOf, Answers}
use Rattle.sheet.specs.Places.{Cursor, start, HandsOut}

-- r answers the sheet bs, and nothing else does: where bs is the sheet of a list, r accepts it with the list's counts;
-- bs is the sheet of one list at most, and that list is what a reader hands out from the start to the end
pub record TheAnswer (bs : List ℕ) (r : Result Counts SheetRefusal) : Type 0 where
  pub answers : Answers bs r
  pub only : (s : Result Counts SheetRefusal) → Answers bs s → s ≡ r
  pub accepts : (es : List Entry) → SheetOf bs es → r ≡ Ok (counts es)
  pub one_list : (ds es : List Entry) → SheetOf bs ds → SheetOf bs es → ds ≡ es
  pub reads_list : (ds es : List Entry) (end : Cursor) → SheetOf bs es → HandsOut bs start ds end → length bs ≤ end.at → ds ≡ es

-- each record of bs was found sound by itself, and the counts are theirs
pub record Counted (bs : List ℕ) (c : Counts) : Type 0 where
  pub entries : List Entry
  pub sheet : SoundSheet bs entries
  pub some : bs ≡ [] → ⊥
  pub are : c ≡ counts entries

-- the same, and none of the records needs an entry of a number above the highest
pub record Tallied (bs : List ℕ) (c : Counts) (highest : ℕ) : Type 0 where
  pub counted : Counted bs c
  pub there : AllByRecursion (There (highest + 1)) counted.entries
