-- What is answered and written where a caller lends the bytes for the marks.
use Rattle.std.specs.Prelude.{◌≡◌, ℕ, ◌*◌, ◌<◌, ◌≤◌, List, length, Some, None, Ok, Err, Result}
use Rattle.std.specs.declared.alloc.AllocError.{AllocError}
use Rattle.network.specs.Cuts.{Selection}
use Rattle.search.specs.declared.refusal.RunRefusal.TheVariants.{FewMarks}
use Rattle.search.specs.Runs.{MarksOf, Beyond}
use Rattle.tile.specs.Refusals.{lay_refusal}
use Rattle.tile.specs.Tiles.{tile_network, energy}
use Rattle.sheet.specs.Format.{Entry}
use Rattle.sheet.specs.Answers.{SheetOf, Answers}
use Rattle.book.specs.Books.{network_of}
use Rattle.filing.specs.declared.refusal.LoadRefusal.{LoadRefusal}
use Rattle.filing.specs.declared.refusal.LoadRefusal.TheVariants.{HasEntries, Sheet, ShortTable}
use Rattle.filing.specs.Books.{book_of}
use Rattle.engine.specs.Answers.{Worth}
use Rattle.engine.specs.declared.lending.Best.{Best}
use Rattle.engine.specs.declared.refusal.LentRefusal.{LentRefusal}
use Rattle.engine.specs.declared.refusal.LentRefusal.TheVariants.{Load, Lay, Run}

-- why the sheet bs is not loaded, where the table is as long as it asks for
abbrev pub NotASheet : List ℕ → LoadRefusal → Type 0
NotASheet bs (Sheet x) = Answers bs (Err x)
NotASheet bs HasEntries = ⊥
NotASheet bs ShortTable = ⊥

-- the best plans of a sheet: its own questions are put, and then whether there is a byte for each entry. A refused call, for want of
-- memory too, leaves the bytes, and every call leaves those past the entries'.
abbrev pub PlanInto : List ℕ → List ℕ → List ℕ → Result (Result Best LentRefusal) AllocError → Type 0
PlanInto bs before after (Err _) = after ≡ before
PlanInto bs before after (Ok (Err (Load x))) = NotASheet bs x × (after ≡ before)
PlanInto bs before after (Ok (Err (Lay _))) = ⊥
PlanInto bs before after (Ok (Err (Run x))) = (x ≡ FewMarks) × ((es : List Entry) × SheetOf bs es × (length before < length es)) × (after ≡ before)
PlanInto bs before after (Ok (Ok r)) = (es : List Entry) × SheetOf bs es × Worth (book_of es) r.counts r.least r.net × MarksOf (network_of (book_of es)) (length es) after × Beyond (length es) before after

-- e is the energy of a selection of the tile's pixels, and none has less
abbrev pub LeastEnergyIs : ℕ → ℕ → List ℕ → ℕ → Type 0
LeastEnergyIs w h bs e = (X : Selection) × ((Y : Selection) → energy w h bs X ≤ energy w h bs Y) × (energy w h bs X ≡ e)

-- the cheapest selections of a tile: its questions are put over a table of 4,096 records, and then whether there is a byte for each
-- pixel. A refused call, for want of memory too, leaves the bytes, and every call leaves those past the pixels'.
abbrev pub SplitInto : ℕ → ℕ → List ℕ → List ℕ → List ℕ → Result (Result ℕ LentRefusal) AllocError → Type 0
SplitInto w h bs before after (Err _) = after ≡ before
SplitInto w h bs before after (Ok (Err (Load _))) = ⊥
SplitInto w h bs before after (Ok (Err (Lay x))) = (lay_refusal w h bs 4096 ≡ Some x) × (after ≡ before)
SplitInto w h bs before after (Ok (Err (Run x))) = (lay_refusal w h bs 4096 ≡ None) × (x ≡ FewMarks) × (length before < w * h) × (after ≡ before)
SplitInto w h bs before after (Ok (Ok e)) = (lay_refusal w h bs 4096 ≡ None) × LeastEnergyIs w h bs e × MarksOf (tile_network w h bs) (w * h) after × Beyond (w * h) before after
