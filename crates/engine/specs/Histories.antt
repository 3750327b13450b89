-- Lists of calls on one book, refused ones among them: while it is open, and once it is sealed. And lists of calls on one tile.
use Rattle.std.specs.Prelude.{◌≡◌, ℕ, ◌+◌, List, Ok, Err, Result}
use Rattle.std.specs.Borrow.{MutBor}
use Rattle.network.specs.Nets.{Net}
use Rattle.network.specs.Cuts.{Selection, cost}
use Rattle.search.specs.declared.refusal.RunRefusal.{RunRefusal}
use Rattle.search.specs.declared.report.Report.{Report}
use Rattle.search.specs.Runs.{Lent, Run, gained, counted, Promised}
use Rattle.book.specs.declared.refusal.EnterRefusal.{EnterRefusal}
use Rattle.book.specs.declared.refusal.NeedRefusal.{NeedRefusal}
use Rattle.book.specs.declared.record.Record.{Record}
use Rattle.book.specs.Books.{Book, empty, with_entry, with_need, network_of}
use Rattle.book.specs.Calls.{Open, Shut, new_book, Entered, Needed, Sealed}
use Rattle.book.specs.Plans.{BestPlans}
use Rattle.tile.specs.declared.refusal.LayRefusal.{LayRefusal}
use Rattle.tile.specs.Tiles.{tile_network, energy}
use Rattle.tile.specs.Calls.{State, Laid}
use Rattle.sheet.specs.declared.Counts.{Counts}
use Rattle.sheet.specs.Format.{Entry}
use Rattle.sheet.specs.Answers.{SheetOf}
use Rattle.filing.specs.declared.refusal.LoadRefusal.{LoadRefusal}
use Rattle.filing.specs.Books.{book_of}
use Rattle.filing.specs.Loads.{Loaded}

-- What b has been given after a call, where the call may have been refused: an entry, a need, or what a sheet tells.

abbrev pub entry_given : Book → ℕ → ℕ → Result ℕ EnterRefusal → Book
entry_given b x y (Ok _) = with_entry b x y
entry_given b x y (Err _) = b

abbrev pub need_given : Book → ℕ → ℕ → Result (Unit {0}) NeedRefusal → Book
need_given b u w (Ok _) = with_need b u w
need_given b u w (Err _) = b

abbrev pub SheetGiven : Book → List ℕ → Result Counts LoadRefusal → Book → Type 0
SheetGiven b bs (Ok _) c = (es : List Entry) × SheetOf bs es × (c ≡ book_of es)
SheetGiven b bs (Err _) c = c ≡ b

-- calls on a new book, in any order, that left it open as it stands; b is what the accepted ones gave it
pub data Opened : Open → Book → Type 0 where
  new : (table : MutBor (List Record)) → Opened (new_book table) empty
  enter : {s t : Open} {b : Book} → Opened s b → (x y : ℕ) (r : Result ℕ EnterRefusal) → Entered s x y r t → Opened t (entry_given b x y r)
  need : {s t : Open} {b : Book} → Opened s b → (u w : ℕ) (r : Result (Unit {0}) NeedRefusal) → Needed s u w r t → Opened t (need_given b u w r)
  load : {s t : Open} {b c : Book} → Opened s b → (bs : List ℕ) (r : Result Counts LoadRefusal) → Loaded s bs r t → SheetGiven b bs r c → Opened t c

-- and then it was sealed and run, each run with whatever it was lent, which led to the value w; g is all that the runs gained, and k how
-- many paths they counted
pub data Handled (b : Book) : Net → ℕ → ℕ → Type 0 where
  seal : {s : Open} {t : Shut} → Opened s b → Sealed s t → Handled b t.net 0 0
  run : {w x : Net} {g k : ℕ} → Handled b w g k → (before : Lent) (r : Result Report RunRefusal) (after : Lent) → Run w before r x after → Handled b x (g + gained r) (k + counted r)

-- for every list of calls that led to the value before this run: what runs promise holds of the network of exactly what the accepted
-- calls gave, and its cheapest selections are the best plans
abbrev pub BookPromise : Net → Result Report RunRefusal → Net → Lent → Type 0
BookPromise w r x after = (b : Book) (g k : ℕ) → Handled b w g k → Promised (network_of b) (g + gained r) (k + counted r) r x after × BestPlans b

-- calls on one tile: an accepted lay of the costs bs hands over, and since then came refused lays and runs, each run with whatever it was
-- lent, which led to the value x; g is all that the runs gained, and k how many paths they counted
pub data HandledTile (w h : ℕ) (bs : List ℕ) : Net → ℕ → ℕ → Type 0 where
  -- whatever earlier calls left of the tile, an accepted lay hands over anew
  lay : {s t : State} → Laid s w h bs (Ok tt) t → HandledTile w h bs t.net 0 0
  refused : {s t : State} {g k : ℕ} → HandledTile w h bs s.net g k → (width height : ℕ) (costs : List ℕ) (e : LayRefusal) → Laid s width height costs (Err e) t → HandledTile w h bs t.net g k
  run : {x y : Net} {g k : ℕ} → HandledTile w h bs x g k → (before : Lent) (r : Result Report RunRefusal) (after : Lent) → Run x before r y after → HandledTile w h bs y (g + gained r) (k + counted r)

-- for every list of calls that led to the value before this run: what runs promise holds of the network of what was laid last, and each
-- selection costs its energy less all gained since
pub record TilePromised (w h : ℕ) (bs : List ℕ) (g k : ℕ) (r : Result Report RunRefusal) (y : Net) (after : Lent) : Type 0 where
  pub promised : Promised (tile_network w h bs) g k r y after
  pub energy : (X : Selection) → cost y X + g ≡ energy w h bs X

abbrev pub TilePromise : Net → Result Report RunRefusal → Net → Lent → Type 0
TilePromise x r y after = (w h : ℕ) (bs : List ℕ) (g k : ℕ) → HandledTile w h bs x g k → TilePromised w h bs (g + gained r) (k + counted r) r y after
