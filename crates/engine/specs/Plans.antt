-- The answer to an input: the best plans of its book, or the first question whose answer is no.
use Rattle.std.specs.Prelude.{◌≡◌, ℕ, ◌<◌, ◌≤◌, List, length, Ok, Err, Result}
use Rattle.sheet.specs.Format.{Entry}
use Rattle.sheet.specs.Answers.{SheetOf, Answers}
use Rattle.book.specs.Calls.{used}
use Rattle.filing.specs.declared.refusal.LoadRefusal.{LoadRefusal}
use Rattle.filing.specs.declared.refusal.LoadRefusal.TheVariants.{HasEntries, Sheet, ShortTable}
use Rattle.filing.specs.Books.{book_of}
use Rattle.engine.specs.declared.refusal.PlanRefusal.{PlanRefusal}
use Rattle.engine.specs.declared.refusal.PlanRefusal.TheVariants.{TooLong, Load}
use Rattle.engine.specs.Answers.{Answer, Right}

-- why a new book over 2,048 records does not load the sheet bs
abbrev pub NotLoaded : List ℕ → LoadRefusal → Type 0
NotLoaded bs HasEntries = ⊥
NotLoaded bs (Sheet x) = Answers bs (Err x)
NotLoaded bs ShortTable = (es : List Entry) × SheetOf bs es × (2048 < used (book_of es))

-- r is the answer to the input bs: that of the book of a sheet of at most 8,192 bytes
abbrev pub Planned : List ℕ → Result Answer PlanRefusal → Type 0
Planned bs (Ok a) = (length bs ≤ 8192) × (es : List Entry) × SheetOf bs es × (used (book_of es) ≤ 2048) × Right (book_of es) a
Planned bs (Err TooLong) = 8192 < length bs
Planned bs (Err (Load x)) = (length bs ≤ 8192) × NotLoaded bs x

-- r answers the input bs, and nothing else does
pub record ThePlan (bs : List ℕ) (r : Result Answer PlanRefusal) : Type 0 where
  pub answers : Planned bs r
  pub only : (s : Result Answer PlanRefusal) → Planned bs s → s ≡ r
