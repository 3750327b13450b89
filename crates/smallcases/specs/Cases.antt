-- The small cases: books and tiles that can be reckoned by hand, with what the cheapest selections cost, the marks, and for some
-- what every run does.
use Rattle.std.specs.Prelude.{◌≡◌, ℕ, ◌+◌, ◌<◌, ◌≤◌, List, [], ◌∷◌, ◌++◌, length, drop, None, Ok, Result}
use Rattle.network.specs.declared.mark.Mark.{Mark}
use Rattle.network.specs.declared.mark.Mark.TheVariants.{In, Out, Either}
use Rattle.network.specs.Nets.{Net}
use Rattle.network.specs.Cuts.{CheapestCost, AllMarked}
use Rattle.network.specs.Paths.{Path, Augmenting, carried, path_words}
use Rattle.search.specs.declared.refusal.RunRefusal.{RunRefusal}
use Rattle.search.specs.declared.report.Outcome.TheVariants.{Finished, Paused}
use Rattle.search.specs.declared.report.Report.{Report}
use Rattle.search.specs.Runs.{Lent, refused, Run}
use Rattle.search.specs.Trails.{no_log}
use Rattle.book.specs.Books.{Book, empty, with_entry, network_of}
use Rattle.tile.specs.Tiles.{tile_network}

-- what a case is about
pub data Subject : Type 0 where
  a_book : Book → Subject
  -- width, height, and four bytes a pixel
  a_tile : ℕ → ℕ → List ℕ → Subject

abbrev pub network : Subject → Net
network (a_book b) = network_of b
network (a_tile w h bytes) = tile_network w h bytes

-- what is said of a case besides its cheapest cost and its marks
pub data Besides : Type 0 where
  nothing_else : Besides
  -- there is no path, so every run finishes at once
  no_path : Besides
  -- the words of its only path
  only_path : List ℕ → Besides
  -- a trail of so many words, too short for a run to carry out the path that is left
  short_trail : ℕ → Besides

-- each run of v that is lent a trail of a fitting size, and is not refused, answers the report r, and leaves the trail beginning with
-- these words and ending as before
abbrev pub EachRun : Net → (ℕ → Type 0) → Report → List ℕ → Type 0
EachRun v Fits r words = (before after : Lent) (answer : Result Report RunRefusal) (w : Net) → Fits (length before.trail) → refused v.graph.nodes before ≡ None → Run v before answer w after → (answer ≡ Ok r) × (after.trail ≡ words ++ drop (length words) before.trail)

-- there is one augmenting path, these are its words in a trail, and none is left after it; a run whose trail has room for it finishes
pub record OnlyPath (v : Net) (words : List ℕ) : Type 0 where
  pub path : Path
  pub words_are : path_words path ≡ words
  pub augmenting : Augmenting v path
  pub only : (p : Path) → Augmenting v p → p ≡ path
  pub last : (p : Path) → Augmenting (carried v path) p → ⊥
  pub runs : EachRun v (λ size. v.graph.nodes + 2 ≤ size) (record { outcome = Finished; log = record { paths = 1; gain = path.amount; words = length words } }) words

-- there is no augmenting path; a run finishes, having carried out no path and gained nothing, whatever trail it is lent
pub record NoPath (v : Net) : Type 0 where
  pub none : (p : Path) → Augmenting v p → ⊥
  pub runs : EachRun v (λ size. Unit {0}) (record { outcome = Finished; log = no_log }) []

-- a path is left, and a trail of so many words has fewer than the n + 2 with which a run goes on; so a run pauses, having carried out
-- no path and gained nothing
pub record TooShort (v : Net) (words : ℕ) : Type 0 where
  pub left : (p : Path) × Augmenting v p
  pub few : words < v.graph.nodes + 2
  pub runs : EachRun v (λ size. size ≡ words) (record { outcome = Paused; log = no_log }) []

abbrev pub Also : Net → Besides → Type 0
Also v nothing_else = Unit {0}
Also v no_path = NoPath v
Also v (only_path words) = OnlyPath v words
Also v (short_trail words) = TooShort v words

pub record Case : Type 0 where
  pub subject : Subject
  -- what the cheapest selections cost
  pub least : ℕ
  -- the nodes' marks, in order of number
  pub marks : List Mark
  pub besides : Besides

pub record Holds (c : Case) : Type 0 where
  pub least : CheapestCost (network c.subject) c.least
  pub marks : AllMarked (network c.subject) c.marks
  pub besides : Also (network c.subject) c.besides

-- Words to write the table with.

abbrev pub row : Subject → ℕ → List Mark → Besides → Case
row s c marks x = record { subject = s; least = c; marks = marks; besides = x }

-- a book of one entry, which earns x and costs y
abbrev pub one_entry : ℕ → ℕ → Subject
one_entry x y = a_book (with_entry empty x y)

-- two jobs that both need a set-up, which costs y
abbrev pub two_jobs : ℕ → Subject
two_jobs y = a_book (record {
  entries = record { earning = 50; cost = 0 } ∷ record { earning = 30; cost = 0 } ∷ record { earning = 0; cost = y } ∷ [];
  needs = record { entry = 0; needed = 2 } ∷ record { entry = 1; needed = 2 } ∷ [];
})

-- two pixels side by side, which cost 2 and 6 as line and 7 and 5 as tone, with the penalty p where one is line and the other tone
abbrev pub two_pixels : ℕ → Subject
two_pixels p = a_tile 2 1 (2 ∷ 7 ∷ p ∷ 0 ∷ 6 ∷ 5 ∷ 0 ∷ 0 ∷ [])

abbrev pub table : List Case
table =
    row (a_book empty) 0 [] no_path
    ∷ row (one_entry 0 0) 0 (Either ∷ []) nothing_else
    ∷ row (one_entry 5 5) 5 (Either ∷ []) (only_path (0 ∷ 5 ∷ 0 ∷ []))
    ∷ row (one_entry 5 0) 0 (In ∷ []) nothing_else
    ∷ row (one_entry 0 5) 0 (Out ∷ []) nothing_else
    ∷ row (two_jobs 60) 60 (In ∷ In ∷ In ∷ []) nothing_else
    ∷ row (two_jobs 80) 80 (Either ∷ Either ∷ Either ∷ []) nothing_else
    ∷ row (two_jobs 90) 80 (Out ∷ Out ∷ Out ∷ []) nothing_else
    ∷ row (two_jobs 60) 60 (In ∷ In ∷ In ∷ []) (short_trail 4)
    ∷ row (two_pixels 3) 8 (In ∷ In ∷ []) nothing_else
    ∷ row (two_pixels 1) 8 (In ∷ Either ∷ []) nothing_else
    ∷ row (two_pixels 0) 7 (In ∷ Out ∷ []) nothing_else
    ∷ []
