-- What makes a list of entries well formed, so that it has a sheet.
use Rattle.std.specs.Prelude.{ℕ, suc, ◌+◌, ◌^◌, ◌<◌, ◌≤◌, List, [], ◌∷◌, length, Some, None, Option, ◌≢◌, slice_index}
use Rattle.std.specs.List.{AllByRecursion}
use Rattle.sheet.specs.declared.Counts.{Counts}
use Rattle.sheet.specs.Format.{Entry}

-- an amount, where it is there, is below n
abbrev pub Under : ℕ → Option ℕ → Type 0
Under n None = Unit {0}
Under n (Some x) = x < n

-- the fields can hold what the entry says: four bytes an amount, two bytes a need, a bit for each of four needs
pub record Fits (e : Entry) : Type 0 where
  pub earning : Under (2 ^ 32) e.earning
  pub cost : Under (2 ^ 32) e.cost
  pub needs : AllByRecursion (λ j. j < 2 ^ 16) e.needs
  pub few : length e.needs ≤ 4

-- an amount that is there lies between 1 and 1,000,000: it is absent exactly when it is 0
abbrev pub InRange : Option ℕ → Type 0
InRange None = Unit {0}
InRange (Some x) = (1 ≤ x) × (x ≤ 1000000)

-- the needs of entry number i ascend, so that none stands twice, and none is its own number
pub record Ordered (i : ℕ) (ns : List ℕ) : Type 0 where
  pub ascending : (j : ℕ) → j + 1 < length ns → slice_index ns j < slice_index ns (j + 1)
  pub others : AllByRecursion (λ j. j ≢ i) ns

-- all that is asked of entry number i by itself
pub record Sound (i : ℕ) (e : Entry) : Type 0 where
  pub within : i < 4096
  pub fits : Fits e
  pub earning : InRange e.earning
  pub cost : InRange e.cost
  pub ordered : Ordered i e.needs

-- P holds of each entry and its number, the first one's being i
abbrev pub Numbered : (ℕ → Entry → Type 0) → ℕ → List Entry → Type 0
Numbered P i [] = Unit {0}
Numbered P i (e ∷ es) = P i e × Numbered P (suc i) es

-- each need of an entry is among the first n entries
abbrev pub There : ℕ → Entry → Type 0
There n e = AllByRecursion (λ j. j < n) e.needs

-- a list of entries that has a sheet
pub record WellFormed (es : List Entry) : Type 0 where
  pub some : 0 < length es
  pub sound : Numbered Sound 0 es
  pub there : AllByRecursion (There (length es)) es

abbrev pub need_count : List Entry → ℕ
need_count [] = 0
need_count (e ∷ es) = length e.needs + need_count es

-- how many entries and how many needs there are
abbrev pub counts : List Entry → Counts
counts es = record { entries = length es; needs = need_count es }
