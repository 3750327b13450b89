-- The entries that the lines of a job list tell.
use Rattle.std.specs.Prelude.{ℕ, ◌-◌, Bool, cond, List, [], drop, codes, slice_index_or}
use Rattle.std.specs.Str.{bytes_eq}
use Rattle.std.specs.Str.Parse.{digits_value}
use Rattle.book.specs.Books.{Amounts, no_amounts}
use Rattle.joblist.specs.Lines.{Line}

-- an entry: the number of its line, its name, what it earns and costs, and the names of what it needs
pub record Entry : Type 0 where
  pub line : ℕ
  pub name : List ℕ
  pub amounts : Amounts
  pub needs : List (List ℕ)

-- what stands where a list has nothing
abbrev pub no_line : Line
no_line = record { number = 0; words = [] }

abbrev pub no_entry : Entry
no_entry = record { line = 0; name = []; amounts = no_amounts; needs = [] }

-- word number k of a line, from 0
abbrev pub word : List (List ℕ) → ℕ → List ℕ
word words k = slice_index_or words k []

abbrev pub is_job : List (List ℕ) → Bool
is_job words = bytes_eq (word words 0) (codes "job")

abbrev pub is_set_up : List (List ℕ) → Bool
is_set_up words = bytes_eq (word words 0) (codes "set-up")

abbrev pub is_both : List (List ℕ) → Bool
is_both words = bytes_eq (word words 0) (codes "both")

-- how many words stand before the names of what an entry needs: the first, its name, and its one amount or both
abbrev pub first_need : List (List ℕ) → ℕ
first_need words = cond (is_both words) 4 3

-- the first amount and the last, which are one where there is one
abbrev pub first_amount : List (List ℕ) → List ℕ
first_amount words = word words 2

abbrev pub last_amount : List (List ℕ) → List ℕ
last_amount words = word words (first_need words - 1)

-- a job earns its amount, a set-up costs it, and what has both earns the first and costs the last
abbrev pub amounts : List (List ℕ) → Amounts
amounts words = record {
  earning = cond (is_set_up words) 0 (digits_value 10 (first_amount words));
  cost = cond (is_job words) 0 (digits_value 10 (last_amount words));
}

-- the entry that a line tells
abbrev pub entry_of : Line → Entry
entry_of l = record { line = l.number; name = word l.words 1; amounts = amounts l.words; needs = drop (first_need l.words) l.words }
