-- A job list as lines of words.
use Rattle.std.specs.Prelude.{ℕ, ◌+◌, Bool, false, not, ◌||◌, ◌==◌, nat_lt, List, [], ◌∷◌, map, filter, length, slice_index}
use Rattle.std.specs.List.{slice_split, enumerate_from}

-- what stands between words: a space, a tab, a carriage return
abbrev pub is_blank : ℕ → Bool
is_blank b = b == 32 || b == 9 || b == 13

-- the words of a line
abbrev pub words_of : List ℕ → List (List ℕ)
words_of line = filter (λ word. nat_lt 0 (length word)) (slice_split is_blank line)

-- a line: its number, counted from 1, and its words
pub record Line : Type 0 where
  pub number : ℕ
  pub words : List (List ℕ)

abbrev pub numbered : ℕ × List ℕ → Line
numbered (i, line) = record { number = i + 1; words = words_of line }

-- whether these words say something: there is one, and the first does not begin with #
abbrev pub says : List (List ℕ) → Bool
says [] = false
says (first ∷ more) = not (slice_index first 0 == 35)

-- the lines of a text that say something
abbrev pub lines_of : List ℕ → List Line
lines_of text = filter (λ l. says l.words) (map numbered (enumerate_from 0 (slice_split (λ b. b == 10) text)))
