-- The questions that are put to a line: the first whose answer is no.
use Rattle.std.specs.Prelude.{ℕ, Bool, cond, not, ◌&&◌, ◌||◌, ◌==◌, nat_le, nat_lt, List, [], ◌∷◌, length, drop, Some, None, Option}
use Rattle.std.specs.List.{list_any, position_or_len}
use Rattle.std.specs.Str.{bytes_eq}
use Rattle.joblist.specs.declared.refusal.Fault.{Fault}
use Rattle.joblist.specs.declared.refusal.Fault.TheVariants.{NoEntry, AmountRange, NameTaken, TooMany, ManyNeeds, Unknown, Itself, Repeated}
use Rattle.joblist.specs.Amounts.{is_amount}
use Rattle.joblist.specs.Entries.{Entry, word, is_job, is_set_up, is_both, first_need, first_amount, last_amount}

-- each question has its answer, and the fault that it finds where the answer is no: the first fault
abbrev pub first_no : List (Bool × Fault) → Option Fault
first_no [] = None
first_no ((answer, f) ∷ more) = cond answer (first_no more) (Some f)

-- whether words are those of an entry: `job` or `set-up`, a name and an amount, or `both`, a name and two amounts
abbrev pub tells_entry : List (List ℕ) → Bool
tells_entry words = nat_le (first_need words) (length words) && (is_job words || is_set_up words || is_both words)

-- whether one of the entries has this name
abbrev pub is_taken : List Entry → List ℕ → Bool
is_taken es name = list_any (λ e. bytes_eq e.name name) es

-- put to a line of these words by itself, where these entries stand on the lines before it
abbrev pub line_fault : List Entry → List (List ℕ) → Option Fault
line_fault before words = first_no (
    (tells_entry words, NoEntry)
    ∷ (is_amount (first_amount words) && is_amount (last_amount words), AmountRange)
    ∷ (not (is_taken before (word words 1)), NameTaken)
    ∷ (nat_lt (length before) 4096, TooMany)
    ∷ (nat_le (length (drop (first_need words) words)) 4, ManyNeeds)
    ∷ []
    )

-- the number of the first entry with this name; how many there are, where none has it
abbrev pub number_of : List Entry → List ℕ → ℕ
number_of es name = position_or_len (λ e. bytes_eq e.name name) es

-- whether one of the names is this one
abbrev pub is_among : List (List ℕ) → List ℕ → Bool
is_among names name = list_any (λ other. bytes_eq other name) names

-- put to a name that entry number u needs, where its line names these before it
abbrev pub need_fault : List Entry → ℕ → List (List ℕ) → List ℕ → Option Fault
need_fault es u before name = first_no (
    (nat_lt (number_of es name) (length es), Unknown)
    ∷ (not (number_of es name == u), Itself)
    ∷ (not (is_among before name), Repeated)
    ∷ []
    )
