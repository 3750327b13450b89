-- When an open book refuses an entry or a need, and the numbers of the refusals.
use Rattle.std.specs.Prelude.{ℕ, Bool, cond, ◌||◌, List, length, Some, None, Option, ◌==◌, nat_le, nat_lt}
use Rattle.std.specs.List.{list_any}
use Rattle.book.specs.declared.refusal.EnterRefusal.{EnterRefusal}
use Rattle.book.specs.declared.refusal.EnterRefusal.TheVariants.{LargeEarning, LargeCost, ManyEntries, NoRecord}
use Rattle.book.specs.declared.refusal.NeedRefusal.{NeedRefusal}
use Rattle.book.specs.declared.refusal.NeedRefusal.TheVariants.{NoEntry, Itself, Repeated, ManyNeeds, FewRecords}

-- the number of the question whose answer is no
abbrev pub enter_question : EnterRefusal → ℕ
enter_question LargeEarning = 1
enter_question LargeCost = 2
enter_question ManyEntries = 3
enter_question NoRecord = 4

abbrev pub need_question : NeedRefusal → ℕ
need_question NoEntry = 5
need_question Itself = 6
need_question Repeated = 7
need_question ManyNeeds = 8
need_question FewRecords = 9

-- the first question whose answer is no: an entry of these amounts, for a book of so many entries with so many records unused
abbrev pub enter_refusal : ℕ → ℕ → ℕ → ℕ → Option EnterRefusal
enter_refusal earning cost entries unused =
    cond (nat_lt 1000000 earning) (Some LargeEarning) (cond (nat_lt 1000000 cost) (Some LargeCost) (cond (nat_le 4096 entries) (Some ManyEntries) (cond (nat_lt unused 1) (Some NoRecord) None)))

-- whether x is one of the numbers
abbrev pub among : ℕ → List ℕ → Bool
among x ys = list_any (λ y. y == x) ys

-- the first question whose answer is no: entry u is to need entry w, where u needs these already
abbrev pub need_refusal : ℕ → ℕ → List ℕ → ℕ → ℕ → Option NeedRefusal
need_refusal u w already entries unused =
    cond (nat_le entries u || nat_le entries w) (Some NoEntry) (cond (u == w) (Some Itself) (cond (among w already) (Some Repeated) (cond (nat_le 4 (length already)) (Some ManyNeeds) (cond (nat_lt unused 2) (Some FewRecords) None))))
