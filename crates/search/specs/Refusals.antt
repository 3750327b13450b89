-- When a run is refused, and the numbers of its refusals.
use Rattle.std.specs.Prelude.{ℕ, cond, Some, None, Option, nat_lt}
use Rattle.search.specs.declared.refusal.RunRefusal.{RunRefusal}
use Rattle.search.specs.declared.refusal.RunRefusal.TheVariants.{FewRecords, FewMarks}

-- the number of the question whose answer is no
abbrev pub question : RunRefusal → ℕ
question FewRecords = 25
question FewMarks = 26

-- the first question whose answer is no, where there are so many nodes, working records and mark bytes
abbrev pub first_refusal : ℕ → ℕ → ℕ → Option RunRefusal
first_refusal nodes records marks = cond (nat_lt records nodes) (Some FewRecords) (cond (nat_lt marks nodes) (Some FewMarks) None)
