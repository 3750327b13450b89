-- How a call's answer is told as numbers.
use Rattle.std.specs.Prelude.{◌≡◌, ℕ, Ok, Err, Result}
use Rattle.std.specs.declared.alloc.AllocError.{AllocError}
use Rattle.engine.specs.declared.lending.Best.{Best}
use Rattle.engine.specs.declared.refusal.LentRefusal.{LentRefusal}
use Rattle.engine.specs.Refusals.{lent_told}
use Rattle.cheapest.specs.declared.answer.PlanAnswer.{PlanAnswer}
use Rattle.cheapest.specs.declared.answer.SplitAnswer.{SplitAnswer}

-- the answer tells a result that is so
abbrev pub Tells : {A B : Type 0} → (A → B) → (A → Type 0) → B → Type 0
Tells {A} tell Is answer = (r : A) × Is r × (answer ≡ tell r)

-- of what is not told, the number is 0
abbrev pub plan_answer : Result (Result Best LentRefusal) AllocError → PlanAnswer
plan_answer (Ok (Ok b)) = record { number = 0; «record» = 0; byte = 0; entries = b.counts.entries; needs = b.counts.needs; least = b.least; net = b.net }
plan_answer (Ok (Err x)) = let told = lent_told x in record { number = told.number; «record» = told.«record»; byte = told.byte; entries = 0; needs = 0; least = 0; net = 0 }
plan_answer (Err _) = record { number = 255; «record» = 0; byte = 0; entries = 0; needs = 0; least = 0; net = 0 }

abbrev pub split_answer : Result (Result ℕ LentRefusal) AllocError → SplitAnswer
split_answer (Ok (Ok e)) = record { number = 0; energy = e }
split_answer (Ok (Err x)) = record { number = (lent_told x).number; energy = 0 }
split_answer (Err _) = record { number = 255; energy = 0 }
