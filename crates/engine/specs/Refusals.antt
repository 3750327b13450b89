-- What a refusal tells.
use Rattle.std.specs.Prelude.{ℕ}
use Rattle.sheet.specs.declared.refusal.Told.{Told}
use Rattle.filing.specs.Refusals.{told as load_told}
use Rattle.tile.specs.Refusals.{question as lay_question}
use Rattle.search.specs.Refusals.{question as run_question}
use Rattle.engine.specs.declared.refusal.LentRefusal.{LentRefusal}
use Rattle.engine.specs.declared.refusal.LentRefusal.TheVariants.{Lay, Run, Load as LentLoad}
use Rattle.engine.specs.declared.refusal.PlanRefusal.{PlanRefusal}
use Rattle.engine.specs.declared.refusal.PlanRefusal.TheVariants.{TooLong, Load}

-- its number, and the number and first byte of the record that it is about
abbrev pub told : PlanRefusal → Told
told TooLong = record { number = 30; «record» = 0; byte = 0 }
told (Load x) = load_told x

-- a refusal that is about no record
abbrev pub of_number : ℕ → Told
of_number k = record { number = k; «record» = 0; byte = 0 }

abbrev pub lent_told : LentRefusal → Told
lent_told (LentLoad x) = load_told x
lent_told (Lay x) = of_number (lay_question x)
lent_told (Run x) = of_number (run_question x)
