-- The refusals of a sheet: the number of each question, and what a refusal tells.
use Rattle.std.specs.Prelude.{ℕ, ◌-◌, List, [], ◌∷◌, take}
use Rattle.sheet.specs.declared.refusal.Fault.{Fault}
use Rattle.sheet.specs.declared.refusal.Fault.TheVariants.{TooMany, HighBits, NeedGap, CutShort, AmountRange, NeedOrder}
use Rattle.sheet.specs.declared.refusal.SheetRefusal.{SheetRefusal}
use Rattle.sheet.specs.declared.refusal.SheetRefusal.TheVariants.{Empty, Faulty, Missing}
use Rattle.sheet.specs.declared.refusal.Told.{Told}

-- the number of the question whose answer is no
abbrev pub question : Fault → ℕ
question TooMany = 12
question HighBits = 13
question NeedGap = 14
question CutShort = 15
question AmountRange = 16
question NeedOrder = 17

-- what a refusal tells: the question's number, the record's number, and the place of the record's first byte
abbrev pub told : SheetRefusal → Told
told Empty = record { number = 11; «record» = 0; byte = 0 }
told (Faulty f i p) = record { number = question f; «record» = i; byte = p }
told (Missing i p) = record { number = 18; «record» = i; byte = p }

-- the questions put to each record, in their order
abbrev pub questions : List Fault
questions = TooMany ∷ HighBits ∷ NeedGap ∷ CutShort ∷ AmountRange ∷ NeedOrder ∷ []

-- those put before the one that finds f
abbrev pub asked_before : Fault → List Fault
asked_before f = take (question f - 12) questions
