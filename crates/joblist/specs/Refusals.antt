-- The numbers of the questions, and what a refusal tells.
use Rattle.std.specs.Prelude.{ℕ}
use Rattle.joblist.specs.declared.refusal.Fault.{Fault}
use Rattle.joblist.specs.declared.refusal.Fault.TheVariants.{NoEntry, AmountRange, NameTaken, TooMany, ManyNeeds, Unknown, Itself, Repeated}
use Rattle.joblist.specs.declared.refusal.JobRefusal.{JobRefusal}
use Rattle.joblist.specs.declared.refusal.JobRefusal.TheVariants.{TooLong, Faulty}
use Rattle.joblist.specs.declared.refusal.Told.{Told}

-- the number of the question whose answer is no
abbrev pub question : Fault → ℕ
question NoEntry = 51
question AmountRange = 52
question NameTaken = 53
question TooMany = 54
question ManyNeeds = 55
question Unknown = 56
question Itself = 57
question Repeated = 58

-- what a refusal tells: the question's number and the line's, which is 0 where it is about the text
abbrev pub told : JobRefusal → Told
told TooLong = record { number = 50; line = 0 }
told (Faulty f l) = record { number = question f; line = l }
