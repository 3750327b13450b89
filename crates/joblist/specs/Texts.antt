-- The words that tell a refusal.
use Rattle.std.specs.Prelude.{ℕ, List, ◌++◌, codes, decimal}
use Rattle.joblist.specs.declared.refusal.Fault.{Fault}
use Rattle.joblist.specs.declared.refusal.Fault.TheVariants.{NoEntry, AmountRange, NameTaken, TooMany, ManyNeeds, Unknown, Itself, Repeated}
use Rattle.joblist.specs.declared.refusal.JobRefusal.{JobRefusal}
use Rattle.joblist.specs.declared.refusal.JobRefusal.TheVariants.{TooLong, Faulty}
use Rattle.joblist.specs.Refusals.{question}

abbrev pub fault_text : Fault → List ℕ
fault_text NoEntry = codes "it is not job or set-up, a name and an amount, nor both, a name and two amounts"
fault_text AmountRange = codes "what stands behind its name is not a number from 0 to 1000000"
fault_text NameTaken = codes "an earlier line has this name"
fault_text TooMany = codes "it is past the first 4096 entries"
fault_text ManyNeeds = codes "it needs more than four"
fault_text Unknown = codes "it needs a name that no line has"
fault_text Itself = codes "it needs itself"
fault_text Repeated = codes "it needs the same name twice"

abbrev pub refusal_text : JobRefusal → List ℕ
refusal_text TooLong = codes "the text has more than 1048576 bytes (50)"
refusal_text (Faulty f l) =
    codes "line " ++ (decimal l ++ (codes ": " ++ (fault_text f ++ (codes " (" ++ (decimal (question f) ++ codes ")")))))
