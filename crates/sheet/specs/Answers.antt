-- The answer to a sheet: accepted for the one list of entries it stands for, or refused by the first question that fails.
use Rattle.std.specs.Prelude.{◌≡◌, ℕ, ◌-◌, ◌/◌, ◌%◌, ◌^◌, ◌<◌, List, [], ◌∷◌, ◌++◌, length, Ok, Err, Result, slice_index}
use Rattle.std.specs.List.{AllByRecursion}
use Rattle.sheet.specs.declared.Counts.{Counts}
use Rattle.sheet.specs.declared.refusal.Fault.{Fault}
use Rattle.sheet.specs.declared.refusal.Fault.TheVariants.{TooMany, HighBits, NeedGap, CutShort, AmountRange, NeedOrder}
use Rattle.sheet.specs.declared.refusal.SheetRefusal.{SheetRefusal}
use Rattle.sheet.specs.declared.refusal.SheetRefusal.TheVariants.{Empty, Faulty, Missing}
use Rattle.sheet.specs.Format.{Entry, entry_bytes, sheet_bytes}
use Rattle.sheet.specs.Sound.{Fits, InRange, Ordered, Sound, Numbered, There, WellFormed, counts}
use Rattle.sheet.specs.Refusals.{asked_before}

-- the bytes begin with the whole record of e
pub record Begins (bs : List ℕ) (e : Entry) : Type 0 where
  pub fits : Fits e
  pub tail : List ℕ
  pub whole : bs ≡ entry_bytes e ++ tail

-- record number i, which begins bs, is free of the fault: the question is answered yes
abbrev pub Free : Fault → ℕ → List ℕ → Type 0
Free TooMany i bs = i < 4096
Free HighBits i bs = slice_index bs 0 < 64
Free NeedGap i bs = (k : ℕ) × (slice_index bs 0 / 4 % 16 ≡ 2 ^ k - 1)
Free CutShort i bs = (e : Entry) × Begins bs e
Free AmountRange i bs = (e : Entry) × Begins bs e × InRange e.earning × InRange e.cost
Free NeedOrder i bs = (e : Entry) × Begins bs e × Ordered i e.needs

-- the first question that fails is the one that finds f
pub record First (f : Fault) (i : ℕ) (bs : List ℕ) : Type 0 where
  pub before : AllByRecursion (λ g. Free g i bs) (asked_before f)
  pub fails : Free f i bs → ⊥

-- the records before number i, which begins at byte p, are sound, and it is the first with a fault, which is f
pub record FaultyAt (bs : List ℕ) (f : Fault) (i p : ℕ) : Type 0 where
  pub before : List Entry
  pub rest : List ℕ
  pub whole : bs ≡ sheet_bytes before ++ rest
  pub more : 0 < length rest
  pub sound : Numbered Sound 0 before
  pub number : i ≡ length before
  pub place : p ≡ length (sheet_bytes before)
  pub first : First f i rest

-- bs is the records of es, each sound by itself
pub record SoundSheet (bs : List ℕ) (es : List Entry) : Type 0 where
  pub whole : bs ≡ sheet_bytes es
  pub sound : Numbered Sound 0 es

-- all records are sound, and number i, which begins at byte p, is the first that needs an entry that is not there
pub record MissingAt (bs : List ℕ) (i p : ℕ) : Type 0 where
  pub before : List Entry
  pub entry : Entry
  pub after : List Entry
  pub sheet : SoundSheet bs (before ++ entry ∷ after)
  pub number : i ≡ length before
  pub place : p ≡ length (sheet_bytes before)
  pub there : AllByRecursion (There (length (before ++ entry ∷ after))) before
  pub missing : There (length (before ++ entry ∷ after)) entry → ⊥

-- bs is the sheet of the well-formed list es
pub record SheetOf (bs : List ℕ) (es : List Entry) : Type 0 where
  pub well : WellFormed es
  pub whole : bs ≡ sheet_bytes es

-- r is the answer to the sheet bs
abbrev pub Answers : List ℕ → Result Counts SheetRefusal → Type 0
Answers bs (Ok c) = (es : List Entry) × SheetOf bs es × (c ≡ counts es)
Answers bs (Err Empty) = bs ≡ []
Answers bs (Err (Faulty f i p)) = FaultyAt bs f i p
Answers bs (Err (Missing i p)) = MissingAt bs i p
