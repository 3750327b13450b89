-- What inner functions agree on.
use Rattle.std.specs.Prelude.{ℕ, ◌-◌, ◌^◌, ◌≤◌, min, List, [], ◌∷◌, Some, None, Ok, Err, Option, Result, vec_items, Vec}
use Rattle.std.specs.declared.alloc.Global.{Global}
use Rattle.netpbm.specs.declared.numbers.Number.{Number}
use Rattle.netpbm.specs.declared.header.Form.{Form}
use Rattle.netpbm.specs.declared.header.Form.TheVariants.{Raw, Plain}
use Rattle.netpbm.specs.declared.header.Header.{Header as TheHeader}
use Rattle.netpbm.specs.declared.refusal.ImageRefusal.{ImageRefusal}
use Rattle.netpbm.specs.Numerals.{Numeral, number_read}
use Rattle.netpbm.specs.Headers.{Header}

-- the number that the code holds
abbrev pub numeral_of : Number → Numeral
numeral_of n = record { value = n.value; rest = n.rest.now }

-- a number as the code holds it: one that is too large for it is the largest that it can hold
abbrev pub capped : Numeral → Numeral
capped n = record { value = min n.value (2 ^ 64 - 1); rest = n.rest }

-- the header that the code holds, or the refusal
abbrev pub the_header : TheHeader → Header
the_header h = record { form = h.form; width = h.width; height = h.height; largest = h.largest; raster = h.raster.now }

abbrev pub header_told : Result TheHeader ImageRefusal → Result Header ImageRefusal
header_told (Ok h) = Ok (the_header h)
header_told (Err x) = Err x

-- what the questions that it passed say of a header
pub record Bounded (h : Header) : Type 0 where
  pub some_columns : 1 ≤ h.width
  pub few_columns : h.width ≤ 16384
  pub some_rows : 1 ≤ h.height
  pub few_rows : h.height ≤ 16384
  pub some_largest : 1 ≤ h.largest
  pub few_largest : h.largest ≤ 255

-- the value that a raster begins with, and what stands behind it
abbrev pub sample : Form → List ℕ → Option Numeral
sample Plain bs = number_read bs
sample Raw [] = None
sample Raw (b ∷ bs) = Some (record { value = b; rest = bs })

-- the greys that were read, or the refusal
abbrev pub greys_told : Result (Vec ℕ Global) ImageRefusal → Result (List ℕ) ImageRefusal
greys_told (Ok greys) = Ok (vec_items greys)
greys_told (Err x) = Err x
