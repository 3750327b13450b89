-- The header of a PGM file: its form, its width and height, and its largest value.
use Rattle.std.specs.Prelude.{ℕ, cond, nat_eq, List, [], ◌∷◌, drop, codes, Some, None, Ok, Err, Option, Result}
use Rattle.std.specs.List.{starts_with}
use Rattle.netpbm.specs.declared.header.Form.{Form}
use Rattle.netpbm.specs.declared.header.Form.TheVariants.{Raw, Plain}
use Rattle.netpbm.specs.declared.refusal.ImageRefusal.{ImageRefusal}
use Rattle.netpbm.specs.declared.refusal.ImageRefusal.TheVariants.{NotPgm, SizeRange, LargestRange}
use Rattle.netpbm.specs.Blanks.{is_space}
use Rattle.netpbm.specs.Numerals.{number_to}

-- a header, and the raster: what stands behind it
pub record Header : Type 0 where
  pub form : Form
  pub width : ℕ
  pub height : ℕ
  pub largest : ℕ
  pub raster : List ℕ

-- the form that the first two bytes tell
abbrev pub form_of : List ℕ → Option Form
form_of bs = cond (starts_with nat_eq bs (codes "P5")) (Some Raw) (cond (starts_with nat_eq bs (codes "P2")) (Some Plain) None)

-- the raster behind a largest value; of a raw file, behind the white space byte that follows it
abbrev pub raster_behind : Form → List ℕ → Option (List ℕ)
raster_behind Plain bs = Some bs
raster_behind Raw [] = None
raster_behind Raw (b ∷ bs) = cond (is_space b) (Some bs) None

-- what f makes of what is there, or this refusal where it is not
abbrev pub asked : {A B : Type 0} → Option A → ImageRefusal → (A → Result B ImageRefusal) → Result B ImageRefusal
asked None x f = Err x
asked (Some a) x f = f a

-- the header of a file, or the first question whose answer is no
abbrev pub header_read : List ℕ → Result Header ImageRefusal
header_read bs =
    asked (form_of bs) NotPgm (λ form.
    asked (number_to 16384 (drop 2 bs)) SizeRange (λ width.
    asked (number_to 16384 width.rest) SizeRange (λ height.
    asked (number_to 255 height.rest) LargestRange (λ largest.
    asked (raster_behind form largest.rest) LargestRange (λ raster.
    Ok (record { form = form; width = width.value; height = height.value; largest = largest.value; raster = raster }))))))
