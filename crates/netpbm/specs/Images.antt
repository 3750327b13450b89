-- An image, and what the bytes of a PGM file mean: the image that they hold, or the first question whose answer is no.
use Rattle.std.specs.Prelude.{◌≡◌, ℕ, zero, suc, ◌*◌, ◌/◌, ◌≤◌, cond, nat_lt, List, [], ◌∷◌, map, length, take, Ok, Err, Result}
use Rattle.std.specs.List.{position_or_len}
use Rattle.std.specs.Option.{option_map_or}
use Rattle.netpbm.specs.declared.header.Form.{Form}
use Rattle.netpbm.specs.declared.header.Form.TheVariants.{Raw, Plain}
use Rattle.netpbm.specs.declared.refusal.ImageRefusal.{ImageRefusal}
use Rattle.netpbm.specs.declared.refusal.ImageRefusal.TheVariants.{NoGrey, AboveLargest}
use Rattle.netpbm.specs.Numerals.{number_read}
use Rattle.netpbm.specs.Headers.{Header, header_read}

-- greys from 0 for black to 255 for white, in rows from the top
pub record Image : Type 0 where
  pub width : ℕ
  pub height : ℕ
  pub greys : List ℕ

-- its sides are from 1 to 16,384, and it has a grey for each pixel
pub record WithinLimits (i : Image) : Type 0 where
  pub some_columns : 1 ≤ i.width
  pub few_columns : i.width ≤ 16384
  pub some_rows : 1 ≤ i.height
  pub few_rows : i.height ≤ 16384
  pub whole : length i.greys ≡ i.width * i.height

-- the first n numbers of a text, or as many as there are
unfoldable pub numbers : ℕ → List ℕ → List ℕ
numbers zero bs = []
numbers (suc n) bs = option_map_or (λ m. m.value ∷ numbers n m.rest) (number_read bs) []

-- the values of the first n pixels of a raster, or of as many as it has
abbrev pub values : Form → ℕ → List ℕ → List ℕ
values Raw n bs = take n bs
values Plain n bs = numbers n bs

-- the greys of n pixels whose values are these, where the largest value m stands for white; or the first pixel whose value is above m,
-- or that has none
abbrev pub greys_of : ℕ → ℕ → List ℕ → Result (List ℕ) ImageRefusal
greys_of n m vs =
    let above = position_or_len (λ v. nat_lt m v) vs in
    cond (nat_lt above (length vs)) (Err (AboveLargest above))
    (cond (nat_lt (length vs) n) (Err (NoGrey (length vs)))
    (Ok (map (λ v. v * 255 / m) vs)))

abbrev pub greys_read : Header → Result (List ℕ) ImageRefusal
greys_read h = let n = h.width * h.height in greys_of n h.largest (values h.form n h.raster)

-- f of what is there, or the refusal
abbrev pub and_then : {A B : Type 0} → Result A ImageRefusal → (A → Result B ImageRefusal) → Result B ImageRefusal
and_then (Err x) f = Err x
and_then (Ok a) f = f a

-- the image behind a header, and that of a file
abbrev pub image_behind : Header → Result Image ImageRefusal
image_behind h = and_then (greys_read h) (λ greys. Ok (record { width = h.width; height = h.height; greys = greys }))

abbrev pub image_read : List ℕ → Result Image ImageRefusal
image_read bs = and_then (header_read bs) image_behind
