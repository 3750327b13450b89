-- Headers, question by question.
use Rattle.std.proofs.Common.{◌≡◌, ℕ, List, drop, Some, Ok, Option, Result, refl, ap, ◌∙◌, take, length, ◌-◌, arith, Bool, true, false, cond, ◌&&◌, nat_le, ◌≤◌, None, subst}
use Rattle.netpbm.specs.declared.refusal.ImageRefusal.{ImageRefusal}
use Rattle.netpbm.specs.declared.refusal.ImageRefusal.TheVariants.{NotPgm, SizeRange, LargestRange}
use Rattle.netpbm.specs.Numerals.{Numeral, number_to, within, number_read}
use Rattle.netpbm.specs.Headers.{Header, form_of, raster_behind, asked, header_read}
use Rattle.std.proofs.lemmas.List.{take_all, length-drop}
use Rattle.std.specs.Option.{option_and_then}
use Rattle.std.proofs.lemmas.Bool.Decides.{nat_tests}
use Rattle.netpbm.specs.Passes.{Bounded}

-- what is there answers its question
pub asked_some : {A B : Type 0} (o : Option A) (a : A) (x : ImageRefusal) (f : A → Result B ImageRefusal) → o ≡ Some a → asked o x f ≡ f a
asked_some o a x f is = ap (λ p. asked p x f) is

-- the parts that a header tells, where each is there
pub record Parts (bs : List ℕ) (h : Header) : Type 0 where
  pub width_rest : List ℕ
  pub height_rest : List ℕ
  pub largest_rest : List ℕ
  pub form : form_of bs ≡ Some h.form
  pub width : number_to 16384 (drop 2 bs) ≡ Some (record { value = h.width; rest = width_rest })
  pub height : number_to 16384 width_rest ≡ Some (record { value = h.height; rest = height_rest })
  pub largest : number_to 255 height_rest ≡ Some (record { value = h.largest; rest = largest_rest })
  pub raster : raster_behind h.form largest_rest ≡ Some h.raster

pub parts_read : (bs : List ℕ) (h : Header) → Parts bs h → header_read bs ≡ Ok h
parts_read bs h p = asked_some _ _ NotPgm _ p.form ∙ (asked_some _ _ SizeRange _ p.width ∙ (asked_some _ _ SizeRange _ p.height ∙ (asked_some _ _ LargestRange _ p.largest ∙ asked_some _ _ LargestRange _ p.raster)))

-- what a slice from a place on holds
pub slice_from : (n : ℕ) (bs : List ℕ) → take (length bs - n) (drop n bs) ≡ drop n bs
slice_from n bs = take_all (length bs - n) (drop n bs) (omega (arith, length-drop n bs))

-- what is answered, where an answer came
asked-ok : {A B : Type 0} (o : Option A) (x : ImageRefusal) (f : A → Result B ImageRefusal) (b : B) → asked o x f ≡ Ok b → (a : A) × (o ≡ Some a) × (f a ≡ Ok b)
asked-ok None x f b is = cc
asked-ok (Some a) x f b is = (a, refl, is)

-- a number that was read within limits is within them
within-some : (most : ℕ) (m n : Numeral) → within most m ≡ Some n → (1 ≤ n.value) × (n.value ≤ most)
within-some most m n is = within-cases (nat_le 1 m.value) (nat_le m.value most) refl refl is
  where
    within-cases : (low high : Bool) → nat_le 1 m.value ≡ low → nat_le m.value most ≡ high → cond (low && high) (Some m) None ≡ Some n → (1 ≤ n.value) × (n.value ≤ most)
    within-cases true true low high is =
        let same : m ≡ n = cc in
        subst (λ (k : Numeral). (1 ≤ k.value) × (k.value ≤ most)) same (grind (arith, nat_tests), grind (arith, nat_tests))
    within-cases true false low high is = cc
    within-cases false true low high is = cc
    within-cases false false low high is = cc

pub number-bounds : (most : ℕ) (bs : List ℕ) (n : Numeral) → number_to most bs ≡ Some n → (1 ≤ n.value) × (n.value ≤ most)
number-bounds most bs n is = number-cases (number_read bs) is
  where
    number-cases : (o : Option Numeral) → option_and_then (within most) o ≡ Some n → (1 ≤ n.value) × (n.value ≤ most)
    number-cases None is = cc
    number-cases (Some m) is = within-some most m n is

-- a header that was read has its parts
pub parts_found : (bs : List ℕ) (h : Header) → header_read bs ≡ Ok h → Parts bs h
parts_found bs h is =
    let (form, has_form, read_form) = asked-ok (form_of bs) NotPgm _ h is in
    let (width, has_width, read_width) = asked-ok (number_to 16384 (drop 2 bs)) SizeRange _ h read_form in
    let (height, has_height, read_height) = asked-ok (number_to 16384 width.rest) SizeRange _ h read_width in
    let (largest, has_largest, read_largest) = asked-ok (number_to 255 height.rest) LargestRange _ h read_height in
    let (raster, has_raster, read_raster) = asked-ok (raster_behind form largest.rest) LargestRange _ h read_largest in
    let same : record { form = form; width = width.value; height = height.value; largest = largest.value; raster = raster } ≡ h = cc in
    subst (Parts bs) same (record {
      width_rest = width.rest;
      height_rest = height.rest;
      largest_rest = largest.rest;
      form = has_form;
      width = has_width;
      height = has_height;
      largest = has_largest;
      raster = has_raster;
    })

-- and its numbers are within limits
pub header_bounded : (bs : List ℕ) (h : Header) → header_read bs ≡ Ok h → Bounded h
header_bounded bs h is =
    let p = parts_found bs h is in
    let w = number-bounds 16384 (drop 2 bs) (record { value = h.width; rest = p.width_rest }) p.width in
    let v = number-bounds 16384 p.width_rest (record { value = h.height; rest = p.height_rest }) p.height in
    let m = number-bounds 255 p.height_rest (record { value = h.largest; rest = p.largest_rest }) p.largest in
    record { some_columns = w.0; few_columns = w.1; some_rows = v.0; few_rows = v.1; some_largest = m.0; few_largest = m.1 }
