-- Files as tools mostly write them, and what is promised of each that is read.
use Rattle.std.proofs.Common.{◌≡◌, ℕ, ◌*◌, ◌/◌, ◌^◌, ◌<◌, ◌≤◌, List, [], ◌∷◌, ◌++◌, map, codes, decimal, Ok, Err, Result, inl, inr, refl, sym, ap, ◌∙◌, append-nil, lit<, arith}
use Rattle.std.specs.List.{AllByRecursion, flat_map}
use Rattle.std.proofs.lemmas.Fmt.{decimal_is_IsNumeral}
use Rattle.netpbm.specs.declared.refusal.ImageRefusal.{ImageRefusal}
use Rattle.netpbm.specs.Headers.{Header, header_read}
use Rattle.netpbm.specs.Images.{Image, and_then, greys_read, image_read, image_behind}
use Rattle.netpbm.specs.Layouts.{IsGap, Word, word_bytes, Tells, AllTell, Layout, IsImage, IsHeader, IsFile, brightened, IsAnswered, raw_pgm, plain_pgm}
use Rattle.netpbm.specs.Layouts.IsBlank.{nothing, space}
use Rattle.netpbm.proofs.Gaps.{all_digits}
use Rattle.netpbm.proofs.Files.{file_read}
use Rattle.netpbm.proofs.Backs.{only-files}

-- a number as it is mostly written, behind one byte
abbrev word : ℕ → ℕ → Word
word b n = record { gap = b ∷ []; digits = decimal n }

word-tells : (b n : ℕ) → IsGap (b ∷ []) → n < 2 ^ 64 → Tells (word b n) n
word-tells b n gap small =
    let ((some, digits), value) = decimal_is_IsNumeral n small in
    record { apart = gap; some = some; decimal = all_digits (decimal n) digits; value = value }

line_feed : IsGap (10 ∷ [])
line_feed = record { blank = space refl nothing; some = lit< tt }

blank : IsGap (32 ∷ [])
blank = record { blank = space refl nothing; some = lit< tt }

-- the layout of such a file
abbrev layout : List ℕ → Image → List ℕ → Layout
layout form i rest = record { form = form; width = word 10 i.width; height = word 32 i.height; largest = word 10 255; rest = rest }

header : (form : List ℕ) (i : Image) (rest : List ℕ) → IsImage 255 i → IsHeader (layout form i rest) 255 i
header form i rest image = record {
  image = image;
  width = word-tells 10 i.width line_feed (omega (arith, image.within.few_columns));
  height = word-tells 32 i.height blank (omega (arith, image.within.few_rows));
  largest = word-tells 10 255 line_feed (lit< tt);
}

-- its values, as numbers
abbrev words : List ℕ → List Word
words vs = map (word 10) vs

words-tell : (vs : List ℕ) → AllByRecursion (λ v. v ≤ 255) vs → AllTell (words vs) vs
words-tell [] few = tt
words-tell (v ∷ vs) (small, few) = (word-tells 10 v line_feed (omega arith), words-tell vs few)

words-text : (vs : List ℕ) → flat_map (λ g. codes "\n" ++ decimal g) vs ≡ flat_map word_bytes (words vs)
words-text [] = refl
words-text (v ∷ vs) = ap (λ ys. (10 ∷ decimal v) ++ ys) (words-text vs)

raw-file : (i : Image) → IsImage 255 i → IsFile (raw_pgm i) 255 i
raw-file i image = record {
  layout = layout (codes "P5") i (10 ∷ i.greys);
  whole = refl;
  form = inl (record { header = header (codes "P5") i (10 ∷ i.greys) image; form = refl; space = 10; others = []; white = refl; raster = ap (λ ys. 10 ∷ ys) (sym (append-nil i.greys)) });
}

plain-file : (i : Image) → IsImage 255 i → IsFile (plain_pgm i) 255 i
plain-file i image =
    let rest = flat_map (λ (g : ℕ). codes "\n" ++ decimal g) i.greys ++ codes "\n" in
    record {
      layout = layout (codes "P2") i rest;
      whole = refl;
      form = inr (record { header = header (codes "P2") i rest image; form = refl; words = words i.greys; others = codes "\n"; told = words-tell i.greys image.values; ended = refl; raster = ap (λ ys. ys ++ codes "\n") (words-text i.greys) });
    }

-- where the largest value is that of white, values are greys
same-white : (i : Image) → brightened 255 i ≡ i
same-white i = ap (λ gs. record { width = i.width; height = i.height; greys = gs }) (same-greys i.greys)
  where
    same-grey : (v : ℕ) → v * 255 / 255 ≡ v
    same-grey v = omega arith

    same-greys : (vs : List ℕ) → map (λ v. v * 255 / 255) vs ≡ vs
    same-greys [] = refl
    same-greys (v ∷ vs) = rw (same-grey v, same-greys vs) refl

-- what is read is answered as promised
pub answered : (bs : List ℕ) (r : Result Image ImageRefusal) → r ≡ image_read bs → IsAnswered bs r
answered bs r is = record {
  each = λ m i file. is ∙ file_read bs m i file;
  only = only-files bs r is;
  raw = λ i image whole. is ∙ (ap image_read whole ∙ (file_read (raw_pgm i) 255 i (raw-file i image) ∙ ap Ok (same-white i)));
  plain = λ i image whole. is ∙ (ap image_read whole ∙ (file_read (plain_pgm i) 255 i (plain-file i image) ∙ ap Ok (same-white i)));
}

-- what is read of a file whose header is refused, and of one whose header is read
pub image-refused : (bs : List ℕ) (x : ImageRefusal) → Err x ≡ header_read bs → Err x ≡ image_read bs
image-refused bs x is = ap (λ r. and_then r image_behind) is

pub image-of_greys : (bs : List ℕ) (h : Header) (r : Result (List ℕ) ImageRefusal) → Ok h ≡ header_read bs → r ≡ greys_read h → and_then r (λ gs. Ok (record { width = h.width; height = h.height; greys = gs })) ≡ image_read bs
image-of_greys bs h r header greys = ap (λ s. and_then s (λ gs. Ok (record { width = h.width; height = h.height; greys = gs }))) greys ∙ ap (λ r. and_then r image_behind) header
