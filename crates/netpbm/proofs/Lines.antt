-- A file of lines and tones as a plain PBM file: its digits, and how long its lines are.
use Rattle.std.proofs.Common.{◌≡◌, Bool, true, false, not, ◌||◌, ◌==◌, ℕ, zero, suc, ◌+◌, ◌*◌, ◌%◌, ◌<◌, ◌≤◌, List, [], ◌∷◌, ◌++◌, map, filter, length, codes, decimal, refl, sym, ap, ◌∙◌, append_assoc, append-nil, arith, subst, ⊎_elim, ◌^◌}
use Rattle.std.specs.List.{AllByRecursion, flat_map, list_all, range_with_len, slice_split, onto_first}
use Rattle.std.proofs.lemmas.Bool.{and_parts, cases_eq}
use Rattle.std.proofs.lemmas.Bool.Decides.{nat_tests}
use Rattle.std.proofs.lemmas.List.Elements.{filter-append}
use Rattle.netpbm.specs.Blanks.{is_space, ends_line}
use Rattle.netpbm.specs.Bitmaps.{is_black, breaks_line, digit, pixel_text, pixels_text, pbm_text, ShortLines, IsPlainPbm, pixels_of}
use Rattle.netpbm.specs.Images.{Image, WithinLimits}
use Rattle.std.specs.Char.{is_ascii_digit}
use Rattle.std.proofs.Math.Nat.{suc-mod, mod_self, mod-eq_of_lt, zero-mod}
use Rattle.std.proofs.lemmas.Fmt.{decimal_is_IsNumeral, length-decimal-le}
use Rattle.std.proofs.lemmas.List.{length-append, length_push}
use Rattle.std.proofs.lemmas.List.Folds.{list_all-append}
use Rattle.netpbm.specs.Layouts.IsBlank.{nothing, space, remark}
use Rattle.netpbm.proofs.Gaps.{all_digits}

-- the digits of the pixels are what is no white space
abbrev pub apart : List ℕ → List ℕ
apart bs = filter (λ b. not (is_space b)) bs

apart-pixel : (dark ends : Bool) → apart (pixel_text dark ends) ≡ digit dark ∷ []
apart-pixel true true = refl
apart-pixel true false = refl
apart-pixel false true = refl
apart-pixel false false = refl

apart-pixels : (f g : ℕ → Bool) (a n : ℕ) → apart (flat_map (λ k. pixel_text (f k) (g k)) (range_with_len a n)) ≡ map digit (map f (range_with_len a n))
apart-pixels f g a zero = refl
apart-pixels f g a (suc n) = filter-append (λ b. not (is_space b)) (pixel_text (f a) (g a)) (flat_map (λ k. pixel_text (f k) (g k)) (range_with_len (a + 1) n)) ∙ (ap (λ xs. xs ++ apart (flat_map (λ k. pixel_text (f k) (g k)) (range_with_len (a + 1) n))) (apart-pixel (f a) (g a)) ∙ ap (λ xs. digit (f a) ∷ xs) (apart-pixels f g (a + 1) n))

-- a byte that is no line feed
abbrev pub on_line : ℕ → Bool
on_line b = not (b == 10)

-- the first line of a text, where it is ended, and where it is not
first-line : (line rest : List ℕ) → list_all on_line line ≡ true → slice_split (λ b. b == 10) (line ++ (10 ∷ rest)) ≡ line ∷ slice_split (λ b. b == 10) rest
first-line [] rest on = refl
first-line (b ∷ bs) rest on =
    let (here, more) = and_parts (on_line b) (list_all on_line bs) on in
    let other : (b == 10) ≡ false = grind (arith, nat_tests) in
    rw other (ap (onto_first b) (first-line bs rest more))

only-line : (line : List ℕ) → list_all on_line line ≡ true → slice_split (λ b. b == 10) line ≡ line ∷ []
only-line [] on = refl
only-line (b ∷ bs) on =
    let (here, more) = and_parts (on_line b) (list_all on_line bs) on in
    let other : (b == 10) ≡ false = grind (arith, nat_tests) in
    rw other (ap (onto_first b) (only-line bs more))

pub short-first : (line rest : List ℕ) → list_all on_line line ≡ true → length line ≤ 70 → ShortLines rest → ShortLines (line ++ (10 ∷ rest))
short-first line rest on few more = subst (λ ls. AllByRecursion (λ (l : List ℕ). length l ≤ 70) ls) (sym (first-line line rest on)) (few, more)

pub short-only : (line : List ℕ) → list_all on_line line ≡ true → length line ≤ 70 → ShortLines line
short-only line on few = subst (λ ls. AllByRecursion (λ (l : List ℕ). length l ≤ 70) ls) (sym (only-line line on)) (few, tt)

-- where the next pixel stands on its line: at its begin behind a line feed, and else one further
column-break : (c w : ℕ) → c < w → (c + 1 == w || (c + 1) % 64 == 0) ≡ true → suc c % w % 64 ≡ 0
column-break c w inside breaks =
    ⊎_elim
    (λ (e : c + 1 ≡ w). let same : suc c ≡ w = omega arith in ap (λ n. n % w % 64) same ∙ ap (λ n. n % 64) (mod_self w))
    (λ (ne : c + 1 ≡ w → ⊥). let before : suc c < w = omega arith in ap (λ n. n % 64) (mod-eq_of_lt before) ∙ grind (arith, nat_tests))
    (cases_eq (c + 1) w)

column-on : (c w : ℕ) → c < w → (c + 1 == w || (c + 1) % 64 == 0) ≡ false → suc c % w % 64 ≡ c % 64 + 1
column-on c w inside on =
    let other : c + 1 ≡ w → ⊥ = grind (arith, nat_tests) in
    let before : suc c < w = omega arith in
    let within : (c + 1) % 64 ≡ 0 → ⊥ = grind (arith, nat_tests) in
    ap (λ n. n % 64) (mod-eq_of_lt before) ∙ omega arith

column-next : (w a : ℕ) → (a + 1) % w % 64 ≡ suc (a % w) % w % 64
column-next w a = let one : a + 1 ≡ suc a = omega arith in ap (λ n. n % w % 64) one ∙ ap (λ n. n % 64) (suc-mod a w)

-- a digit more on a line, and then its end, or more of it
digit-on_line : (dark : Bool) → on_line (digit dark) ≡ true
digit-on_line true = refl
digit-on_line false = refl

on_line-more : (before : List ℕ) (dark : Bool) → list_all on_line before ≡ true → list_all on_line (before ++ (digit dark ∷ [])) ≡ true
on_line-more before dark on = list_all-append on_line before (digit dark ∷ []) ∙ rw (on, digit-on_line dark) refl

line-ends : (dark : Bool) (before rest : List ℕ) → list_all on_line before ≡ true → length before ≤ 63 → ShortLines rest → ShortLines (before ++ (pixel_text dark true ++ rest))
line-ends dark before rest on few more = subst ShortLines (append_assoc before (digit dark ∷ []) (10 ∷ rest)) (short-first (before ++ (digit dark ∷ [])) rest (on_line-more before dark on) (omega (arith, length_push before (digit dark))) more)

line-goes_on : (dark : Bool) (before rest : List ℕ) → ShortLines ((before ++ (digit dark ∷ [])) ++ rest) → ShortLines (before ++ (pixel_text dark false ++ rest))
line-goes_on dark before rest more = subst ShortLines (append_assoc before (digit dark ∷ []) rest) more

pixel_line : (dark ends : Bool) (w a : ℕ) (before rest : List ℕ) → 0 < w → breaks_line w a ≡ ends → list_all on_line before ≡ true → length before ≡ a % w % 64 → ((line : List ℕ) → list_all on_line line ≡ true → length line ≡ (a + 1) % w % 64 → ShortLines (line ++ rest)) → ShortLines (before ++ (pixel_text dark ends ++ rest))
pixel_line dark true w a before rest some ends on size more = line-ends dark before rest on (omega arith) (more [] refl (sym (column-next w a ∙ column-break (a % w) w (omega arith) ends)))
pixel_line dark false w a before rest some ends on size more =
    let next = column-next w a ∙ column-on (a % w) w (omega arith) ends in
    line-goes_on dark before rest (more (before ++ (digit dark ∷ [])) (on_line-more before dark on) (omega (arith, length_push before (digit dark))))

-- the lines of pixels from a on, where these bytes stand before them on their line
pixel_lines : (f : ℕ → Bool) (w a n : ℕ) (before : List ℕ) → 0 < w → list_all on_line before ≡ true → length before ≡ a % w % 64 → ShortLines (before ++ flat_map (λ k. pixel_text (f k) (breaks_line w k)) (range_with_len a n))
pixel_lines f w a zero before some on size = subst ShortLines (sym (append-nil before)) (short-only before on (omega arith))
pixel_lines f w a (suc n) before some on size = pixel_line (f a) (breaks_line w a) w a before (flat_map (λ k. pixel_text (f k) (breaks_line w k)) (range_with_len (a + 1) n)) some refl on size (λ line more long. pixel_lines f w (a + 1) n line some more long)

-- bytes that end no line
abbrev pub inner : ℕ → Bool
inner b = not (ends_line b)

inner-on_line : (bs : List ℕ) → list_all inner bs ≡ true → list_all on_line bs ≡ true
inner-on_line [] all = refl
inner-on_line (b ∷ bs) all =
    let (here, more) = and_parts (inner b) (list_all inner bs) all in
    let this : on_line b ≡ true = grind (arith, nat_tests) in
    rw this (inner-on_line bs more)

inner-each : (bs : List ℕ) → list_all inner bs ≡ true → AllByRecursion (λ b. ends_line b ≡ false) bs
inner-each [] all = tt
inner-each (b ∷ bs) all =
    let (here, more) = and_parts (inner b) (list_all inner bs) all in
    let this : ends_line b ≡ false = grind (arith, nat_tests) in
    (this, inner-each bs more)

inner-digits : (ds : List ℕ) → list_all is_ascii_digit ds ≡ true → list_all inner ds ≡ true
inner-digits [] all = refl
inner-digits (d ∷ ds) all =
    let (here, more) = and_parts (is_ascii_digit d) (list_all is_ascii_digit ds) all in
    let this : inner d ≡ true = grind (arith, nat_tests) in
    rw this (inner-digits ds more)

inner-decimal : (n : ℕ) → n < 2 ^ 64 → list_all inner (decimal n) ≡ true
inner-decimal n small = inner-digits (decimal n) (all_digits (decimal n) (decimal_is_IsNumeral n small).0.1)

inner-append : (xs ys : List ℕ) → list_all inner xs ≡ true → list_all inner ys ≡ true → list_all inner (xs ++ ys) ≡ true
inner-append xs ys one two = list_all-append inner xs ys ∙ rw (one, two) refl

-- the remark behind its #
abbrev pub remark_text : ℕ → ℕ → List ℕ
remark_text tiles energy = codes " " ++ (decimal tiles ++ (codes " tiles, energy " ++ decimal energy))

inner-remark : (tiles energy : ℕ) → tiles < 2 ^ 64 → energy < 2 ^ 64 → list_all inner (remark_text tiles energy) ≡ true
inner-remark tiles energy small few = inner-append (codes " ") (decimal tiles ++ (codes " tiles, energy " ++ decimal energy)) refl (inner-append (decimal tiles) (codes " tiles, energy " ++ decimal energy) (inner-decimal tiles small) (inner-append (codes " tiles, energy ") (decimal energy) refl (inner-decimal energy few)))

length-remark-le : (tiles energy : ℕ) → tiles < 2 ^ 64 → energy < 2 ^ 64 → length (remark_text tiles energy) ≤ 69
length-remark-le tiles energy small few =
    let one = length-decimal-le 20 tiles (omega arith) (omega arith) small in
    let two = length-decimal-le 20 energy (omega arith) (omega arith) few in
    simp length-append (omega arith)

-- the sides on their line
abbrev pub sides_text : ℕ → ℕ → List ℕ
sides_text w h = decimal w ++ (codes " " ++ decimal h)

inner-sides : (w h : ℕ) → w < 2 ^ 64 → h < 2 ^ 64 → list_all inner (sides_text w h) ≡ true
inner-sides w h small few = inner-append (decimal w) (codes " " ++ decimal h) (inner-decimal w small) (inner-append (codes " ") (decimal h) refl (inner-decimal h few))

length-sides-le : (w h : ℕ) → w < 2 ^ 64 → h < 2 ^ 64 → length (sides_text w h) ≤ 70
length-sides-le w h small few =
    let one = length-decimal-le 20 w (omega arith) (omega arith) small in
    let two = length-decimal-le 20 h (omega arith) (omega arith) few in
    simp length-append (omega arith)

zero-line : (w : ℕ) → 0 % w % 64 ≡ 0
zero-line w = ap (λ n. n % 64) (zero-mod w)

-- a file, line by line
pbm-lines : (i : Image) (black : List Bool) (tiles energy : ℕ) → pbm_text i black tiles energy ≡ codes "P1" ++ (10 ∷ ((35 ∷ remark_text tiles energy) ++ (10 ∷ (sides_text i.width i.height ++ (10 ∷ pixels_text i.width black (i.width * i.height))))))
pbm-lines i black tiles energy = simp append_assoc

pbm-short : (i : Image) (black : List Bool) (tiles energy : ℕ) → WithinLimits i → tiles < 2 ^ 64 → energy < 2 ^ 64 → ShortLines (pbm_text i black tiles energy)
pbm-short i black tiles energy within small few =
    let sides = sides_text i.width i.height in
    let wide : i.width < 2 ^ 64 = omega (arith, within.few_columns) in
    let high : i.height < 2 ^ 64 = omega (arith, within.few_rows) in
    let pixels = pixels_text i.width black (i.width * i.height) in
    let remark_line = 35 ∷ remark_text tiles energy in
    let raster = pixel_lines (is_black black) i.width 0 (i.width * i.height) [] within.some_columns refl (sym (zero-line i.width)) in
    let third = short-first sides pixels (inner-on_line sides (inner-sides i.width i.height wide high)) (length-sides-le i.width i.height wide high) raster in
    let second = short-first remark_line (sides ++ (10 ∷ pixels)) (inner-on_line remark_line (inner-remark tiles energy small few)) (omega (arith, length-remark-le tiles energy small few)) third in
    subst ShortLines (sym (pbm-lines i black tiles energy)) (short-first (codes "P1") (remark_line ++ (10 ∷ (sides ++ (10 ∷ pixels)))) refl (omega arith) second)

-- and as a plain PBM file
pbm-plain : (i : Image) (black : List Bool) (tiles energy : ℕ) → WithinLimits i → tiles < 2 ^ 64 → energy < 2 ^ 64 → IsPlainPbm (pbm_text i black tiles energy) i.width i.height (pixels_of i black)
pbm-plain i black tiles energy within small few = record {
  before_width = 10 ∷ (35 ∷ (remark_text tiles energy ++ (10 ∷ [])));
  before_height = codes " ";
  raster = 10 ∷ pixels_text i.width black (i.width * i.height);
  first_gap = record { blank = space refl (remark (remark_text tiles energy) 10 [] (inner-each (remark_text tiles energy) (inner-remark tiles energy small few)) refl nothing); some = omega arith };
  second_gap = record { blank = space refl nothing; some = omega arith };
  whole = simp append_assoc;
  parted = refl;
  digits = apart-pixels (is_black black) (breaks_line i.width) 0 (i.width * i.height);
  short = pbm-short i black tiles energy within small few;
}

pub written_plain : (bs : List ℕ) (i : Image) (black : List Bool) (tiles energy : ℕ) → WithinLimits i → tiles < 2 ^ 64 → energy < 2 ^ 64 → bs ≡ pbm_text i black tiles energy → IsPlainPbm bs i.width i.height (pixels_of i black)
written_plain bs i black tiles energy within small few is = subst (λ text. IsPlainPbm text i.width i.height (pixels_of i black)) (sym is) (pbm-plain i black tiles energy within small few)
