-- Gaps between numbers, and the numbers behind them.
use Rattle.std.proofs.Common.{◌≡◌, Bool, true, false, ℕ, ◌<◌, ◌≤◌, List, [], ◌∷◌, ◌++◌, length, take, drop, Some, refl, ap, ◌∙◌, append_assoc, arith, ◌&&◌, nat_lt, nat_le, cond, None}
use Rattle.std.specs.Char.{is_ascii_digit, digit_value}
use Rattle.std.specs.List.{AllByRecursion, list_all, prefix_len}
use Rattle.std.proofs.lemmas.Bool.Decides.{nat_tests}
use Rattle.netpbm.specs.Blanks.{is_space, ends_line, is_blank, remark_after, after_blanks}
use Rattle.netpbm.specs.Numerals.{digit_count, number_read, within, number_to}
use Rattle.netpbm.specs.Layouts.{IsBlank, IsGap, Word, word_bytes, Tells}
use Rattle.netpbm.specs.Layouts.IsBlank.{nothing, space, remark}
use Rattle.netpbm.proofs.Spaces.{blanks-yes, blanks-no}
use Rattle.std.specs.Str.Parse.{digits_value, AllDigits}
use Rattle.std.proofs.lemmas.Str.Parse.{digit_from_value}
use Rattle.std.proofs.lemmas.List.Folds.{prefix_len-append}
use Rattle.std.proofs.lemmas.Bool.{and_parts}
use Rattle.std.proofs.lemmas.List.{length-append}
use Rattle.std.proofs.Math.Seq.{take-append_seam, drop-append_seam}
use Rattle.std.specs.Option.{option_and_then}

-- a remark is skipped
remark-skipped : (text : List ℕ) (e : ℕ) (rest : List ℕ) → AllByRecursion (λ b. ends_line b ≡ false) text → ends_line e ≡ true → after_blanks true (text ++ (e ∷ rest)) ≡ after_blanks false rest
unfolding after_blanks
remark-skipped [] e rest text ends = rw ends refl
remark-skipped (b ∷ bs) e rest (other, text) ends = rw other (remark-skipped bs e rest text ends)

space-blank : (b : ℕ) → is_space b ≡ true → (is_blank false b ≡ true) × ((remark_after false b) ≡ false)
space-blank b is = (grind (arith, nat_tests), grind (arith, nat_tests))

pub gap-skipped : (gap : List ℕ) (b : ℕ) (rest : List ℕ) → IsBlank gap → is_blank false b ≡ false → after_blanks false (gap ++ (b ∷ rest)) ≡ b ∷ rest
gap-skipped gap b rest nothing other = blanks-no false b rest other
gap-skipped gap b rest (space {b = c} {bs = more} is blank) other =
    let (here, after) = space-blank c is in
    blanks-yes false c (more ++ (b ∷ rest)) here ∙ (ap (λ r. after_blanks r (more ++ (b ∷ rest))) after ∙ gap-skipped more b rest blank other)
gap-skipped gap b rest (remark text e more line ends blank) other =
    blanks-yes false 35 ((text ++ (e ∷ more)) ++ (b ∷ rest)) refl ∙ (ap (after_blanks true) (append_assoc text (e ∷ more) (b ∷ rest)) ∙ (remark-skipped text e (more ++ (b ∷ rest)) line ends ∙ gap-skipped more b rest blank other))

-- a gap begins with no digit
pub space-no_digit : (b : ℕ) → is_space b ≡ true → is_ascii_digit b ≡ false
space-no_digit b is = grind (arith, nat_tests)

pub gap-no_digit : (gap : List ℕ) (rest : List ℕ) → IsGap gap → digit_count (gap ++ rest) ≡ 0
gap-no_digit gap rest g = blank-no_digit gap rest g.blank g.some
  where
    blank-no_digit : (gap : List ℕ) (rest : List ℕ) → IsBlank gap → 0 < length gap → digit_count (gap ++ rest) ≡ 0
    blank-no_digit gap rest nothing some = absurd (omega arith)
    blank-no_digit gap rest (space {b = c} {bs = more} is blank) some = rw (space-no_digit c is) refl
    blank-no_digit gap rest (remark text e more line ends blank) some = refl

-- the digits of a number
pub all_digits : (ds : List ℕ) → AllDigits 10 ds → list_all is_ascii_digit ds ≡ true
all_digits [] digits = refl
all_digits (d ∷ ds) (digit, digits) = rw (is_digit d digit) (all_digits ds digits)
  where
    is_digit : (d : ℕ) → digit_value d < 10 → is_ascii_digit d ≡ true
    is_digit d digit =
        let (low, high) = digit_from_value d digit in
        grind (arith, nat_tests)

-- digits, where no digit follows
prefix_len-all : (p : ℕ → Bool) (xs : List ℕ) → list_all p xs ≡ true → prefix_len p xs ≡ length xs
prefix_len-all p [] all = refl
prefix_len-all p (x ∷ xs) all =
    let (here, more) = and_parts (p x) (list_all p xs) all in
    rw here (omega (arith, prefix_len-all p xs more))

digit_count-append : (ds rest : List ℕ) → list_all is_ascii_digit ds ≡ true → digit_count rest ≡ 0 → digit_count (ds ++ rest) ≡ length ds
digit_count-append ds rest all stop =
    let whole = prefix_len-all is_ascii_digit ds all in
    let both = prefix_len-append is_ascii_digit ds rest in
    grind (arith, nat_tests)

-- a number, once it is known where its digits stand
number_in : (bs word ds rest : List ℕ) → after_blanks false bs ≡ word → length word < length bs → digit_count word ≡ length ds → 0 < length ds → word ≡ ds ++ rest → number_read bs ≡ Some (record { value = digits_value 10 ds; rest = rest })
number_in bs word ds rest behind shorter count some is =
    let test : (nat_lt (length (after_blanks false bs)) (length bs) && nat_lt 0 (digit_count (after_blanks false bs))) ≡ true = grind (arith, nat_tests) in
    let front : take (digit_count (after_blanks false bs)) (after_blanks false bs) ≡ ds = ap (λ w. take (digit_count w) w) behind ∙ (ap (λ n. take n word) count ∙ (ap (take (length ds)) is ∙ take-append_seam ds rest)) in
    let back : drop (digit_count (after_blanks false bs)) (after_blanks false bs) ≡ rest = ap (λ w. drop (digit_count w) w) behind ∙ (ap (λ n. drop n word) count ∙ (ap (drop (length ds)) is ∙ drop-append_seam ds rest)) in
    rw (test, front, back) refl

-- digits behind a gap
digits-gap : (gap ds rest : List ℕ) → IsGap gap → list_all is_ascii_digit ds ≡ true → 0 < length ds → digit_count rest ≡ 0 → number_read (gap ++ (ds ++ rest)) ≡ Some (record { value = digits_value 10 ds; rest = rest })
digits-gap gap [] rest g digits some stop = absurd (omega arith)
digits-gap gap (d ∷ ds) rest g digits some stop =
    let digit = (and_parts (is_ascii_digit d) (list_all is_ascii_digit ds) digits).0 in
    let size = length-append gap ((d ∷ ds) ++ rest) in
    number_in (gap ++ ((d ∷ ds) ++ rest)) ((d ∷ ds) ++ rest) (d ∷ ds) rest (gap-skipped gap d (ds ++ rest) g.blank (digit-no_blank d digit)) (omega (arith, g.some)) (digit_count-append (d ∷ ds) rest digits stop) (omega arith) refl
  where
    digit-no_blank : (d : ℕ) → is_ascii_digit d ≡ true → is_blank false d ≡ false
    digit-no_blank d digit = grind (arith, nat_tests)

-- a number that a word tells
pub word-read : (w : Word) (n : ℕ) (rest : List ℕ) → Tells w n → digit_count rest ≡ 0 → number_read (word_bytes w ++ rest) ≡ Some (record { value = n; rest = rest })
word-read w n rest tells stop = ap number_read (append_assoc w.gap w.digits rest) ∙ (digits-gap w.gap w.digits rest tells.apart tells.decimal tells.some stop ∙ ap (λ v. Some (record { value = v; rest = rest })) tells.value)

-- and within limits
pub word-within : (most : ℕ) (w : Word) (n : ℕ) (rest : List ℕ) → Tells w n → 1 ≤ n → n ≤ most → digit_count rest ≡ 0 → number_to most (word_bytes w ++ rest) ≡ Some (record { value = n; rest = rest })
word-within most w n rest tells low high stop =
    let test : (nat_le 1 n && nat_le n most) ≡ true = grind (arith, nat_tests) in
    ap (option_and_then (within most)) (word-read w n rest tells stop) ∙ ap (λ t. cond t (Some (record { value = n; rest = rest })) None) test

-- a word begins with no digit
pub word-no_digit : (w : Word) (n : ℕ) (rest : List ℕ) → Tells w n → digit_count (word_bytes w ++ rest) ≡ 0
word-no_digit w n rest tells = ap digit_count (append_assoc w.gap w.digits rest) ∙ gap-no_digit w.gap (w.digits ++ rest) tells.apart
