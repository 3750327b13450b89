-- Numbers that were read, found where they stand.
use Rattle.std.proofs.Common.{◌≡◌, Bool, true, false, cond, ◌&&◌, ◌==◌, nat_lt, ℕ, ◌<◌, ◌≤◌, List, [], ◌∷◌, ◌++◌, length, take, drop, Some, None, Option, refl, sym, ap, ◌∙◌, subst, append_assoc, ⊎_elim, arith, nat_le}
use Rattle.std.specs.Char.{is_ascii_digit}
use Rattle.std.specs.List.{AllByRecursion}
use Rattle.std.specs.Option.{option_and_then}
use Rattle.std.specs.Str.Parse.{digits_value}
use Rattle.std.proofs.lemmas.Bool.{and_parts, cases_Bool, cases_lt}
use Rattle.std.proofs.lemmas.Bool.Decides.{nat_tests}
use Rattle.std.proofs.lemmas.List.{length-append, take-append-drop}
use Rattle.std.proofs.lemmas.List.Folds.{length-prefix_len}
use Rattle.std.proofs.lemmas.List.Sums.{prefix_len-le-length, prefix_len-drop_no, prefix_len-drop_all, prefix_len_stops}
use Rattle.netpbm.specs.Blanks.{is_space, ends_line, is_blank, remark_after, after_blanks}
use Rattle.netpbm.specs.Numerals.{Numeral, digit_count, number_read, within, number_to}
use Rattle.netpbm.specs.Layouts.{IsBlank, Word, word_bytes, Tells}
use Rattle.netpbm.specs.Layouts.IsBlank.{nothing, space, remark}
use Rattle.netpbm.proofs.Spaces.{blanks-yes, blanks-no}
use Rattle.netpbm.proofs.Digits.{digits_all}

-- the blank bytes before what follows them; within a remark, the rest of it first
abbrev Before : Bool → List ℕ → Type 0
Before false bs = (gap : List ℕ) × IsBlank gap × (bs ≡ gap ++ after_blanks false bs)
Before true bs = (text : List ℕ) × (e : ℕ) × (gap : List ℕ) × AllByRecursion (λ b. ends_line b ≡ false) text × (ends_line e ≡ true) × IsBlank gap × (bs ≡ text ++ (e ∷ (gap ++ after_blanks true bs)))

-- what follows a byte of each kind
after-space : (b : ℕ) (bs : List ℕ) → is_space b ≡ true → after_blanks false (b ∷ bs) ≡ after_blanks false bs
after-space b bs is =
    let here : is_blank false b ≡ true = grind (arith, nat_tests) in
    let after : remark_after false b ≡ false = grind (arith, nat_tests) in
    blanks-yes false b bs here ∙ ap (λ r. after_blanks r bs) after

after-mark : (b : ℕ) (bs : List ℕ) → b ≡ 35 → after_blanks false (b ∷ bs) ≡ after_blanks true bs
after-mark b bs is = ap (λ c. after_blanks false (c ∷ bs)) is ∙ blanks-yes false 35 bs refl

after-line : (b : ℕ) (bs : List ℕ) → ends_line b ≡ false → after_blanks true (b ∷ bs) ≡ after_blanks true bs
after-line b bs on = let after : remark_after true b ≡ true = rw on refl in blanks-yes true b bs refl ∙ ap (λ r. after_blanks r bs) after

after-end : (b : ℕ) (bs : List ℕ) → ends_line b ≡ true → after_blanks true (b ∷ bs) ≡ after_blanks false bs
after-end b bs ends = let after : remark_after true b ≡ false = rw ends refl in blanks-yes true b bs refl ∙ ap (λ r. after_blanks r bs) after

-- and so the blank bytes before it
before-none : (b : ℕ) (bs : List ℕ) → is_blank false b ≡ false → Before false (b ∷ bs)
before-none b bs other = ([], nothing, sym (blanks-no false b bs other))

before-space : (b : ℕ) (bs : List ℕ) → is_space b ≡ true → Before false bs → Before false (b ∷ bs)
before-space b bs is (gap, blank, whole) = (b ∷ gap, space is blank, ap (λ xs. b ∷ xs) (whole ∙ ap (λ ys. gap ++ ys) (sym (after-space b bs is))))

before-mark : (b : ℕ) (bs : List ℕ) → b ≡ 35 → Before true bs → Before false (b ∷ bs)
before-mark b bs is (text, e, gap, line, ends, blank, whole) =
    let front : b ∷ (text ++ (e ∷ gap)) ≡ 35 ∷ (text ++ (e ∷ gap)) = ap (λ c. c ∷ (text ++ (e ∷ gap))) is in
    (b ∷ (text ++ (e ∷ gap)), subst IsBlank (sym front) (remark text e gap line ends blank), ap (λ xs. b ∷ xs) (whole ∙ (sym (append_assoc text (e ∷ gap) (after_blanks true bs)) ∙ ap (λ ys. (text ++ (e ∷ gap)) ++ ys) (sym (after-mark b bs is)))))

before-line : (b : ℕ) (bs : List ℕ) → ends_line b ≡ false → Before true bs → Before true (b ∷ bs)
before-line b bs on (text, e, gap, line, ends, blank, whole) = (b ∷ text, e, gap, (on, line), ends, blank, ap (λ xs. b ∷ xs) (whole ∙ ap (λ ys. text ++ (e ∷ (gap ++ ys))) (sym (after-line b bs on))))

before-end : (b : ℕ) (bs : List ℕ) → ends_line b ≡ true → Before false bs → Before true (b ∷ bs)
before-end b bs ends (gap, blank, whole) = ([], b, gap, tt, ends, blank, ap (λ xs. b ∷ xs) (whole ∙ ap (λ ys. gap ++ ys) (sym (after-end b bs ends))))

no_blank : (b : ℕ) → is_space b ≡ false → b == 35 ≡ false → is_blank false b ≡ false
no_blank b other unmarked = grind (arith, nat_tests)

is_mark : (b : ℕ) → b == 35 ≡ true → b ≡ 35
is_mark b is = grind (arith, nat_tests)

some-left : (xs ys : List ℕ) → xs ≡ ys → 0 < length xs → 0 < length ys
some-left xs ys same some = omega (arith, ap length same)

none-left : (r : Bool) → 0 < length (after_blanks r []) → ⊥
unfolding after_blanks
none-left r some = omega arith

before : (r : Bool) (bs : List ℕ) → 0 < length (after_blanks r bs) → Before r bs
before r [] some = absurd (none-left r some)
before true (b ∷ bs) some =
    ⊎_elim
    (λ (ends : ends_line b ≡ true). before-end b bs ends (before false bs (some-left _ _ (after-end b bs ends) some)))
    (λ (on : ends_line b ≡ false). before-line b bs on (before true bs (some-left _ _ (after-line b bs on) some)))
    (cases_Bool (ends_line b))
before false (b ∷ bs) some =
    ⊎_elim
    (λ (is : is_space b ≡ true). before-space b bs is (before false bs (some-left _ _ (after-space b bs is) some)))
    (λ (other : is_space b ≡ false).
    ⊎_elim
    (λ (marked : b == 35 ≡ true). before-mark b bs (is_mark b marked) (before true bs (some-left _ _ (after-mark b bs (is_mark b marked)) some)))
    (λ (unmarked : b == 35 ≡ false). before-none b bs (no_blank b other unmarked))
    (cases_Bool (b == 35)))
    (cases_Bool (is_space b))

-- the number of a text, found where it stands
pub record Found (bs : List ℕ) (n : Numeral) : Type 0 where
  pub word : Word
  pub tells : Tells word n.value
  pub whole : bs ≡ word_bytes word ++ n.rest
  pub ended : digit_count n.rest ≡ 0

cond-some : (t : Bool) (m n : Numeral) → cond t (Some m) None ≡ Some n → (t ≡ true) × (m ≡ n)
cond-some true m n is = (refl, cc)
cond-some false m n is = cc

-- no digit follows all digits
digits-end : (bs : List ℕ) → digit_count (drop (digit_count bs) bs) ≡ 0
digits-end bs =
    ⊎_elim
    (λ (more : digit_count bs < length bs). prefix_len-drop_no is_ascii_digit bs (digit_count bs) 0 more (prefix_len_stops is_ascii_digit bs 0 more))
    (λ (over : length bs ≤ digit_count bs). prefix_len-drop_all is_ascii_digit bs (digit_count bs) over)
    (cases_lt (digit_count bs) (length bs))

-- digits behind blanks
found : (bs : List ℕ) → length (after_blanks false bs) < length bs → 0 < digit_count (after_blanks false bs) → (let word = after_blanks false bs in Found bs (record { value = digits_value 10 (take (digit_count word) word); rest = drop (digit_count word) word }))
found bs shorter digit =
    let word = after_blanks false bs in
    let n = digit_count word in
    let few = prefix_len-le-length is_ascii_digit word in
    let (gap, blank, whole) = before false bs (omega arith) in
    let size = length-append gap word in
    record {
      word = record { gap = gap; digits = take n word };
      tells = record { apart = record { blank = blank; some = omega (arith, ap length whole) }; some = omega (arith, length-prefix_len is_ascii_digit word); decimal = digits_all word; value = refl };
      whole = whole ∙ (ap (λ ys. gap ++ ys) (sym (take-append-drop n word)) ∙ sym (append_assoc gap (take n word) (drop n word)));
      ended = digits-end word;
    }

pub number-found : (bs : List ℕ) (n : Numeral) → number_read bs ≡ Some n → Found bs n
number-found bs n is =
    let word = after_blanks false bs in
    let k = digit_count word in
    let (test, same) = cond-some (nat_lt (length word) (length bs) && nat_lt 0 k) (record { value = digits_value 10 (take k word); rest = drop k word }) n is in
    let (one, two) = and_parts (nat_lt (length word) (length bs)) (nat_lt 0 k) test in
    let shorter : length word < length bs = grind (arith, nat_tests) in
    let digit : 0 < k = grind (arith, nat_tests) in
    subst (Found bs) same (found bs shorter digit)

-- and one within limits
pub number-found_to : (most : ℕ) (bs : List ℕ) (n : Numeral) → number_to most bs ≡ Some n → Found bs n
number-found_to most bs n is = number-found bs n (read (number_read bs) is)
  where
    read : (o : Option Numeral) → option_and_then (within most) o ≡ Some n → o ≡ Some n
    read None is = cc
    read (Some m) is = ap Some (cond-some (nat_le 1 m.value && nat_le m.value most) m n is).1
