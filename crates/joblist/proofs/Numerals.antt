-- Amounts, read digit by digit.
use Rattle.std.proofs.Common.{◌≡◌, ℕ, ◌+◌, ◌-◌, ◌*◌, ◌<◌, ◌≤◌, true, false, List, length, take, get_or, None, refl, arith}
use Rattle.std.specs.Char.{is_ascii_digit}
use Rattle.std.specs.List.{list_all}
use Rattle.std.specs.Str.Parse.{digits_value}
use Rattle.std.proofs.lemmas.Bool.Decides.{nat_tests}
use Rattle.std.proofs.lemmas.Int.Digits.{digits_value_more}
use Rattle.std.proofs.lemmas.List.Folds.{list_all_at, list_all_more}
use Rattle.std.proofs.lemmas.Str.{digit_value_digit}
use Rattle.std.proofs.lemmas.Str.Parse.{digits_value-take-le}
use Rattle.joblist.specs.Passes.{amount_of}

-- a byte that is no digit
pub no_digit : (word : List ℕ) (i : ℕ) → i < length word → is_ascii_digit (get_or word i 0) ≡ false → amount_of word ≡ None
no_digit word i inside other = rw (list_all_at is_ascii_digit word i 0 inside other) refl

-- digits that are too many already
pub too_large : (word : List ℕ) (i n : ℕ) → n ≡ digits_value 10 (take i word) → 1000000 < n → amount_of word ≡ None
too_large word i n is large =
    let more = digits_value-take-le 10 word i (omega arith) in
    grind (arith, nat_tests, more)

-- one digit more
pub digit_more : (word : List ℕ) (i n d : ℕ) → i < length word → list_all is_ascii_digit (take i word) ≡ true → n ≡ digits_value 10 (take i word) → is_ascii_digit (get_or word i 0) ≡ true → d ≡ get_or word i 0 - 48 → (list_all is_ascii_digit (take (i + 1) word) ≡ true) × (n * 10 + d ≡ digits_value 10 (take (i + 1) word))
digit_more word i n d inside digits is digit byte =
    let all = list_all_more is_ascii_digit word i 0 inside in
    let value = digits_value_more 10 word i inside in
    let low : 48 ≤ get_or word i 0 = grind (arith, nat_tests) in
    let high : get_or word i 0 ≤ 57 = grind (arith, nat_tests) in
    let here = digit_value_digit (get_or word i 0) (low, high) in
    (rw (all, digits) digit, omega arith)
