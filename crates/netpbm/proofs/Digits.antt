-- Numbers, read digit by digit.
use Rattle.std.proofs.Common.{◌≡◌, true, false, ℕ, ◌+◌, ◌-◌, ◌*◌, ◌^◌, ◌<◌, ◌≤◌, ◌&&◌, nat_lt, min, Some, List, drop, length, take, get_or, ap, ◌∙◌, arith, get_or-take}
use Rattle.std.specs.Char.{is_ascii_digit, digit_value}
use Rattle.std.specs.List.{list_all}
use Rattle.std.specs.Option.{option_map}
use Rattle.std.specs.Str.Parse.{digits_value}
use Rattle.std.proofs.lemmas.Bool.Decides.{nat_tests}
use Rattle.std.proofs.lemmas.Int.Digits.{digits_value_more}
use Rattle.std.proofs.lemmas.List.Folds.{list_all_at, length-prefix_len}
use Rattle.std.proofs.lemmas.Str.{digit_value_digit}
use Rattle.netpbm.specs.Blanks.{after_blanks}
use Rattle.netpbm.specs.Numerals.{digit_count, number_read}
use Rattle.netpbm.specs.Passes.{capped}
use Rattle.netpbm.proofs.Spaces.{length-blanks-le}
use Rattle.std.proofs.lemmas.List.Sums.{list_all-from_AllPass, prefix_len_passes}
use Rattle.std.proofs.lemmas.List.Elements.{All-from_get_or}

-- what a digit is worth
pub digit_worth : (b : ℕ) → is_ascii_digit b ≡ true → digit_value b + 48 ≡ b
digit_worth b digit =
    let low : 48 ≤ b = grind (arith, nat_tests) in
    let high : b ≤ 57 = grind (arith, nat_tests) in
    digit_value_digit b (low, high)

-- a digit at a place of some
pub digit_at : (ds : List ℕ) (i : ℕ) → i < length ds → list_all is_ascii_digit ds ≡ true → is_ascii_digit (get_or ds i 0) ≡ true
digit_at ds i inside all = grind (arith, list_all_at is_ascii_digit ds i 0 inside)

-- a digit more of a number that is capped at m
pub digit_more : (m : ℕ) (ds : List ℕ) (i v w d : ℕ) → i < length ds → list_all is_ascii_digit ds ≡ true → v ≡ min (digits_value 10 (take i ds)) m → d ≡ get_or ds i 0 - 48 → w ≡ min (min (v * 10) m + d) m → w ≡ min (digits_value 10 (take (i + 1) ds)) m
digit_more m ds i v w d inside all is here next =
    let worth = digit_worth (get_or ds i 0) (digit_at ds i inside all) in
    let more = digits_value_more 10 ds i inside in
    omega arith

-- the digits that a text begins with are all digits
digit_within : (bs : List ℕ) (i : ℕ) → i < digit_count bs → is_ascii_digit (get_or (take (digit_count bs) bs) i 0) ≡ true
digit_within bs i inside = ap is_ascii_digit (get_or-take (digit_count bs) bs i 0 inside) ∙ prefix_len_passes is_ascii_digit bs i 0 inside

pub digits_all : (bs : List ℕ) → list_all is_ascii_digit (take (digit_count bs) bs) ≡ true
digits_all bs =
    let size = length-prefix_len is_ascii_digit bs in
    list_all-from_AllPass is_ascii_digit (take (digit_count bs) bs) (All-from_get_or (λ b. is_ascii_digit b ≡ true) (take (digit_count bs) bs) 0 (λ i inside. digit_within bs i (omega arith)))

-- a number that a text tells, as the code holds it
pub number_told : (bs word rest : List ℕ) (n v : ℕ) → word ≡ after_blanks false bs → n ≡ digit_count word → (length word ≡ length bs → ⊥) → (n ≡ 0 → ⊥) → v ≡ min (digits_value 10 (take n word)) (2 ^ 64 - 1) → rest ≡ drop n word → Some (record { value = v; rest = rest }) ≡ option_map capped (number_read bs)
number_told bs word rest n v is count shorter some value behind =
    let few = length-blanks-le false bs in
    let test : (nat_lt (length (after_blanks false bs)) (length bs) && nat_lt 0 (digit_count (after_blanks false bs))) ≡ true = grind (arith, nat_tests) in
    rw test cc
