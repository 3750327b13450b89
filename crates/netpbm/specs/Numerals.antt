-- The decimal numbers of an image file.
use Rattle.std.specs.Prelude.{ℕ, false, cond, ◌&&◌, nat_lt, nat_le, List, length, take, drop, Some, None, Option}
use Rattle.std.specs.Char.{is_ascii_digit}
use Rattle.std.specs.List.{prefix_len}
use Rattle.std.specs.Option.{option_and_then}
use Rattle.std.specs.Str.Parse.{digits_value}
use Rattle.netpbm.specs.Blanks.{after_blanks}

-- a number that was read, and what stands behind it
pub record Numeral : Type 0 where
  pub value : ℕ
  pub rest : List ℕ

-- how many digits a text begins with
abbrev pub digit_count : List ℕ → ℕ
digit_count bs = prefix_len is_ascii_digit bs

-- the number behind the blanks that a text begins with, where it has both blanks and a digit behind them
abbrev pub number_read : List ℕ → Option Numeral
number_read bs =
    let word = after_blanks false bs in
    let n = digit_count word in
    cond (nat_lt (length word) (length bs) && nat_lt 0 n) (Some (record { value = digits_value 10 (take n word); rest = drop n word })) None

-- it, where it is from 1 to most
abbrev pub within : ℕ → Numeral → Option Numeral
within most n = cond (nat_le 1 n.value && nat_le n.value most) (Some n) None

abbrev pub number_to : ℕ → List ℕ → Option Numeral
number_to most bs = option_and_then (within most) (number_read bs)
