-- The amounts that words tell.
use Rattle.std.specs.Prelude.{ℕ, Bool, ◌&&◌, nat_le, List}
use Rattle.std.specs.Char.{is_ascii_digit}
use Rattle.std.specs.List.{list_all}
use Rattle.std.specs.Str.Parse.{digits_value}

-- whether a word is an amount: decimal digits alone, of a number up to 1,000,000
abbrev pub is_amount : List ℕ → Bool
is_amount word = list_all is_ascii_digit word && nat_le (digits_value 10 word) 1000000
