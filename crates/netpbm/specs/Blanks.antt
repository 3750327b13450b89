-- What may stand before a number: white space, and remarks, each to the end of its line.
use Rattle.std.specs.Prelude.{ℕ, Bool, not, cond, ◌&&◌, ◌||◌, ◌==◌, nat_le, List, [], ◌∷◌}

-- a space, a tab, a line feed, a vertical tab, a form feed, a carriage return
abbrev pub is_space : ℕ → Bool
is_space b = b == 32 || (nat_le 9 b && nat_le b 13)

-- a line feed or a carriage return
abbrev pub ends_line : ℕ → Bool
ends_line b = b == 10 || b == 13

-- whether this byte is one of them, where the truth value tells whether it stands in a remark; # begins one
abbrev pub is_blank : Bool → ℕ → Bool
is_blank in_remark b = in_remark || b == 35 || is_space b

-- whether the byte behind it stands in a remark
abbrev pub remark_after : Bool → ℕ → Bool
remark_after in_remark b = cond in_remark (not (ends_line b)) (b == 35)

-- what follows them
unfoldable pub after_blanks : Bool → List ℕ → List ℕ
after_blanks in_remark [] = []
after_blanks in_remark (b ∷ bs) = cond (is_blank in_remark b) (after_blanks (remark_after in_remark b) bs) (b ∷ bs)
