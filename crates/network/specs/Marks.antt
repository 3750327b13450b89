-- The bytes that stand for marks, and the words that a listing has for them.
use Rattle.std.specs.Prelude.{ℕ, List, codes}
use Rattle.network.specs.declared.mark.Mark.{Mark}
use Rattle.network.specs.declared.mark.Mark.TheVariants.{In, Out, Either}

abbrev pub mark_byte : Mark → ℕ
mark_byte In = 1
mark_byte Out = 2
mark_byte Either = 3

abbrev pub mark_word : Mark → List ℕ
mark_word In = codes "in"
mark_word Out = codes "out"
mark_word Either = codes "either"
