-- The numbers of the questions that are put to an image file.
use Rattle.std.specs.Prelude.{ℕ}
use Rattle.netpbm.specs.declared.refusal.ImageRefusal.{ImageRefusal}
use Rattle.netpbm.specs.declared.refusal.ImageRefusal.TheVariants.{NotPgm, SizeRange, LargestRange, NoGrey, AboveLargest}

-- the number of the question whose answer is no
abbrev pub question : ImageRefusal → ℕ
question NotPgm = 60
question SizeRange = 61
question LargestRange = 62
question (NoGrey k) = 63
question (AboveLargest k) = 64
