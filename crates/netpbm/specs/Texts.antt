-- The words that tell a refusal.
use Rattle.std.specs.Prelude.{ℕ, List, ◌++◌, codes, decimal}
use Rattle.netpbm.specs.declared.refusal.ImageRefusal.{ImageRefusal}
use Rattle.netpbm.specs.declared.refusal.ImageRefusal.TheVariants.{NotPgm, SizeRange, LargestRange, NoGrey, AboveLargest}

abbrev pub refusal_text : ImageRefusal → List ℕ
refusal_text NotPgm = codes "the file begins with neither P2 nor P5 (60)"
refusal_text SizeRange = codes "its width and height are not two numbers from 1 to 16384 (61)"
refusal_text LargestRange = codes "its largest value is not a number from 1 to 255 with white space behind it (62)"
refusal_text (NoGrey k) = codes "pixel " ++ (decimal k ++ codes " has no grey (63)")
refusal_text (AboveLargest k) = codes "the grey of pixel " ++ (decimal k ++ codes " is above the largest value (64)")
