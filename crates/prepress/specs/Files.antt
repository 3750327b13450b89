-- The answer to an image file: the text of its page's split, or the first question whose answer is no.
use Rattle.std.specs.Prelude.{◌≡◌, ℕ, Bool, List, Ok, Err, Result, string_bytes, String}
use Rattle.netpbm.specs.declared.refusal.ImageRefusal.{ImageRefusal}
use Rattle.netpbm.specs.Images.{Image, image_read}
use Rattle.netpbm.specs.Bitmaps.{pbm_text}
use Rattle.prepress.specs.Splits.{SplitOf}

-- the bytes of a text, or a refusal
abbrev pub answer_of : {A : Type 0} → Result (String A) ImageRefusal → Result (List ℕ) ImageRefusal
answer_of (Ok text) = Ok (string_bytes text)
answer_of (Err x) = Err x

-- r answers the file bs
abbrev pub FileSplit : List ℕ → Result (List ℕ) ImageRefusal → Type 0
FileSplit bs (Ok text) = (i : Image) × (image_read bs ≡ Ok i) × (black : List Bool) × (n : ℕ) × (e : ℕ) × SplitOf i black n e × (text ≡ pbm_text i black n e)
FileSplit bs (Err x) = image_read bs ≡ Err x
