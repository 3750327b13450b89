-- The text that tells an answer, and what a listing holds.
use Rattle.std.specs.Prelude.{◌≡◌, ℕ, List, ◌++◌, Ok, Err, string_bytes, codes, Result}
use Rattle.sheet.specs.Texts.{told_text}
use Rattle.engine.specs.declared.page.Listing.{Listing}
use Rattle.engine.specs.declared.refusal.PlanRefusal.{PlanRefusal}
use Rattle.engine.specs.Answers.{Answer}
use Rattle.engine.specs.Plans.{ThePlan}
use Rattle.engine.specs.Refusals.{told}
use Rattle.engine.specs.Texts.{answer_text}
use Rattle.engine.specs.Values.{result_of}

-- an answer's lines, or the line of a refusal
abbrev pub listing_text : Result Answer PlanRefusal → List ℕ
listing_text (Ok a) = answer_text a
listing_text (Err x) = told_text (told x) ++ codes "\n"

-- l holds the answer to the input bs, and the text that tells it
pub record Listed (bs : List ℕ) (l : Listing) : Type 0 where
  pub answer : ThePlan bs (result_of l.answer)
  pub text : string_bytes l.text ≡ listing_text (result_of l.answer)
