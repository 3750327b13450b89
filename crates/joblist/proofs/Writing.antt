-- Sheets that are written into a buffer that is long enough.
use Rattle.std.proofs.Common.{◌≡◌, ℕ, ◌≤◌, true, List, ◌++◌, length, take, drop, Ok, Err, Result, refl, ap, ◌∙◌, arith}
use Rattle.std.specs.Result.{is_ok}
use Rattle.std.proofs.Math.Seq.{take-append_seam}
use Rattle.std.proofs.lemmas.List.{length-append, take-append-le, take-take}
use Rattle.book.specs.Books.{Book}
use Rattle.filing.specs.declared.refusal.WriteRefusal.{WriteRefusal}
use Rattle.filing.specs.declared.refusal.WriteRefusal.TheVariants.{ShortBuffer}
use Rattle.filing.specs.Sheets.{sheet_of}
use Rattle.filing.specs.Writes.{Written}

pub is_written : (b : Book) (before after : List ℕ) (r : Result ℕ WriteRefusal) → length (sheet_of b) ≤ length before → Written b before r after → is_ok r ≡ true
is_written b before after (Ok n) room written = refl
is_written b before after (Err ShortBuffer) room (short, same) = absurd (omega arith)

pub front : (b : Book) (before after : List ℕ) (n : ℕ) → Written b before (Ok n) after → take n after ≡ sheet_of b
front b before after n (long, room, whole) = ap (take n) whole ∙ (ap (λ k. take k (sheet_of b ++ drop n before)) long ∙ take-append_seam (sheet_of b) (drop n before))

-- the front of what a vector holds after it
pub front_held : (n m : ℕ) (before after tail : List ℕ) (b : Book) → Written b before (Ok n) after → m ≡ length before → take n (take m (after ++ tail)) ≡ take n after
front_held n m before after tail b (long, room, whole) size =
    let reaches : n ≤ length after = omega (arith, ap length whole, length-append (sheet_of b) (drop n before)) in
    take-take n m (after ++ tail) (omega arith) ∙ take-append-le n after tail reaches
