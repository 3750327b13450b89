-- The third pass for all entries: what they need, entry by entry.
use Rattle.std.proofs.Common.{◌≡◌, ℕ, suc, ◌+◌, ◌<◌, List, map, length, get_or, Some, None, Ok, Err, sym, ap, ◌∙◌, subst, arith}
use Rattle.std.proofs.lemmas.List.{length-append}
use Rattle.book.specs.Books.{Need, Book}
use Rattle.book.specs.Calls.{Open}
use Rattle.filing.specs.Books.{needs_by}
use Rattle.filing.specs.Passes.{Filled, with_needs}
use Rattle.filing.proofs.Filling.{filled_none, filled_on}
use Rattle.joblist.specs.declared.refusal.Fault.{Fault}
use Rattle.joblist.specs.declared.refusal.JobRefusal.TheVariants.{Faulty}
use Rattle.joblist.specs.Entries.{Entry, no_entry}
use Rattle.joblist.specs.JobLists.{first_below, at_line, needs_refusal}
use Rattle.joblist.specs.Passes.{NeedsEntered, numbers_of, with_entries, with_needs_of}
use Rattle.joblist.proofs.Firsts.{first_none, first_next, first_stays}
use Rattle.joblist.proofs.NeedNumbers.{needs_next}

-- what the first n entries need is entered
pub record NeedsSoFar (es : List Entry) (n : ℕ) (s t : Open) : Type 0 where
  pub passed : first_below n (needs_refusal es) ≡ None
  pub filled : Filled (with_needs_of es n) s t

pub needs_none : (es : List Entry) (s : Open) → s.book ≡ with_entries es → NeedsSoFar es 0 s s
needs_none es s new = record { passed = first_none (needs_refusal es); filled = subst (λ b. Filled b s s) new (filled_none s) }

-- those of the next entry are entered
pub needs_entered : (es : List Entry) (n : ℕ) (s t v : Open) → NeedsSoFar es n s t → n < length es → NeedsEntered es n t (Ok tt) v → NeedsSoFar es (n + 1) s v
needs_entered es n s t v so_far inside (none, filled) =
    let more : suc n ≡ n + 1 = omega arith in
    let line = (get_or es n no_entry).line in
    let before = with_needs_of es n in
    let after = with_needs before n (numbers_of es n) in
    let next : with_needs_of es (n + 1) ≡ after = ap of_needs (needs_next es n inside) in
    let then : Filled after t v = subst (λ b. Filled (with_needs b n (numbers_of es n)) t v) so_far.filled.book filled in
    let both : Filled after s v = filled_on before after s t v so_far.filled then (omega arith) (omega (arith, length-append before.needs (needs_by n (numbers_of es n)))) in
    record {
      passed = ap (λ k. first_below k (needs_refusal es)) (sym more) ∙ (first_next (needs_refusal es) n so_far.passed ∙ ap (at_line line) none);
      filled = subst (λ b. Filled b s v) (sym next) both;
    }
  where
    of_needs : List Need → Book
    of_needs ns = record { entries = map (λ e. e.amounts) es; needs = ns }

-- or the first fault is told
pub needs_refused : (es : List Entry) (n : ℕ) (s t v : Open) (f : Fault) → NeedsSoFar es n s t → n < length es → NeedsEntered es n t (Err f) v → first_below (length es) (needs_refusal es) ≡ Some (Faulty f (get_or es n no_entry).line)
needs_refused es n s t v f so_far inside is = first_stays (needs_refusal es) (suc n) (length es) _ inside (first_next (needs_refusal es) n so_far.passed ∙ ap (at_line (get_or es n no_entry).line) is)
