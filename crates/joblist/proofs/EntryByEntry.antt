-- The second pass: entries that are entered one after another.
use Rattle.std.proofs.Common.{◌≡◌, ℕ, ◌+◌, ◌<◌, ◌≤◌, true, List, [], ◌∷◌, ◌++◌, map, length, get_or, take, None, Ok, Result, sym, ap, ◌∙◌, subst, arith}
use Rattle.std.specs.Result.{is_ok}
use Rattle.std.proofs.lemmas.Bool.Decides.{nat_tests}
use Rattle.std.proofs.lemmas.List.{length-map, length-take-le, map-append, take_more}
use Rattle.book.specs.declared.refusal.EnterRefusal.{EnterRefusal}
use Rattle.book.specs.Books.{Amounts, Book}
use Rattle.book.specs.Calls.{Open, unused, enter_refused, Entered}
use Rattle.filing.specs.Passes.{Filled}
use Rattle.filing.proofs.Filling.{filled_entry}
use Rattle.filing.proofs.Entering.{entered_ok}
use Rattle.joblist.specs.Entries.{Entry, no_entry}
use Rattle.joblist.specs.Passes.{Sound, with_entries}

-- no question refuses entry number u
passes : (es : List Entry) (u : ℕ) (s t : Open) → Sound es → 36864 ≤ length s.table.now → Filled (with_entries (take u es)) s t → u < length es → enter_refused t (get_or es u no_entry).amounts.earning (get_or es u no_entry).amounts.cost ≡ None
passes es u s t sound room filled inside =
    let small = sound.small u inside in
    let earning = small.earning in
    let cost = small.cost in
    let few = sound.few in
    let entries : length t.book.entries ≡ u = ap (λ (b : Book). length b.entries) filled.book ∙ (length-map (take u es) (λ e. e.amounts) ∙ length-take-le u es (omega arith)) in
    let needs : length t.book.needs ≡ 0 = ap (λ (b : Book). length b.needs) filled.book in
    let table = filled.spared.untouched.0 in
    let left : 0 < unused t = omega arith in
    grind (arith, nat_tests)

-- so it is entered
pub enters : (es : List Entry) (u : ℕ) (s t v : Open) (e : Entry) (r : Result ℕ EnterRefusal) → Sound es → 36864 ≤ length s.table.now → Filled (with_entries (take u es)) s t → u < length es → get_or es u no_entry ≡ e → Entered t e.amounts.earning e.amounts.cost r v → is_ok r ≡ true
enters es u s t v e r sound room filled inside is = entered_ok t v e.amounts.earning e.amounts.cost r (subst (λ (d : Entry). enter_refused t d.amounts.earning d.amounts.cost ≡ None) is (passes es u s t sound room filled inside))

-- and the book has one more
pub entered_more : (es : List Entry) (u i : ℕ) (s t v : Open) (e : Entry) → Filled (with_entries (take u es)) s t → u < length es → get_or es u no_entry ≡ e → Entered t e.amounts.earning e.amounts.cost (Ok i) v → Filled (with_entries (take (u + 1) es)) s v
entered_more es u i s t v e filled inside is entered =
    let list : map (λ (d : Entry). d.amounts) (take (u + 1) es) ≡ map (λ (d : Entry). d.amounts) (take u es) ++ e.amounts ∷ [] = ap (map (λ (d : Entry). d.amounts)) (take_more es u no_entry inside ∙ ap (λ d. take u es ++ d ∷ []) is) ∙ map-append (λ (d : Entry). d.amounts) (take u es) (e ∷ []) in
    subst (λ b. Filled b s v) (ap of_amounts (sym list)) (filled_entry (with_entries (take u es)) s t v e.amounts.earning e.amounts.cost i filled entered)
  where
    of_amounts : List Amounts → Book
    of_amounts xs = record { entries = xs; needs = [] }
