-- The second pass of loading: the needs.
use Rattle.std.proofs.Common.{◌≡◌, ℕ, zero, suc, ◌+◌, ◌-◌, ◌<◌, ◌≤◌, true, false, ◌≢◌, ◌==◌, List, [], ◌∷◌, ◌++◌, map, length, get_or, take, Some, None, Ok, Err, Option, Result, sym, refl, ap, ◌∙◌, subst, arith}
use Rattle.std.specs.List.{slice_get}
use Rattle.std.specs.Option.{is_some}
use Rattle.std.specs.Result.{is_ok}
use Rattle.std.proofs.ByRecursion.{All-get_or}
use Rattle.std.proofs.lemmas.Bool.{ne_eqb, false≢true}
use Rattle.std.proofs.lemmas.Bool.Decides.{nat_tests}
use Rattle.std.proofs.lemmas.List.{append_assoc, get_or-take, length-append, length-map, length-take-le, map-append, take_all, take_more}
use Rattle.std.proofs.lemmas.List.Elements.{All-from_get_or}
use Rattle.std.proofs.lemmas.List.Folds.{list_any_none}
use Rattle.std.proofs.lemmas.Option.{slice_get-get_or}
use Rattle.sheet.specs.declared.records.Record.{Record}
use Rattle.sheet.specs.Format.{Entry}
use Rattle.sheet.specs.Sound.{Ordered, There, need_count}
use Rattle.sheet.specs.Answers.{SheetOf}
use Rattle.sheet.specs.Places.{Cursor, start, entry_at, HandedOut, Handed}
use Rattle.book.specs.declared.refusal.NeedRefusal.{NeedRefusal}
use Rattle.book.specs.Books.{Need, Book, with_need, needs_of}
use Rattle.book.specs.Calls.{Open, used, unused, need_refused, Needed}
use Rattle.book.specs.Refusals.{among, need_refusal}
use Rattle.book.specs.Accepted.{Needs}
use Rattle.book.proofs.Keeping.{needs_of_both}
use Rattle.filing.specs.Books.{amounts_of, needs_by, needs_from, all_needs, book_of}
use Rattle.filing.specs.Passes.{entries_alone, Filled, NeedsFit, with_needs}
use Rattle.filing.proofs.Standing.{no_entry, sound_at, Standing, standing_start, turn, at_end}
use Rattle.filing.proofs.NeedLists.{needs_of_own, length_by, needs_of_before, needs_from_next, needs_from_few, all_needs_length, all_needs_at}
use Rattle.filing.proofs.Filling.{filled_none, filled_on, filled_need}

pub length_needs : (i : ℕ) (es : List Entry) → length (needs_from i (all_needs es)) ≡ need_count es
length_needs i [] = refl
length_needs i (e ∷ es) = omega (arith, length-append (needs_by i e.needs) (needs_from (suc i) (all_needs es)), length_by i e.needs, length_needs (suc i) es)

-- The needs of one entry.

-- needs that ascend do not stand twice
ascends : (u : ℕ) (ns : List ℕ) → Ordered u ns → (i d : ℕ) → i + suc d < length ns → get_or ns i 0 < get_or ns (i + suc d) 0
ascends u ns o i zero inside = o.ascending i inside
ascends u ns o i (suc d) inside =
    let next : i + suc d + 1 ≡ i + suc (suc d) = omega arith in
    omega (arith, ascends u ns o i d (omega arith), o.ascending (i + suc d) (omega arith), ap (λ j. get_or ns j 0) next)

fresh : (u j : ℕ) (ns : List ℕ) → Ordered u ns → j < length ns → among (get_or ns j 0) (take j ns) ≡ false
fresh u j ns o inside = list_any_none (λ y. y == get_or ns j 0) (take j ns) (All-from_get_or (λ y. (y == get_or ns j 0) ≡ false) (take j ns) 0 (λ i below.
    let before : i < j = omega (arith, length-take-le j ns (omega arith)) in
    let place : i + suc (j - i - 1) ≡ j = omega arith in
    let less = ascends u ns o i (j - i - 1) (omega arith) in
    ne_eqb (get_or (take j ns) i 0) (get_or ns j 0) (λ is. omega (arith, less, ap (λ k. get_or ns k 0) place, get_or-take j ns i 0 before, is))))

-- need number j is read where there are more
pub need_there : (ns : List ℕ) (j : ℕ) (o : Option ℕ) → j < length ns → o ≡ slice_get ns j → is_some o ≡ true
need_there ns j o inside is = ap is_some (is ∙ slice_get-get_or ns j 0 inside)

pub need_read : (ns : List ℕ) (j w : ℕ) (o : Option ℕ) → j < length ns → o ≡ slice_get ns j → o ≡ Some w → get_or ns j 0 ≡ w
need_read ns j w o inside is some = let here = slice_get-get_or ns j 0 inside in cc

-- no question refuses need number j
pub no_refusal : (u w : ℕ) (already : List ℕ) (entries spare : ℕ) → Needs u w already entries spare → need_refusal u w already entries spare ≡ None
no_refusal u w already entries spare n = let fresh = n.fresh in grind (arith, nat_tests, n.there, n.needed_there, n.others, n.few, n.room)

passes : (s t : Open) (u j : ℕ) (ns : List ℕ) → NeedsFit s u ns → Filled (with_needs s.book u (take j ns)) s t → j < length ns → need_refused t u (get_or ns j 0) ≡ None
passes s t u j ns f filled inside =
    let w = get_or ns j 0 in
    let long : length (take j ns) ≡ j = length-take-le j ns (omega arith) in
    let entries : length t.book.entries ≡ length s.book.entries = ap (λ (b : Book). length b.entries) filled.book in
    let needs : length t.book.needs ≡ length s.book.needs + j = ap (λ (b : Book). length b.needs) filled.book ∙ omega (arith, length-append s.book.needs (needs_by u (take j ns)), length_by u (take j ns)) in
    let already : needs_of u t.book.needs ≡ take j ns = ap (λ (b : Book). needs_of u b.needs) filled.book ∙ (needs_of_both u s.book.needs (needs_by u (take j ns)) ∙ rw (f.none, needs_of_own u (take j ns)) refl) in
    let table = filled.spared.untouched.0 in
    let all_there = All-get_or (λ k. k < length s.book.entries) ns j 0 inside f.all_there in
    let other = All-get_or (λ k. k ≢ u) ns j 0 inside f.ordered.others in
    rw already (no_refusal u w (take j ns) (length t.book.entries) (unused t) (record {
      there = omega (arith, f.there);
      needed_there = omega (arith, all_there);
      others = λ is. other (sym is);
      fresh = fresh u j ns f.ordered inside;
      few = omega (arith, f.few);
      room = omega (arith, f.room);
    }))

pub needed_ok : (t v : Open) (u w : ℕ) (a : Result (Unit {0}) NeedRefusal) → need_refused t u w ≡ None → Needed t u w a v → is_ok a ≡ true
needed_ok t v u w (Ok i) none h = refl
needed_ok t v u w (Err e) none h = let never : ◌≡◌ {A = ℕ} 0 1 = cc in absurd (omega arith)

-- what is needed without a refusal is entered
pub needed_some : (t v : Open) (u w : ℕ) (a : Result (Unit {0}) NeedRefusal) → is_ok a ≡ true → Needed t u w a v → Needed t u w (Ok tt) v
needed_some t v u w (Ok i) ok h = h
needed_some t v u w (Err e) ok h = absurd (false≢true ok)

-- so it is entered
pub enters : (s t v : Open) (u j : ℕ) (ns : List ℕ) (a : Result (Unit {0}) NeedRefusal) → NeedsFit s u ns → Filled (with_needs s.book u (take j ns)) s t → j < length ns → Needed t u (get_or ns j 0) a v → is_ok a ≡ true
enters s t v u j ns a f filled inside = needed_ok t v u (get_or ns j 0) a (passes s t u j ns f filled inside)

one_more : (b : Book) (u j : ℕ) (ns : List ℕ) → j < length ns → with_need (with_needs b u (take j ns)) u (get_or ns j 0) ≡ with_needs b u (take (j + 1) ns)
one_more b u j ns inside =
    let w = get_or ns j 0 in
    let more : needs_by u (take (j + 1) ns) ≡ needs_by u (take j ns) ++ needs_by u (w ∷ []) = ap (needs_by u) (take_more ns j 0 inside) ∙ map-append (λ (k : ℕ). record_of k) (take j ns) (w ∷ []) in
    ap with_all (append_assoc b.needs (needs_by u (take j ns)) (needs_by u (w ∷ [])) ∙ ap (λ xs. b.needs ++ xs) (sym more))
  where
    record_of : ℕ → Need
    record_of k = record { entry = u; needed = k }

    with_all : List Need → Book
    with_all xs = record { entries = b.entries; needs = xs }

pub needs_more : (b : Book) (s t v : Open) (u j : ℕ) (ns : List ℕ) → Filled (with_needs b u (take j ns)) s t → j < length ns → Needed t u (get_or ns j 0) (Ok tt) v → Filled (with_needs b u (take (j + 1) ns)) s v
needs_more b s t v u j ns filled inside needed = subst (λ c. Filled c s v) (one_more b u j ns inside) (filled_need (with_needs b u (take j ns)) s t v u (get_or ns j 0) filled needed)

-- The needs of all entries.

-- the book of all entries, and of the needs of the first k
abbrev pub needs_of_first : List Entry → ℕ → Book
needs_of_first es k = record { entries = map amounts_of es; needs = needs_from 0 (take k (all_needs es)) }

-- the needs of the entries that were read are entered
pub record NeedsRead (bs : List ℕ) (es : List Entry) (from : Cursor) (s t : Open) : Type 0 where
  pub standing : Standing bs es from
  pub filled : Filled (needs_of_first es from.number) s t

pub needs_none : (bs : List ℕ) (es : List Entry) (s : Open) → SheetOf bs es → s.book ≡ entries_alone es → NeedsRead bs es start s s
needs_none bs es s x new = record { standing = standing_start bs es x; filled = subst (λ b. Filled b s s) new (filled_none s) }

next_needs : (k : ℕ) (es : List Entry) → k < length es → needs_from 0 (take (k + 1) (all_needs es)) ≡ needs_from 0 (take k (all_needs es)) ++ needs_by k (get_or es k no_entry).needs
next_needs k es more = needs_from_next k (all_needs es) (omega (arith, all_needs_length es)) ∙ ap (λ ns. needs_from 0 (take k (all_needs es)) ++ needs_by k ns) (all_needs_at es k more)

-- the next entry may have its needs
pub next_fits : (bs : List ℕ) (es : List Entry) (from to : Cursor) (s t : Open) (r : Record) → SheetOf bs es → used (book_of es) ≤ length s.table.now → NeedsRead bs es from s t → HandedOut bs from to r → NeedsFit t r.number (entry_at bs r).needs
next_fits bs es from to s t r x room n h =
    let now = turn bs es from to r x n.standing h in
    let k = from.number in
    let e = get_or es k no_entry in
    let more = now.more in
    let sound = sound_at es k x.well.sound more in
    let entries : length t.book.entries ≡ length es = ap (λ (b : Book). length b.entries) n.filled.book ∙ length-map es amounts_of in
    let there : There (length es) e = All-get_or (There (length es)) es k no_entry more x.well.there in
    let needs : length t.book.needs ≡ length (needs_from 0 (take k (all_needs es))) = ap (λ (b : Book). length b.needs) n.filled.book in
    let needs_then = ap length (next_needs k es more) in
    let both = length-append (needs_from 0 (take k (all_needs es))) (needs_by k e.needs) in
    let own = length_by k e.needs in
    let all = needs_from_few 0 (k + 1) (all_needs es) in
    let table = n.filled.spared.untouched.0 in
    let size = length-map es amounts_of in
    let told = all_needs_length es in
    let here : NeedsFit t k e.needs = record {
      there = omega arith;
      all_there = subst (λ m. There m e) (sym entries) there;
      ordered = sound.ordered;
      few = sound.fits.few;
      none = ap (λ (b : Book). needs_of k b.needs) n.filled.book ∙ needs_of_before k 0 (take k (all_needs es)) (omega (arith, length-take-le k (all_needs es) (omega arith)));
      room = omega arith;
    } in
    subst (λ (d : Entry). NeedsFit t r.number d.needs) (sym now.entry) (subst (λ m. NeedsFit t m e.needs) (sym now.number) here)

-- and then they are entered
pub needs_turn : (bs : List ℕ) (es : List Entry) (from to : Cursor) (s t u : Open) (r : Record) → SheetOf bs es → NeedsRead bs es from s t → HandedOut bs from to r → Filled (with_needs t.book r.number (entry_at bs r).needs) t u → NeedsRead bs es to s u
needs_turn bs es from to s t u r x n h filled =
    let now = turn bs es from to r x n.standing h in
    let k = from.number in
    let e = get_or es k no_entry in
    let first = needs_of_first es k in
    let here : Filled (with_needs t.book k e.needs) t u = subst (λ m. Filled (with_needs t.book m e.needs) t u) now.number (subst (λ (d : Entry). Filled (with_needs t.book r.number d.needs) t u) now.entry filled) in
    let then : Filled (with_needs first k e.needs) t u = subst (λ b. Filled (with_needs b k e.needs) t u) n.filled.book here in
    let both : Filled (with_needs first k e.needs) s u = filled_on first (with_needs first k e.needs) s t u n.filled then (omega arith) (omega (arith, length-append first.needs (needs_by k e.needs))) in
    record {
      standing = now.standing;
      filled = subst (λ b. Filled b s u) (ap with_all (sym (next_needs k es now.more)) ∙ ap (needs_of_first es) (sym now.next)) both;
    }
  where
    with_all : List Need → Book
    with_all ns = record { entries = map amounts_of es; needs = ns }

pub needs_all : (bs : List ℕ) (es : List Entry) (from to : Cursor) (s t : Open) → NeedsRead bs es from s t → Handed bs from to (Ok None) → Filled (book_of es) s t
needs_all bs es from to s t n h = subst (λ b. Filled b s t) (ap with_needs_of (take_all from.number (all_needs es) (omega (arith, at_end bs es from to n.standing h, all_needs_length es)))) n.filled
  where
    with_needs_of : List (List ℕ) → Book
    with_needs_of all = record { entries = map amounts_of es; needs = needs_from 0 all }
