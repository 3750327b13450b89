-- The first pass of loading: the entries.
use Rattle.std.proofs.Common.{◌≡◌, ℕ, ◌+◌, ◌<◌, ◌≤◌, true, List, [], ◌∷◌, ◌++◌, map, length, get_or, take, Some, None, Ok, Err, Option, Result, sym, refl, ap, ◌∙◌, subst, arith}
use Rattle.std.specs.Result.{is_ok}
use Rattle.std.proofs.lemmas.Bool.{false≢true}
use Rattle.std.proofs.lemmas.Bool.Decides.{nat_tests}
use Rattle.std.proofs.lemmas.List.{length-map, length-take-le, map-append, take_all, take_more}
use Rattle.sheet.specs.declared.records.Record.{Record}
use Rattle.sheet.specs.Format.{Entry}
use Rattle.sheet.specs.Sound.{InRange}
use Rattle.sheet.specs.Answers.{SheetOf}
use Rattle.sheet.specs.Places.{Cursor, start, entry_at, amount, HandedOut, Handed}
use Rattle.book.specs.declared.refusal.EnterRefusal.{EnterRefusal}
use Rattle.book.specs.Books.{Amounts, Book, empty, with_entry}
use Rattle.book.specs.Calls.{Open, used, unused, enter_refused, Entered}
use Rattle.filing.specs.Books.{amounts_of, book_of}
use Rattle.filing.specs.Passes.{entries_alone, Filled}
use Rattle.filing.proofs.Standing.{no_entry, Standing, standing_start, turn, at_end}
use Rattle.filing.proofs.Filling.{filled_none, filled_entry}

-- the entries that were read are entered
pub record EntriesRead (bs : List ℕ) (es : List Entry) (from : Cursor) (s t : Open) : Type 0 where
  pub standing : Standing bs es from
  pub filled : Filled (entries_alone (take from.number es)) s t

pub entries_none : (bs : List ℕ) (es : List Entry) (s : Open) → SheetOf bs es → s.book ≡ empty → EntriesRead bs es start s s
entries_none bs es s x new = record { standing = standing_start bs es x; filled = subst (λ b. Filled b s s) new (filled_none s) }

small : (o : Option ℕ) → InRange o → amount o ≤ 1000000
small None h = omega arith
small (Some x) h = h.1

-- no question refuses the next entry
passes : (bs : List ℕ) (es : List Entry) (from to : Cursor) (s t : Open) (r : Record) → SheetOf bs es → used (book_of es) ≤ length s.table.now → EntriesRead bs es from s t → HandedOut bs from to r → enter_refused t (amount (entry_at bs r).earning) (amount (entry_at bs r).cost) ≡ None
passes bs es from to s t r x room e h =
    let now = turn bs es from to r x e.standing h in
    let earning = small (entry_at bs r).earning h.sound.earning in
    let cost = small (entry_at bs r).cost h.sound.cost in
    let within = h.sound.within in
    let read : length t.book.entries ≡ from.number = ap (λ (b : Book). length b.entries) e.filled.book ∙ (length-map (take from.number es) amounts_of ∙ length-take-le from.number es (omega (arith, now.more))) in
    let needs : length t.book.needs ≡ 0 = ap (λ (b : Book). length b.needs) e.filled.book in
    let all = length-map es amounts_of in
    let more = now.more in
    let table = e.filled.spared.untouched.0 in
    let left : 0 < unused t = omega arith in
    grind (arith, nat_tests)

pub entered_ok : (t u : Open) (x y : ℕ) (r : Result ℕ EnterRefusal) → enter_refused t x y ≡ None → Entered t x y r u → is_ok r ≡ true
entered_ok t u x y (Ok i) none h = refl
entered_ok t u x y (Err e) none h = let never : ◌≡◌ {A = ℕ} 0 1 = cc in absurd (omega arith)

-- what is entered without a refusal has a number
pub entered_some : (t u : Open) (x y : ℕ) (r : Result ℕ EnterRefusal) → is_ok r ≡ true → Entered t x y r u → (i : ℕ) × Entered t x y (Ok i) u
entered_some t u x y (Ok i) ok h = (i, h)
entered_some t u x y (Err e) ok h = absurd (false≢true ok)

-- so it is entered
pub enters : (bs : List ℕ) (es : List Entry) (from to : Cursor) (s t u : Open) (r : Record) (a : Result ℕ EnterRefusal) → SheetOf bs es → used (book_of es) ≤ length s.table.now → EntriesRead bs es from s t → HandedOut bs from to r → Entered t (amount (entry_at bs r).earning) (amount (entry_at bs r).cost) a u → is_ok a ≡ true
enters bs es from to s t u r a x room e h = entered_ok t u (amount (entry_at bs r).earning) (amount (entry_at bs r).cost) a (passes bs es from to s t r x room e h)

-- what was entered, where its amounts were read at the places of a record
pub entered_at : (bs cs : List ℕ) (t u : Open) (r : Record) (x y : ℕ) (a b : Result ℕ EnterRefusal) → cs ≡ bs → x ≡ amount (entry_at cs r).earning → y ≡ amount (entry_at cs r).cost → a ≡ b → Entered t x y a u → Entered t (amount (entry_at bs r).earning) (amount (entry_at bs r).cost) b u
entered_at bs cs t u r x y a b same earning cost is h =
    subst (λ z. Entered t (amount (entry_at bs r).earning) z b u) (cost ∙ ap (λ ds. amount (entry_at ds r).cost) same) (subst (λ z. Entered t z y b u) (earning ∙ ap (λ ds. amount (entry_at ds r).earning) same) (subst (λ o. Entered t x y o u) is h))

-- the book of one entry more
one_more : (es : List Entry) (k : ℕ) → k < length es → with_entry (entries_alone (take k es)) (amount (get_or es k no_entry).earning) (amount (get_or es k no_entry).cost) ≡ entries_alone (take (k + 1) es)
one_more es k more =
    let list : map amounts_of (take (k + 1) es) ≡ map amounts_of (take k es) ++ amounts_of (get_or es k no_entry) ∷ [] = ap (map amounts_of) (take_more es k no_entry more) ∙ map-append amounts_of (take k es) (get_or es k no_entry ∷ []) in
    ap (λ xs. with_entries xs) (sym list)
  where
    with_entries : List Amounts → Book
    with_entries xs = record { entries = xs; needs = [] }

pub entries_more : (bs : List ℕ) (es : List Entry) (from to : Cursor) (s t u : Open) (r : Record) (i : ℕ) → SheetOf bs es → EntriesRead bs es from s t → HandedOut bs from to r → Entered t (amount (entry_at bs r).earning) (amount (entry_at bs r).cost) (Ok i) u → EntriesRead bs es to s u
entries_more bs es from to s t u r i x e h entered =
    let now = turn bs es from to r x e.standing h in
    let here = subst (λ (d : Entry). Filled (with_entry (entries_alone (take from.number es)) (amount d.earning) (amount d.cost)) s u) now.entry (filled_entry (entries_alone (take from.number es)) s t u _ _ i e.filled entered) in
    record {
      standing = now.standing;
      filled = subst (λ b. Filled b s u) (one_more es from.number now.more ∙ ap (λ k. entries_alone (take k es)) (sym now.next)) here;
    }

pub entries_all : (bs : List ℕ) (es : List Entry) (from to : Cursor) (s t : Open) → EntriesRead bs es from s t → Handed bs from to (Ok None) → Filled (entries_alone es) s t
entries_all bs es from to s t e h = subst (λ (xs : List Entry). Filled (entries_alone xs) s t) (take_all from.number es (omega (arith, at_end bs es from to e.standing h))) e.filled
