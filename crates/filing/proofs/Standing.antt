-- Where a reader of a known list stands, and what it hands out.
use Rattle.std.proofs.Common.{◌≡◌, ℕ, zero, suc, ◌+◌, ◌<◌, ◌≤◌, List, [], ◌∷◌, ◌++◌, length, get_or, drop, None, Ok, Option, sym, ap, ◌∙◌, subst, inl, inr, ⊎_elim, add-zero, arith}
use Rattle.std.proofs.lemmas.Bool.{cases_lt}
use Rattle.std.proofs.lemmas.List.{length-append, length-drop, drop_all, drop_more}
use Rattle.sheet.specs.declared.records.Record.{Record}
use Rattle.sheet.specs.Format.{Entry, entry_bytes, sheet_bytes}
use Rattle.sheet.specs.Sound.{Sound, Numbered}
use Rattle.sheet.specs.Answers.{SheetOf}
use Rattle.sheet.specs.Places.{Cursor, start, entry_at, HandedOut, Handed, NoneRefused}
use Rattle.sheet.proofs.Entries.{entry_same}
use Rattle.sheet.proofs.Turns.{entry_some, handed_at}

-- the entry past the end of a list
abbrev pub no_entry : Entry
no_entry = record { earning = None; cost = None; needs = [] }

-- what holds of each entry and its number holds of number k
numbered_at : (P : ℕ → Entry → Type 0) (i : ℕ) (es : List Entry) (k : ℕ) → Numbered P i es → k < length es → P (i + k) (get_or es k no_entry)
numbered_at P i [] k all there = absurd (omega arith)
numbered_at P i (e ∷ es) zero all there = subst (λ n. P n e) (sym (add-zero i)) all.0
numbered_at P i (e ∷ es) (suc k) all there = subst (λ n. P n (get_or es k no_entry)) (omega arith) (numbered_at P (suc i) es k all.1 (omega arith))

pub sound_at : (es : List Entry) (k : ℕ) → Numbered Sound 0 es → k < length es → Sound k (get_or es k no_entry)
sound_at es k all there = subst (λ n. Sound n (get_or es k no_entry)) (omega arith) (numbered_at Sound 0 es k all there)

-- the cursor stands before the entry with its number, and the records from there on follow
pub record Standing (bs : List ℕ) (es : List Entry) (from : Cursor) : Type 0 where
  pub number : from.number ≤ length es
  pub whole : drop from.at bs ≡ sheet_bytes (drop from.number es)

pub standing_start : (bs : List ℕ) (es : List Entry) → SheetOf bs es → Standing bs es start
standing_start bs es x = record { number = omega arith; whole = x.whole }

-- the next record is that of the entry with the cursor's number
ahead : (bs : List ℕ) (es : List Entry) (from : Cursor) → Standing bs es from → from.number < length es → drop from.at bs ≡ entry_bytes (get_or es from.number no_entry) ++ sheet_bytes (drop (from.number + 1) es)
unfolding sheet_bytes
ahead bs es from s more = s.whole ∙ ap sheet_bytes (drop_more es from.number no_entry more)

-- after the last entry nothing follows
past : (bs : List ℕ) (es : List Entry) (from : Cursor) → Standing bs es from → length es ≤ from.number → drop from.at bs ≡ []
unfolding sheet_bytes
past bs es from s end = s.whole ∙ ap sheet_bytes (drop_all from.number es end)

-- the record r was handed out, which is that of the next entry
pub record Turn (bs : List ℕ) (es : List Entry) (from to : Cursor) (r : Record) : Type 0 where
  pub more : from.number < length es
  pub number : r.number ≡ from.number
  pub entry : entry_at bs r ≡ get_or es from.number no_entry
  pub next : to.number ≡ from.number + 1
  pub standing : Standing bs es to

pub turn : (bs : List ℕ) (es : List Entry) (from to : Cursor) (r : Record) → SheetOf bs es → Standing bs es from → HandedOut bs from to r → Turn bs es from to r
turn bs es from to r x s h = ⊎_elim here (λ (far : length es ≤ from.number). absurd (omega (arith, ap length (sym h.whole ∙ past bs es from s far), length-append (entry_bytes (entry_at bs r)) (drop to.at bs), entry_some (entry_at bs r)))) (cases_lt from.number (length es))
  where
    here : from.number < length es → Turn bs es from to r
    here more =
        let e = get_or es from.number no_entry in
        let same = entry_same (entry_at bs r) e (drop to.at bs) (sheet_bytes (drop (from.number + 1) es)) h.sound.fits (sound_at es from.number x.well.sound more).fits (sym h.whole ∙ ahead bs es from s more) in
        record {
          more = more;
          number = ap (λ (y : Record). y.number) h.places;
          entry = same.0;
          next = h.number;
          standing = record { number = omega (arith, h.number); whole = same.1 ∙ ap (λ k. sheet_bytes (drop k es)) (sym h.number) };
        }

-- no question would refuse what stands next
pub none_refused : (bs : List ℕ) (es : List Entry) (from : Cursor) → SheetOf bs es → Standing bs es from → NoneRefused bs from
none_refused bs es from x s = ⊎_elim
    (λ (more : from.number < length es). inr (record { entry = get_or es from.number no_entry; tail = sheet_bytes (drop (from.number + 1) es); sound = sound_at es from.number x.well.sound more; whole = ahead bs es from s more }))
    (λ (far : length es ≤ from.number). inl (omega (arith, ap length (past bs es from s far), length-drop from.at bs)))
    (cases_lt from.number (length es))

-- what is handed out where a reader of a sheet that is known to be another stands
pub handed : (bs cs : List ℕ) (es : List Entry) (from to : Cursor) (o p : Option Record) → cs ≡ bs → o ≡ p → SheetOf bs es → Standing bs es from → (NoneRefused cs from → Handed cs from to (Ok o)) → Handed bs from to (Ok p)
handed bs cs es from to o p same is x s h = handed_at bs cs from to (Ok o) (Ok p) same (ap Ok is) (h (subst (λ l. NoneRefused l from) (sym same) (none_refused bs es from x s)))

-- the reader ends where all entries were read
pub at_end : (bs : List ℕ) (es : List Entry) (from to : Cursor) → Standing bs es from → Handed bs from to (Ok None) → from.number ≡ length es
at_end bs es from to s h = ⊎_elim
    (λ (more : from.number < length es). absurd (omega (arith, ap length (ahead bs es from s more), length-append (entry_bytes (get_or es from.number no_entry)) (sheet_bytes (drop (from.number + 1) es)), entry_some (get_or es from.number no_entry), length-drop from.at bs, h.0)))
    (λ (far : length es ≤ from.number). omega (arith, s.number))
    (cases_lt from.number (length es))
