-- The two passes over a sheet: what each knows between two turns.
use Rattle.std.proofs.Common.{◌≡◌, ℕ, suc, ◌+◌, ◌*◌, ◌<◌, ◌≤◌, List, [], ◌∷◌, ◌++◌, length, drop, Ok, Err, Result, sym, refl, ap, ◌∙◌, subst, arith}
use Rattle.std.proofs.ByRecursion.{All-push}
use Rattle.std.proofs.lemmas.List.{append_assoc, length_push}
use Rattle.std.specs.List.{AllByRecursion}
use Rattle.sheet.specs.declared.Counts.{Counts}
use Rattle.sheet.specs.declared.records.Record.{Record}
use Rattle.sheet.specs.declared.refusal.SheetRefusal.{SheetRefusal}
use Rattle.sheet.specs.declared.refusal.SheetRefusal.TheVariants.{Missing}
use Rattle.sheet.specs.Format.{Entry, entry_bytes, sheet_bytes}
use Rattle.sheet.specs.Sound.{Fits, Sound, Numbered, There, need_count, counts}
use Rattle.sheet.specs.Answers.{SoundSheet, Answers}
use Rattle.sheet.specs.Places.{entry_at, Cursor, start, HandedOut, Refused}
use Rattle.sheet.proofs.Entries.{entry_same}
use Rattle.sheet.specs.Wholes.{Counted, Tallied, TheAnswer}
use Rattle.sheet.proofs.Needs.{there_more}
use Rattle.sheet.proofs.Sheets.{not_nothing, one_list, one_answer, some_entries, accepted}
use Rattle.sheet.proofs.Turns.{Progress, progress_none, progress_more, progress_done, progress_fault, reads_list}

pub need_count_push : (es : List Entry) (e : Entry) → need_count (es ++ e ∷ []) ≡ need_count es + length e.needs
need_count_push [] e = omega arith
need_count_push (d ∷ es) e = omega (arith, need_count_push es e)

-- an answer is the only one; a sheet has one list at most, and a reader hands it out
pub settled : (bs : List ℕ) (r : Result Counts SheetRefusal) → Answers bs r → TheAnswer bs r
settled bs r a = record {
  answers = a;
  only = λ s b. one_answer bs s r b a;
  accepts = λ es x. one_answer bs r (Ok (counts es)) a (es, x, refl);
  one_list = one_list bs;
  reads_list = λ ds es. reads_list bs es ds;
}

-- the first pass: what it has read, how many entries and needs that is, and the highest of the needs
pub record Counting (bs : List ℕ) (from : Cursor) (n : Counts) (highest : ℕ) : Type 0 where
  pub read : List Entry
  pub progress : Progress bs read from
  pub entries_are : n.entries ≡ length read
  pub needs_are : n.needs ≡ need_count read
  pub few : n.needs ≤ 4 * n.entries
  pub there : AllByRecursion (There (highest + 1)) read

pub counting_none : (bs : List ℕ) (from : Cursor) (n : Counts) → from ≡ start → n.entries ≡ 0 → n.needs ≡ 0 → Counting bs from n 0
counting_none bs from n begins entries needs = record { read = []; progress = rw begins (progress_none bs); entries_are = entries; needs_are = needs; few = omega arith; there = tt }

pub counting_more : (bs : List ℕ) (from to : Cursor) (n : Counts) (h k m : ℕ) (r : Record) → Counting bs from n h → HandedOut bs from to r → ((n : ℕ) → k < n → There n (entry_at bs r)) → h ≤ m → k ≤ m → Counting bs to (record { entries = n.entries + 1; needs = n.needs + r.count }) m
counting_more bs from to n h k m r c out own above above_own =
    let e = entry_at bs r in
    let count : r.count ≡ length e.needs = ap (λ (x : Record). x.count) out.places in
    let few = out.sound.fits.few in
    record {
      read = c.read ++ e ∷ [];
      progress = progress_more bs c.read from to r c.progress out;
      entries_are = omega (arith, c.entries_are, length_push c.read e);
      needs_are = omega (arith, c.needs_are, need_count_push c.read e);
      few = omega (arith, c.few);
      there = All-push (There (m + 1)) c.read e (there_more (h + 1) (m + 1) c.read (omega arith) c.there) (own (m + 1) (omega arith));
    }

pub counting_done : (bs : List ℕ) (from : Cursor) (n : Counts) (h : ℕ) → Counting bs from n h → (bs ≡ [] → ⊥) → length bs ≤ from.at → Tallied bs n h
counting_done bs from n h c some end = record {
  counted = record {
    entries = c.read;
    sheet = progress_done bs c.read from c.progress end;
    some = some;
    are = λ i. record { entries = c.entries_are i; needs = c.needs_are i };
  };
  there = c.there;
}

-- where the highest need is there, all are, and the sheet is accepted
pub all_there : (bs : List ℕ) (c : Counts) (h : ℕ) → Tallied bs c h → h < c.entries → TheAnswer bs (Ok c)
all_there bs c h t inside =
    let k = t.counted in
    settled bs (Ok c) (accepted bs c k.some (k.entries, k.sheet, k.are) (k.entries, k.sheet, there_more (h + 1) c.entries k.entries (omega arith) t.there))

-- a sheet that has a byte has an entry
pub some_counted : (bs : List ℕ) (c : Counts) → Counted bs c → 0 < c.entries
some_counted bs c k = omega (arith, some_entries bs k.entries k.some k.sheet.whole, ap (λ (n : Counts). n.entries) k.are)

-- records that were read are the first of all
rest_of : (i : ℕ) (ds es : List Entry) (e : Entry) (t : List ℕ) → Numbered Sound i ds → Fits e → Numbered Sound i es → sheet_bytes ds ++ (entry_bytes e ++ t) ≡ sheet_bytes es → (after : List Entry) × (es ≡ ds ++ e ∷ after)
unfolding sheet_bytes
rest_of i [] [] e t a fits b same = absurd (not_nothing e t same)
rest_of i [] (f ∷ es) e t a fits b same =
    let first = (entry_same e f t (sheet_bytes es) fits b.0.fits same).0 in
    (es, ap (λ x. x ∷ es) (sym first))
rest_of i (d ∷ ds) [] e t a fits b same = absurd (not_nothing d (sheet_bytes ds ++ (entry_bytes e ++ t)) (sym (append_assoc (entry_bytes d) (sheet_bytes ds) (entry_bytes e ++ t)) ∙ same))
rest_of i (d ∷ ds) (f ∷ es) e t a fits b same =
    let (first, more) = entry_same d f (sheet_bytes ds ++ (entry_bytes e ++ t)) (sheet_bytes es) a.0.fits b.0.fits (sym (append_assoc (entry_bytes d) (sheet_bytes ds) (entry_bytes e ++ t)) ∙ same) in
    let (after, is) = rest_of (suc i) ds es e t a.1 fits b.1 more in
    (after, cc)

-- the second pass: what it has read needs only entries that are there
pub record Checking (bs : List ℕ) (n : ℕ) (from : Cursor) : Type 0 where
  pub read : List Entry
  pub progress : Progress bs read from
  pub there : AllByRecursion (There n) read

pub checking_none : (bs : List ℕ) (n : ℕ) → Checking bs n start
checking_none bs n = record { read = []; progress = progress_none bs; there = tt }

pub checking_more : (bs : List ℕ) (n : ℕ) (from to : Cursor) (r : Record) → Checking bs n from → HandedOut bs from to r → There n (entry_at bs r) → Checking bs n to
checking_more bs n from to r c h there = record {
  read = c.read ++ entry_at bs r ∷ [];
  progress = progress_more bs c.read from to r c.progress h;
  there = All-push (There n) c.read (entry_at bs r) c.there there;
}

-- the first record that needs an entry that is not there
pub checking_missing : (bs : List ℕ) (c : Counts) (from to : Cursor) (r : Record) → Counted bs c → Checking bs c.entries from → HandedOut bs from to r → (There c.entries (entry_at bs r) → ⊥) → TheAnswer bs (Err (Missing r.number r.byte))
checking_missing bs c from to r k x h missing =
    let e = entry_at bs r in
    let p = x.progress in
    let (after, is) = rest_of 0 x.read k.entries e (drop to.at bs) p.sound h.sound.fits k.sheet.sound (sym (p.whole ∙ ap (λ l. sheet_bytes x.read ++ l) h.whole) ∙ k.sheet.whole) in
    let all : c.entries ≡ length (x.read ++ e ∷ after) = ap (λ (n : Counts). n.entries) k.are ∙ ap length is in
    settled bs (Err (Missing r.number r.byte)) (record {
      before = x.read;
      entry = e;
      after = after;
      sheet = subst (SoundSheet bs) is k.sheet;
      number = ap (λ (y : Record). y.number) h.places ∙ p.number;
      place = ap (λ (y : Record). y.byte) h.places ∙ p.place;
      there = subst (λ m. AllByRecursion (There m) x.read) all x.there;
      missing = subst (λ m. There m e → ⊥) all missing;
    })

-- a sheet that passed both rounds of questions is accepted
pub checking_done : (bs : List ℕ) (c : Counts) (from : Cursor) → Counted bs c → Checking bs c.entries from → length bs ≤ from.at → TheAnswer bs (Ok c)
checking_done bs c from k x end =
    settled bs (Ok c) (accepted bs c k.some (k.entries, k.sheet, k.are) (x.read, progress_done bs x.read from x.progress end, x.there))

-- a fault in either pass is the answer
pub fault_answers : (bs : List ℕ) (es : List Entry) (from to : Cursor) (x : SheetRefusal) → Progress bs es from → Refused bs from to x → TheAnswer bs (Err x)
fault_answers bs es from to x p h = settled bs (Err x) (progress_fault bs es from to x p h)
