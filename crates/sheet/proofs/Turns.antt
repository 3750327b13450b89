-- What a reader hands out, turn by turn, and what it has read so far.
use Rattle.std.proofs.Common.{false, ◌≡◌, ℕ, suc, ◌+◌, ◌-◌, ◌<◌, ◌≤◌, List, [], ◌∷◌, ◌++◌, length, drop, Some, None, Ok, Err, Option, Result, sym, refl, ap, ◌∙◌, subst, add-zero, arith}
use Rattle.std.proofs.lemmas.List.{append_assoc, append-nil, length-append, length-drop, length_push, drop_all, flat_map_more}
use Rattle.sheet.specs.declared.records.Record.{Record}
use Rattle.std.proofs.lemmas.Bool.{false≢true}
use Rattle.std.specs.Result.{MatchResult, is_ok}
use Rattle.sheet.specs.declared.refusal.Fault.{Fault}
use Rattle.sheet.specs.declared.refusal.SheetRefusal.{SheetRefusal}
use Rattle.sheet.specs.Format.{Entry, entry_bytes, sheet_bytes}
use Rattle.sheet.specs.Sound.{Sound, Numbered}
use Rattle.sheet.specs.Answers.{First, SoundSheet, SheetOf, Answers}
use Rattle.sheet.specs.Places.HandsOut.{none, more}
use Rattle.sheet.specs.Places.{entry_at, placed, Cursor, start, HandedOut, HandsOut, Refused, Handed, InTurn}
use Rattle.sheet.proofs.Entries.{entry_same, length_entry}
use Rattle.sheet.proofs.Sheets.{sound_free, sound_same}

-- an entry's record has a byte at least
pub entry_some : (e : Entry) → 0 < length (entry_bytes e)
entry_some e = omega (arith, length_entry e)

-- where the record at a cursor is refused, no sound record stands
pub no_turn : (P : Record → Type 0) (bs : List ℕ) (from : Cursor) (found : Result Record Fault) (r : Result (Option Record) SheetRefusal) → is_ok found ≡ false → MatchResult found P (λ fault. First fault from.number (drop from.at bs)) → InTurn bs from r
no_turn P bs from (Ok x) r refused h = absurd (false≢true (sym refused))
no_turn P bs from (Err fault) r refused h = λ e tail sound whole. absurd (h.fails (sound_free from.number (drop from.at bs) e tail sound whole fault))

-- what stands next is what is handed out
pub in_turn : (bs : List ℕ) (from to : Cursor) (r : Result (Option Record) SheetRefusal) → Handed bs from to r → InTurn bs from r
in_turn bs from to (Ok None) h e tail sound whole =
    absurd (omega (arith, entry_some e, ap length whole, length-append (entry_bytes e) tail, length-drop from.at bs, h.0))
in_turn bs from to (Ok (Some r)) h e tail sound whole =
    let is = (entry_same (entry_at bs r) e (drop to.at bs) tail h.sound.fits sound.fits (sym h.whole ∙ whole)).0 in
    let places = h.places ∙ ap (placed from.number from.at) is in
    (ap (λ x. Ok (Some x)) places, ap (entry_at bs) (sym places) ∙ is)
in_turn bs from to (Err x) h e tail sound whole =
    absurd (h.first.fails (sound_free from.number (drop from.at bs) e tail sound whole h.fault))

sheet_push : (es : List Entry) (e : Entry) → sheet_bytes (es ++ e ∷ []) ≡ sheet_bytes es ++ entry_bytes e
unfolding sheet_bytes
sheet_push es e = sym (flat_map_more entry_bytes [] es e)

numbered_push : (P : ℕ → Entry → Type 0) (i : ℕ) (es : List Entry) (e : Entry) → Numbered P i es → P (i + length es) e → Numbered P i (es ++ e ∷ [])
numbered_push P i [] e all here = (subst (λ n. P n e) (add-zero i) here, tt)
numbered_push P i (d ∷ es) e all here = (all.0, numbered_push P (suc i) es e all.1 (subst (λ n. P n e) (omega arith) here))

-- a reader that began at the start has read es, and stands at a cursor
pub record Progress (bs : List ℕ) (es : List Entry) (from : Cursor) : Type 0 where
  pub whole : bs ≡ sheet_bytes es ++ drop from.at bs
  pub place : from.at ≡ length (sheet_bytes es)
  pub number : from.number ≡ length es
  pub sound : Numbered Sound 0 es

pub progress_none : (bs : List ℕ) → Progress bs [] start
unfolding sheet_bytes
progress_none bs = record { whole = refl; place = refl; number = refl; sound = tt }

pub progress_more : (bs : List ℕ) (es : List Entry) (from to : Cursor) (r : Record) → Progress bs es from → HandedOut bs from to r → Progress bs (es ++ entry_at bs r ∷ []) to
progress_more bs es from to r p h =
    let e = entry_at bs r in
    let more = sheet_push es e in
    record {
      whole = p.whole ∙ ap (λ l. sheet_bytes es ++ l) h.whole ∙ sym (append_assoc (sheet_bytes es) (entry_bytes e) (drop to.at bs)) ∙ ap (λ l. l ++ drop to.at bs) (sym more);
      place = omega (arith, h.next, p.place, ap length more, length-append (sheet_bytes es) (entry_bytes e));
      number = omega (arith, h.number, p.number, length_push es e);
      sound = numbered_push Sound 0 es e p.sound (subst (λ n. Sound n e) (omega (arith, p.number)) h.sound);
    }

pub progress_done : (bs : List ℕ) (es : List Entry) (from : Cursor) → Progress bs es from → length bs ≤ from.at → SoundSheet bs es
progress_done bs es from p end = record {
  whole = p.whole ∙ ap (λ l. sheet_bytes es ++ l) (drop_all from.at bs end) ∙ append-nil (sheet_bytes es);
  sound = p.sound;
}

-- what was handed out since is read too
pub progress_on : (bs : List ℕ) (es ds : List Entry) (from to : Cursor) → Progress bs es from → HandsOut bs from ds to → Progress bs (es ++ ds) to
progress_on bs es ds from to p none = subst (λ l. Progress bs l to) (sym (append-nil es)) p
progress_on bs es ds from to p (more {mid = mid} {r = r} {es = rest} h hs) =
    subst (λ l. Progress bs l to) (append_assoc es (entry_at bs r ∷ []) rest) (progress_on bs (es ++ entry_at bs r ∷ []) rest mid to (progress_more bs es from mid r p h) hs)

-- a record that is refused in its turn is the first with a fault
pub progress_fault : (bs : List ℕ) (es : List Entry) (from to : Cursor) (x : SheetRefusal) → Progress bs es from → Refused bs from to x → Answers bs (Err x)
progress_fault bs es from to x p h =
    subst (λ y. Answers bs (Err y)) (sym h.tells) (record {
      before = es;
      rest = drop from.at bs;
      whole = p.whole;
      more = omega (arith, length-drop from.at bs, h.more);
      sound = p.sound;
      number = p.number;
      place = p.place;
      first = h.first;
    })

-- the same, of a sheet and an answer that are known to be others
pub handed_at : (bs cs : List ℕ) (from to : Cursor) (r s : Result (Option Record) SheetRefusal) → cs ≡ bs → r ≡ s → Handed cs from to r → Handed bs from to s
handed_at bs cs from to r s same is h = subst (Handed bs from to) is (subst (λ l. Handed l from to r) same h)

-- a turn comes nearer to the sheet's end
pub turn_falls : (bs : List ℕ) (from to : Cursor) (r : Record) → HandedOut bs from to r → length bs - to.at < length bs - from.at
turn_falls bs from to r h = omega (arith, h.next, h.inside, entry_some (entry_at bs r))

-- what is handed out from the start to the end is the one list
pub reads_list : (bs : List ℕ) (es ds : List Entry) (end : Cursor) → SheetOf bs es → HandsOut bs start ds end → length bs ≤ end.at → ds ≡ es
reads_list bs es ds end x h over =
    sound_same bs ds es (progress_done bs ds end (progress_on bs [] ds start end (progress_none bs) h) over) (record { whole = x.whole; sound = x.well.sound })
