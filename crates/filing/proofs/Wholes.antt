-- A whole load: how many records a sheet's book uses, and what the two passes come to.
use Rattle.std.proofs.Common.{◌≡◌, ℕ, suc, ◌+◌, ◌-◌, ◌*◌, ◌<◌, ◌≤◌, List, [], ◌∷◌, length, Ok, sym, ap, subst, arith}
use Rattle.std.proofs.lemmas.List.{length-map}
use Rattle.sheet.specs.declared.Counts.{Counts}
use Rattle.sheet.specs.Format.{Entry}
use Rattle.sheet.specs.Sound.{Sound, Numbered, need_count, counts}
use Rattle.sheet.specs.Answers.{SheetOf, Answers}
use Rattle.book.specs.Calls.{Open, used, Spared}
use Rattle.filing.specs.Books.{amounts_of, book_of}
use Rattle.filing.specs.Loads.{TooShort, AllLoaded}
use Rattle.filing.specs.Passes.{Fitting, entries_alone, Filled}
use Rattle.filing.proofs.Standing.{sound_at}
use Rattle.filing.proofs.Filling.{filled_on, room_for}
use Rattle.filing.proofs.Needing.{length_needs}

few_needs : (i : ℕ) (es : List Entry) → Numbered Sound i es → need_count es ≤ 4 * length es
few_needs i [] all = omega arith
few_needs i (e ∷ es) all = omega (arith, all.0.fits.few, few_needs (suc i) es all.1)

pub few_counts : (bs : List ℕ) (c : Counts) → Answers bs (Ok c) → (c.entries ≤ 4096) × (c.needs ≤ 16384)
few_counts bs c (es, x, are) =
    let some = x.well.some in
    let last = (sound_at es (length es - 1) x.well.sound (omega arith)).within in
    let entries : c.entries ≡ length es = ap (λ (n : Counts). n.entries) are in
    let needs : c.needs ≡ need_count es = ap (λ (n : Counts). n.needs) are in
    let few = few_needs 0 es x.well.sound in
    (omega arith, omega arith)

used_by : (es : List Entry) (c : Counts) → c ≡ counts es → used (book_of es) ≡ c.entries + 2 * c.needs
used_by es c are =
    let entries : c.entries ≡ length es = ap (λ (n : Counts). n.entries) are in
    let needs : c.needs ≡ need_count es = ap (λ (n : Counts). n.needs) are in
    omega (arith, length-map es amounts_of, length_needs 0 es)

-- the table has too few records
pub too_short : (s : Open) (bs : List ℕ) (c : Counts) (size : ℕ) → Answers bs (Ok c) → size ≡ length s.table.now → size < c.entries + 2 * c.needs → TooShort s bs
too_short s bs c size (es, x, are) is short = record { entries = es; sheet = x; short = omega (arith, used_by es c are) }

-- or enough
pub fitting : (s : Open) (bs : List ℕ) (c : Counts) (size : ℕ) → Answers bs (Ok c) → size ≡ length s.table.now → c.entries + 2 * c.needs ≤ size → Fitting bs s
fitting s bs c size (es, x, are) is enough = record { entries = es; sheet = x; room = omega (arith, used_by es c are) }

-- which it still has after the first pass
pub fitting_then : (s t : Open) (bs : List ℕ) → Fitting bs s → ((es : List Entry) → SheetOf bs es → Filled (entries_alone es) s t) → Fitting bs t
fitting_then s t bs f filled = let table = (filled f.entries f.sheet).spared.untouched.0 in record { entries = f.entries; sheet = f.sheet; room = omega (arith, f.room) }

-- both passes together
pub all_loaded : (s m t : Open) (bs : List ℕ) (c : Counts) → Answers bs (Ok c) → Fitting bs s → ((es : List Entry) → SheetOf bs es → Filled (entries_alone es) s m) → ((es : List Entry) → SheetOf bs es → Filled (book_of es) m t) → AllLoaded s bs c t
all_loaded s m t bs c (es, x, are) fits first then =
    let all = filled_on (entries_alone es) (book_of es) s m t (first es x) (then es x) (omega arith) (omega arith) in
    record {
      entries = es;
      sheet = x;
      are = are;
      room = room_for bs s es fits x;
      book = all.book;
      spared = subst (λ b. Spared b s.table t.table) (sym all.book) all.spared;
    }
