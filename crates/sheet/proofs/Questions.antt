-- The questions put to the record that begins at one place, by the places that its bit map lays.
use Rattle.std.proofs.Common.{◌≡◌, ℕ, ◌+◌, ◌-◌, ◌/◌, ◌%◌, ◌^◌, ◌<◌, ◌≤◌, List, Option, ◌++◌, length, get_or, drop, sym, refl, ap, ◌∙◌, subst, ⊎_elim, add-zero, arith}
use Rattle.std.proofs.lemmas.List.{get_or-drop, length-drop, length-append}
use Rattle.std.proofs.lemmas.Bool.{cases_lt}
use Rattle.std.specs.Option.{unwrap_or}
use Rattle.sheet.specs.declared.records.Record.{Record}
use Rattle.sheet.specs.declared.refusal.Fault.TheVariants.{HighBits, NeedGap, CutShort, AmountRange, NeedOrder}
use Rattle.sheet.specs.Format.{Entry, bit_map, entry_bytes}
use Rattle.sheet.specs.Sound.{Fits, InRange, Ordered}
use Rattle.sheet.specs.Answers.{Begins, Free, First}
use Rattle.sheet.specs.Places.{entry_at, placed, HandedOut, SoundAhead}
use Rattle.sheet.specs.Layout.{laid, size}
use Rattle.sheet.proofs.Entries.{same_kind, length_entry, entry_same}
use Rattle.sheet.proofs.Maps.{Announces, announces_run}
use Rattle.sheet.proofs.Numbers.{Bytes}
use Rattle.sheet.proofs.Sheets.{first_byte, sound_free}
use Rattle.sheet.proofs.Standing.{laid_fits, laid_map, laid_size, laid_places, laid_stands, stands_there}

-- the record r at p, laid by the bit map m with k needs
pub record Laid (bs : List ℕ) (i p : ℕ) (r : Record) : Type 0 where
  pub map : ℕ
  pub start : p < length bs
  pub within : i < 4096
  pub byte : get_or bs p 0 ≡ map
  pub low : map < 64
  pub run : map / 4 % 16 ≡ 2 ^ r.count - 1
  pub few : r.count ≤ 4
  pub fits : Fits (entry_at bs r)
  pub whole_map : bit_map (entry_at bs r) ≡ map
  pub end : r.end ≡ p + length (entry_bytes (entry_at bs r))
  pub places : r ≡ placed i p (entry_at bs r)
  pub stands : r.end ≤ length bs → drop p bs ≡ entry_bytes (entry_at bs r) ++ drop r.end bs

pub laid_is : (bs : List ℕ) (i p m k : ℕ) (r : Record) → Bytes bs → p < length bs → i < 4096 → get_or bs p 0 ≡ m → m < 64 → m / 4 % 16 ≡ 2 ^ k - 1 → k ≤ 4 → r ≡ laid i p m k → Laid bs i p r
laid_is bs i p m k r small start within byte low run few is =
    let long = laid_size bs i p m k small low run few in
    let there = stands_there bs i p m k in
    subst (Laid bs i p) (sym is) (record {
      map = m;
      start = start;
      within = within;
      byte = byte;
      low = low;
      run = run;
      few = few;
      fits = subst Fits there (laid_fits bs i p m k small low run few);
      whole_map = subst (λ e. bit_map e ≡ m) there (laid_map bs i p m k small low run few);
      end = subst (λ e. p + size m k ≡ p + length (entry_bytes e)) there (ap (λ n. p + n) (sym long));
      places = subst (λ e. laid i p m k ≡ placed i p e) there (laid_places bs i p m k small low run few);
      stands = λ inside. subst (λ e. drop p bs ≡ entry_bytes e ++ drop (p + size m k) bs) there (laid_stands bs i p m k small low run few start byte inside);
    })

-- the first byte of what is left is the one at the place
pub head_at : (bs : List ℕ) (p : ℕ) → get_or (drop p bs) 0 0 ≡ get_or bs p 0
head_at bs p = get_or-drop p bs 0 0 ∙ ap (λ q. get_or bs q 0) (add-zero p)

module _ (bs : List ℕ) (i p : ℕ) (r : Record) (l : Laid bs i p r) where
  head : get_or (drop p bs) 0 0 ≡ l.map
  head = head_at bs p ∙ l.byte

  number : r.number ≡ i
  number = ap (λ (x : Record). x.number) l.places

  clear : get_or (drop p bs) 0 0 < 64
  clear = omega (arith, head, l.low)

  gapless : Free NeedGap i (drop p bs)
  gapless = (r.count, ap (λ m. m / 4 % 16) head ∙ l.run)

  pub cut_short : length bs < r.end → First CutShort i (drop p bs)
  cut_short short = record {
    before = (l.within, (clear, (gapless, tt)));
    fails = λ (e, b).
        let kind = same_kind e (entry_at bs r) (sym (first_byte (drop p bs) e b.tail b.whole) ∙ head ∙ sym l.whole_map) in
        let room = ap length b.whole in
        omega (
          arith,
          length-drop p bs,
          length-append (entry_bytes e) b.tail,
          length_entry e,
          length_entry (entry_at bs r),
          l.end,
          l.start,
        );
  }

  module _ (inside : r.end ≤ length bs) where
    begins : Begins (drop p bs) (entry_at bs r)
    begins = record { fits = l.fits; tail = drop r.end bs; whole = l.stands inside }

    -- no other entry stands there
    only : (e : Entry) → Begins (drop p bs) e → e ≡ entry_at bs r
    only e b = (entry_same e (entry_at bs r) b.tail (drop r.end bs) b.fits l.fits (sym b.whole ∙ l.stands inside)).0

    pub amount_range : (InRange (entry_at bs r).earning × InRange (entry_at bs r).cost → ⊥) → First AmountRange i (drop p bs)
    amount_range bad = record {
      before = (l.within, (clear, (gapless, ((entry_at bs r, begins), tt))));
      fails = λ (e, b, earning, cost). let is = only e b in bad (subst (λ d. InRange d.earning) is earning, subst (λ d. InRange d.cost) is cost);
    }

    pub need_order : InRange (entry_at bs r).earning → InRange (entry_at bs r).cost → (Ordered r.number (entry_at bs r).needs → ⊥) → First NeedOrder i (drop p bs)
    need_order earning cost bad = record {
      before = (l.within, (clear, (gapless, ((entry_at bs r, begins), ((entry_at bs r, begins, earning, cost), tt)))));
      fails = λ (e, b, ordered). bad (subst (λ n. Ordered n (entry_at bs r).needs) (sym number) (subst (λ d. Ordered i d.needs) (only e b) ordered));
    }

    pub handed_out : InRange (entry_at bs r).earning → InRange (entry_at bs r).cost → Ordered r.number (entry_at bs r).needs → HandedOut bs (record { at = p; number = i }) (record { at = r.end; number = i + 1 }) r
    handed_out earning cost ordered = record {
      whole = l.stands inside;
      sound = record { within = l.within; fits = l.fits; earning = earning; cost = cost; ordered = subst (λ n. Ordered n (entry_at bs r).needs) number ordered };
      places = l.places;
      next = l.end;
      inside = inside;
      number = refl;
    }

-- the record that the need bits o lay at p, of those that a sound record has there
pub laid_sound : (bs : List ℕ) (i p : ℕ) (o : Option ℕ) (r : Record) → Bytes bs → p < length bs → Announces (get_or bs p 0 / 4 % 16) o → r ≡ laid i p (get_or bs p 0) (unwrap_or o 0) → SoundAhead bs (record { at = p; number = i }) → Laid bs i p r
laid_sound bs i p o r small start announced is a =
    let free = sound_free i (drop p bs) a.entry a.tail a.sound a.whole in
    let gapless = free NeedGap in
    let head = head_at bs p in
    let run = announces_run (get_or bs p 0 / 4 % 16) o announced (gapless.0, ap (λ m. m / 4 % 16) (sym head) ∙ gapless.1) in
    laid_is bs i p (get_or bs p 0) (unwrap_or o 0) r small start a.sound.within refl (omega (arith, head, free HighBits)) run.1 run.0 is

-- where a sound record stands, the record that its bit map laid is handed out
pub sound_out : (bs : List ℕ) (i p : ℕ) (r : Record) → Laid bs i p r → SoundAhead bs (record { at = p; number = i }) → HandedOut bs (record { at = p; number = i }) (record { at = r.end; number = i + 1 }) r
sound_out bs i p r l a =
    let free = sound_free i (drop p bs) a.entry a.tail a.sound a.whole in
    let inside : r.end ≤ length bs = ⊎_elim (λ (cut : length bs < r.end). absurd ((cut_short bs i p r l cut).fails (free CutShort))) (λ (h : r.end ≤ length bs). h) (cases_lt (length bs) r.end) in
    let is = only bs i p r l inside a.entry (record { fits = a.sound.fits; tail = a.tail; whole = a.whole }) in
    handed_out bs i p r l inside (subst (λ d. InRange d.earning) is a.sound.earning) (subst (λ d. InRange d.cost) is a.sound.cost)
    (subst (λ n. Ordered n (entry_at bs r).needs) (sym (number bs i p r l)) (subst (λ d. Ordered i d.needs) is a.sound.ordered))
