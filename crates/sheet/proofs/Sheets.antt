-- Whole sheets: a sheet is read in one way only, so it has one answer.
use Rattle.std.proofs.Common.{◌≡◌, ℕ, suc, ◌+◌, ◌-◌, ◌/◌, ◌%◌, ◌^◌, ◌<◌, ◌≤◌, ◌⊎◌, List, [], ◌∷◌, ◌++◌, length, get_or, Ok, Err, Result, sym, refl, ap, ◌∙◌, subst, inl, inr, ⊎_elim, add-zero, zero-add, arith, pow_pos, pow_mono}
use Rattle.std.proofs.ByRecursion.{All-get_or}
use Rattle.std.proofs.lemmas.List.{append_assoc, append-nil, length-append, get_or-take, length-take}
use Rattle.std.proofs.lemmas.Bool.{cases_order}
use Rattle.std.specs.List.{AllByRecursion}
use Rattle.sheet.specs.declared.Counts.{Counts}
use Rattle.sheet.specs.declared.refusal.Fault.{Fault}
use Rattle.sheet.specs.declared.refusal.Fault.TheVariants.{TooMany, HighBits, NeedGap, CutShort, AmountRange, NeedOrder}
use Rattle.sheet.specs.declared.refusal.SheetRefusal.{SheetRefusal}
use Rattle.sheet.specs.declared.refusal.SheetRefusal.TheVariants.{Empty, Faulty, Missing}
use Rattle.sheet.specs.Format.{Entry, bit_map, entry_bytes, sheet_bytes}
use Rattle.sheet.specs.Sound.{Fits, Sound, Numbered, There, counts}
use Rattle.sheet.specs.Refusals.{question, questions, asked_before}
use Rattle.sheet.specs.Answers.{Begins, Free, First, FaultyAt, MissingAt, SoundSheet, SheetOf, Answers}
use Rattle.sheet.proofs.Entries.{flag_small, entry_same}

-- the map of an entry that fits has no other bits than its fields'
map_shape : (e : Entry) → Fits e → (bit_map e < 64) × (bit_map e / 4 % 16 ≡ 2 ^ length e.needs - 1)
map_shape e fits =
    let a = flag_small e.earning in
    let b = flag_small e.cost in
    let p = pow_pos (length e.needs) in
    let q = pow_mono fits.few in
    (omega arith, omega arith)

pub first_byte : (bs : List ℕ) (e : Entry) (t : List ℕ) → bs ≡ entry_bytes e ++ t → get_or bs 0 0 ≡ bit_map e
unfolding entry_bytes
first_byte bs e t whole = ap (λ l. get_or l 0 0) whole

-- a sound record passes every question
pub sound_free : (i : ℕ) (bs : List ℕ) (e : Entry) (t : List ℕ) → Sound i e → bs ≡ entry_bytes e ++ t → (f : Fault) → Free f i bs
sound_free i bs e t sound whole = go
  where
    begins : Begins bs e
    begins = record { fits = sound.fits; tail = t; whole = whole }

    head : get_or bs 0 0 ≡ bit_map e
    head = first_byte bs e t whole

    go : (f : Fault) → Free f i bs
    go TooMany = sound.within
    go HighBits = omega (arith, head, (map_shape e sound.fits).0)
    go NeedGap = (length e.needs, ap (λ m. m / 4 % 16) head ∙ (map_shape e sound.fits).1)
    go CutShort = (e, begins)
    go AmountRange = (e, begins, sound.earning, sound.cost)
    go NeedOrder = (e, begins, sound.ordered)

-- the question that finds a fault stands at its place in the list
at_its_place : (f : Fault) → get_or questions (question f - 12) TooMany ≡ f
at_its_place TooMany = refl
at_its_place HighBits = refl
at_its_place NeedGap = refl
at_its_place CutShort = refl
at_its_place AmountRange = refl
at_its_place NeedOrder = refl

question_range : (f : Fault) → (12 ≤ question f) × (question f ≤ 17)
question_range TooMany = omega arith
question_range HighBits = omega arith
question_range NeedGap = omega arith
question_range CutShort = omega arith
question_range AmountRange = omega arith
question_range NeedOrder = omega arith

-- a question with a smaller number was asked before, and answered yes
asked : (f g : Fault) (i : ℕ) (bs : List ℕ) → question f < question g → First g i bs → Free f i bs
asked f g i bs less first =
    let long = length-take (question g - 12) questions in
    let high = (question_range g).1 in
    let low = (question_range f).0 in
    let inside : question f - 12 < length (asked_before g) = omega arith in
    subst (λ h. Free h i bs) (get_or-take (question g - 12) questions (question f - 12) TooMany (omega arith) ∙ at_its_place f)
    (All-get_or (λ h. Free h i bs) (asked_before g) (question f - 12) TooMany inside first.before)

pub first_same : (f g : Fault) (i : ℕ) (bs : List ℕ) → First f i bs → First g i bs → f ≡ g
first_same f g i bs x y =
    ⊎_elim (λ same. sym (at_its_place f) ∙ ap (λ n. get_or questions (n - 12) TooMany) same ∙ at_its_place g)
    (⊎_elim (λ (l : question f < question g). absurd (x.fails (asked f g i bs l y))) (λ (l : question g < question f). absurd (y.fails (asked g f i bs l x))))
    (cases_order (question f) (question g))

-- the bytes from record number i on end here, or the record that begins them has a fault
Stops : ℕ → List ℕ → Type 0
Stops i bs = (bs ≡ []) ⊎ ((f : Fault) × First f i bs)

-- an entry's record is not nothing
pub not_nothing : (e : Entry) (t : List ℕ) → entry_bytes e ++ t ≡ [] → ⊥
unfolding entry_bytes
not_nothing e t same = let z : ◌≡◌ {A = ℕ} 0 1 = cc in omega arith

-- a sound record does not stop there
goes_on : (i : ℕ) (bs : List ℕ) (e : Entry) (t : List ℕ) → Sound i e → bs ≡ entry_bytes e ++ t → Stops i bs → ⊥
unfolding Stops
goes_on i bs e t sound whole (inl none) = not_nothing e t (sym whole ∙ none)
goes_on i bs e t sound whole (inr (f, first)) = first.fails (sound_free i bs e t sound whole f)

sheet_more : (e : Entry) (es : List Entry) (t : List ℕ) → sheet_bytes (e ∷ es) ++ t ≡ entry_bytes e ++ (sheet_bytes es ++ t)
unfolding sheet_bytes
sheet_more e es t = append_assoc (entry_bytes e) (sheet_bytes es) t

sheet_none : (t : List ℕ) → sheet_bytes [] ++ t ≡ t
unfolding sheet_bytes
sheet_none t = refl

-- sound records up to where they stop are read in one way
same_records : (i : ℕ) (ds es : List Entry) (s t : List ℕ) → Numbered Sound i ds → Numbered Sound i es → Stops (i + length ds) s → Stops (i + length es) t → sheet_bytes ds ++ s ≡ sheet_bytes es ++ t → (ds ≡ es) × (s ≡ t)
same_records i [] [] s t a b u v same = (refl, sym (sheet_none s) ∙ same ∙ sheet_none t)
same_records i [] (e ∷ es) s t a b u v same = absurd (goes_on i s e (sheet_bytes es ++ t) b.0 (sym (sheet_none s) ∙ same ∙ sheet_more e es t) (subst (λ n. Stops n s) (add-zero i) u))
same_records i (d ∷ ds) [] s t a b u v same = absurd (goes_on i t d (sheet_bytes ds ++ s) a.0 (sym (sheet_none t) ∙ sym same ∙ sheet_more d ds s) (subst (λ n. Stops n t) (add-zero i) v))
same_records i (d ∷ ds) (e ∷ es) s t a b u v same =
    let (first, rest) = entry_same d e (sheet_bytes ds ++ s) (sheet_bytes es ++ t) a.0.fits b.0.fits (sym (sheet_more d ds s) ∙ same ∙ sheet_more e es t) in
    let (more, tail) = same_records (suc i) ds es s t a.1 b.1 (subst (λ n. Stops n s) (shift i (length ds)) u) (subst (λ n. Stops n t) (shift i (length es)) v) rest in
    (cc, tail)
  where
    shift : (i n : ℕ) → i + suc n ≡ suc i + n
    shift i n = omega arith

-- how far the records of a sheet are sound, and what is left
record Parsed (bs : List ℕ) (es : List Entry) (rest : List ℕ) : Type 0 where
  whole : bs ≡ sheet_bytes es ++ rest
  sound : Numbered Sound 0 es
  stops : Stops (length es) rest

parsed_same : (bs : List ℕ) (ds es : List Entry) (s t : List ℕ) → Parsed bs ds s → Parsed bs es t → (ds ≡ es) × (s ≡ t)
parsed_same bs ds es s t p q =
    same_records 0 ds es s t p.sound q.sound
    (subst (λ n. Stops n s) (sym (zero-add (length ds))) p.stops)
    (subst (λ n. Stops n t) (sym (zero-add (length es))) q.stops)
    (sym p.whole ∙ q.whole)

all_sound : (bs : List ℕ) (es : List Entry) → bs ≡ sheet_bytes es → Numbered Sound 0 es → Parsed bs es []
unfolding Stops
all_sound bs es whole sound = record { whole = whole ∙ sym (append-nil (sheet_bytes es)); sound = sound; stops = inl refl }

faulty : (bs : List ℕ) (f : Fault) (i p : ℕ) (x : FaultyAt bs f i p) → Parsed bs x.before x.rest
unfolding Stops
faulty bs f i p x = record { whole = x.whole; sound = x.sound; stops = inr (f, subst (λ n. First f n x.rest) x.number x.first) }

empty : (bs : List ℕ) → bs ≡ [] → Parsed bs [] []
unfolding sheet_bytes
empty bs none = all_sound bs [] none tt

well : (bs : List ℕ) (es : List Entry) → SheetOf bs es → Parsed bs es []
well bs es x = all_sound bs es x.whole x.well.sound

missing : (bs : List ℕ) (i p : ℕ) (x : MissingAt bs i p) → Parsed bs (x.before ++ x.entry ∷ x.after) []
missing bs i p x = all_sound bs (x.before ++ x.entry ∷ x.after) x.sheet.whole x.sheet.sound

-- a sheet stands for at most one well-formed list
pub one_list : (bs : List ℕ) (ds es : List Entry) → SheetOf bs ds → SheetOf bs es → ds ≡ es
one_list bs ds es x y = (parsed_same bs ds es [] [] (well bs ds x) (well bs es y)).0

all_middle : (P : Entry → Type 0) (ds : List Entry) (e : Entry) (es : List Entry) → AllByRecursion P (ds ++ e ∷ es) → P e
all_middle P [] e es all = all.0
all_middle P (d ∷ ds) e es all = all_middle P ds e es all.1

length_middle : (ds : List Entry) (e : Entry) (es : List Entry) → 0 < length (ds ++ e ∷ es)
length_middle ds e es = omega (arith, length-append ds (e ∷ es))

-- the first element without P is at one place
first_without : (P : Entry → Type 0) (xs ys : List Entry) (d e : Entry) (cs ds : List Entry) → AllByRecursion P xs → AllByRecursion P ys → (P d → ⊥) → (P e → ⊥) → xs ++ d ∷ cs ≡ ys ++ e ∷ ds → xs ≡ ys
first_without P [] [] d e cs ds a b x y same = refl
first_without P [] (k ∷ ys) d e cs ds a b x y same = let head : d ≡ k = cc in absurd (x (subst P (sym head) b.0))
first_without P (k ∷ xs) [] d e cs ds a b x y same = let head : k ≡ e = cc in absurd (y (subst P head a.0))
first_without P (j ∷ xs) (k ∷ ys) d e cs ds a b x y same =
    let head : j ≡ k = cc in
    let tail : xs ++ d ∷ cs ≡ ys ++ e ∷ ds = cc in
    let more = first_without P xs ys d e cs ds a.1 b.1 x y tail in
    cc

-- a sheet of sound records has none with a fault
no_fault : (bs : List ℕ) (es : List Entry) (f : Fault) (i p : ℕ) → Parsed bs es [] → FaultyAt bs f i p → ⊥
no_fault bs es f i p all x =
    let none = (parsed_same bs es x.before [] x.rest all (faulty bs f i p x)).1 in
    omega (arith, ap length none, x.more)

none_missing : (bs : List ℕ) (es : List Entry) (i p : ℕ) → SheetOf bs es → MissingAt bs i p → ⊥
none_missing bs es i p x y =
    let same = (parsed_same bs es (y.before ++ y.entry ∷ y.after) [] [] (well bs es x) (missing bs i p y)).0 in
    y.missing (all_middle (There (length (y.before ++ y.entry ∷ y.after))) y.before y.entry y.after (subst (λ l. AllByRecursion (There (length l)) l) same x.well.there))

not_empty : (bs : List ℕ) (es : List Entry) → Parsed bs es [] → 0 < length es → bs ≡ [] → ⊥
not_empty bs es x some none =
    let same = (parsed_same bs es [] [] [] x (empty bs none)).0 in
    omega (arith, ap length same)

missing_some : (bs : List ℕ) (i p : ℕ) (x : MissingAt bs i p) → 0 < length (x.before ++ x.entry ∷ x.after)
missing_some bs i p x = length_middle x.before x.entry x.after

same_fault : (bs : List ℕ) (f g : Fault) (i j p q : ℕ) → FaultyAt bs f i p → FaultyAt bs g j q → Faulty f i p ≡ Faulty g j q
same_fault bs f g i j p q x y =
    let (records, rest) = parsed_same bs x.before y.before x.rest y.rest (faulty bs f i p x) (faulty bs g j q y) in
    let number : i ≡ j = x.number ∙ ap length records ∙ sym y.number in
    let place : p ≡ q = x.place ∙ ap (λ l. length (sheet_bytes l)) records ∙ sym y.place in
    let first = subst (λ l. First g j l) (sym rest) y.first in
    let fault = first_same f g i x.rest x.first (subst (λ n. First g n x.rest) (sym number) first) in
    cc

same_missing : (bs : List ℕ) (i j p q : ℕ) → MissingAt bs i p → MissingAt bs j q → Missing i p ≡ Missing j q
same_missing bs i j p q x y =
    let all = (parsed_same bs (x.before ++ x.entry ∷ x.after) (y.before ++ y.entry ∷ y.after) [] [] (missing bs i p x) (missing bs j q y)).0 in
    let n = length (x.before ++ x.entry ∷ x.after) in
    let long = ap length all in
    let before = first_without (There n) x.before y.before x.entry y.entry x.after y.after x.there (subst (λ m. AllByRecursion (There m) y.before) (sym long) y.there) x.missing (subst (λ m. There m y.entry → ⊥) (sym long) y.missing) all in
    let number : i ≡ j = x.number ∙ ap length before ∙ sym y.number in
    let place : p ≡ q = x.place ∙ ap (λ l. length (sheet_bytes l)) before ∙ sym y.place in
    cc

-- a sheet has one answer
pub one_answer : (bs : List ℕ) (r s : Result Counts SheetRefusal) → Answers bs r → Answers bs s → r ≡ s
one_answer bs (Ok c) (Ok d) (es, x, c-is) (fs, y, d-is) = ap Ok (c-is ∙ ap counts (one_list bs es fs x y) ∙ sym d-is)
one_answer bs (Ok c) (Err Empty) (es, x, c-is) y = absurd (not_empty bs es (well bs es x) x.well.some y)
one_answer bs (Ok c) (Err (Faulty f i p)) (es, x, c-is) y = absurd (no_fault bs es f i p (well bs es x) y)
one_answer bs (Ok c) (Err (Missing i p)) (es, x, c-is) y = absurd (none_missing bs es i p x y)
one_answer bs (Err Empty) (Ok c) x (es, y, c-is) = absurd (not_empty bs es (well bs es y) y.well.some x)
one_answer bs (Err Empty) (Err Empty) x y = refl
one_answer bs (Err Empty) (Err (Faulty f i p)) x y = absurd (no_fault bs [] f i p (empty bs x) y)
one_answer bs (Err Empty) (Err (Missing i p)) x y = absurd (not_empty bs _ (missing bs i p y) (missing_some bs i p y) x)
one_answer bs (Err (Faulty f i p)) (Ok c) x (es, y, c-is) = absurd (no_fault bs es f i p (well bs es y) x)
one_answer bs (Err (Faulty f i p)) (Err Empty) x y = absurd (no_fault bs [] f i p (empty bs y) x)
one_answer bs (Err (Faulty f i p)) (Err (Faulty g j q)) x y = ap Err (same_fault bs f g i j p q x y)
one_answer bs (Err (Faulty f i p)) (Err (Missing j q)) x y = absurd (no_fault bs _ f i p (missing bs j q y) x)
one_answer bs (Err (Missing i p)) (Ok c) x (es, y, c-is) = absurd (none_missing bs es i p y x)
one_answer bs (Err (Missing i p)) (Err Empty) x y = absurd (not_empty bs _ (missing bs i p x) (missing_some bs i p x) y)
one_answer bs (Err (Missing i p)) (Err (Faulty g j q)) x y = absurd (no_fault bs _ g j q (missing bs i p x) y)
one_answer bs (Err (Missing i p)) (Err (Missing j q)) x y = ap Err (same_missing bs i j p q x y)

-- sound records are read in one way
pub sound_same : (bs : List ℕ) (ds es : List Entry) → SoundSheet bs ds → SoundSheet bs es → ds ≡ es
sound_same bs ds es x y = (parsed_same bs ds es [] [] (all_sound bs ds x.whole x.sound) (all_sound bs es y.whole y.sound)).0

pub some_entries : (bs : List ℕ) (es : List Entry) → (bs ≡ [] → ⊥) → bs ≡ sheet_bytes es → 0 < length es
unfolding sheet_bytes
some_entries bs [] some whole = absurd (some whole)
some_entries bs (e ∷ es) some whole = omega arith

-- a sheet that passed both rounds of questions is accepted
pub accepted : (bs : List ℕ) (c : Counts) → (bs ≡ [] → ⊥) → (es : List Entry) × SoundSheet bs es × (c ≡ counts es) → (es : List Entry) × SoundSheet bs es × AllByRecursion (There c.entries) es → Answers bs (Ok c)
accepted bs c some (ds, x, is) (es, y, there) =
    let same = sound_same bs ds es x y in
    let number = ap (λ (n : Counts). n.entries) is ∙ ap length same in (
      es,
      record {
        well = record { some = some_entries bs es some y.whole; sound = y.sound; there = subst (λ n. AllByRecursion (There n) es) number there };
        whole = y.whole;
      },
      is ∙ ap counts same,
    )
