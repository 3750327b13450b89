-- A file that was read is laid out from its image.
use Rattle.std.proofs.Common.{◌≡◌, Bool, true, false, cond, nat_eq, ◌&&◌, ℕ, zero, suc, ◌+◌, ◌*◌, ◌≤◌, List, [], ◌∷◌, ◌++◌, length, take, drop, codes, Some, None, Ok, Err, Option, Result, IfOk, inl, inr, refl, sym, ap, ◌∙◌, subst, append_assoc, arith, ◌⊎◌}
use Rattle.std.specs.List.{AllByRecursion, flat_map, prefix_len, starts_with}
use Rattle.std.specs.Option.{option_map_or}
use Rattle.std.proofs.lemmas.Bool.Decides.{nat_tests}
use Rattle.std.proofs.lemmas.List.{take-append-drop}
use Rattle.netpbm.specs.declared.header.Form.{Form}
use Rattle.netpbm.specs.declared.header.Form.TheVariants.{Raw, Plain}
use Rattle.netpbm.specs.declared.refusal.ImageRefusal.{ImageRefusal}
use Rattle.netpbm.specs.Blanks.{is_space}
use Rattle.netpbm.specs.Numerals.{Numeral, digit_count, number_read}
use Rattle.netpbm.specs.Headers.{Header, form_of, raster_behind, header_read}
use Rattle.netpbm.specs.Images.{Image, and_then, numbers, values, greys_read, image_read}
use Rattle.netpbm.specs.Layouts.{Word, word_bytes, Tells, AllTell, Layout, file_bytes, IsImage, IsHeader, IsRawFile, IsPlainFile, IsFileOf}
use Rattle.netpbm.proofs.Heads.{Parts, parts_found, header_bounded}
use Rattle.netpbm.proofs.Samples.{low, count, greys_of-ok, length-values}
use Rattle.netpbm.proofs.Found.{number-found, number-found_to}
use Rattle.std.proofs.lemmas.Bool.{and_parts}

-- the two bytes of each form
begins : (a b : ℕ) (bs : List ℕ) → starts_with nat_eq bs (a ∷ b ∷ []) ≡ true → take 2 bs ≡ a ∷ b ∷ []
begins a b [] is = cc
begins a b (x ∷ []) is = let (first, none) = and_parts (nat_eq a x) false is in cc
begins a b (x ∷ y ∷ bs) is =
    let (first, more) = and_parts (nat_eq a x) (nat_eq b y && true) is in
    let (second, end) = and_parts (nat_eq b y) true more in
    let one : x ≡ a = grind (arith, nat_tests) in
    let two : y ≡ b = grind (arith, nat_tests) in
    ap (λ c. c ∷ y ∷ []) one ∙ ap (λ c. a ∷ c ∷ []) two

raw-form : (raw plain : Bool) → cond raw (Some Raw) (cond plain (Some Plain) None) ≡ Some Raw → raw ≡ true
raw-form true plain is = refl
raw-form false true is = cc
raw-form false false is = cc

plain-form : (raw plain : Bool) → cond raw (Some Raw) (cond plain (Some Plain) None) ≡ Some Plain → plain ≡ true
plain-form true plain is = cc
plain-form false true is = refl
plain-form false false is = cc

form-raw : (bs : List ℕ) → form_of bs ≡ Some Raw → take 2 bs ≡ codes "P5"
form-raw bs is = begins 80 53 bs (raw-form (starts_with nat_eq bs (codes "P5")) (starts_with nat_eq bs (codes "P2")) is)

form-plain : (bs : List ℕ) → form_of bs ≡ Some Plain → take 2 bs ≡ codes "P2"
form-plain bs is = begins 80 50 bs (plain-form (starts_with nat_eq bs (codes "P5")) (starts_with nat_eq bs (codes "P2")) is)

-- what stands behind the largest value of a raw file
raw-behind : (bs raster : List ℕ) → raster_behind Raw bs ≡ Some raster → (s : ℕ) × (is_space s ≡ true) × (bs ≡ s ∷ raster)
raw-behind [] raster is = cc
raw-behind (b ∷ bs) raster is = white (is_space b) refl is
  where
    white : (t : Bool) → is_space b ≡ t → cond t (Some bs) None ≡ Some raster → (s : ℕ) × (is_space s ≡ true) × (b ∷ bs ≡ s ∷ raster)
    white true here is = let same : bs ≡ raster = cc in (b, here, ap (λ xs. b ∷ xs) same)
    white false here is = cc

-- values that are not above m
low_all : (m : ℕ) (vs : List ℕ) → prefix_len (low m) vs ≡ length vs → AllByRecursion (λ v. v ≤ m) vs
low_all m [] clear = tt
low_all m (v ∷ vs) clear =
    let (here, more) = first (low m v) refl clear in
    (here, low_all m vs more)
  where
    first : (t : Bool) → low m v ≡ t → cond t (1 + prefix_len (low m) vs) 0 ≡ suc (length vs) → (v ≤ m) × (prefix_len (low m) vs ≡ length vs)
    first true is clear = (grind (arith, nat_tests), omega arith)
    first false is clear = absurd (omega arith)

-- the words of a plain raster that tells these values
record Words (bs vs : List ℕ) : Type 0 where
  words : List Word
  others : List ℕ
  told : AllTell words vs
  ended : digit_count others ≡ 0
  whole : bs ≡ flat_map word_bytes words ++ others

words-next : (n : ℕ) (bs : List ℕ) (o : Option Numeral) → number_read bs ≡ o → length (option_map_or (λ (m : Numeral). m.value ∷ numbers n m.rest) o []) ≡ suc n → ((m : Numeral) → length (numbers n m.rest) ≡ n → digit_count m.rest ≡ 0 → Words m.rest (numbers n m.rest)) → Words bs (option_map_or (λ (m : Numeral). m.value ∷ numbers n m.rest) o [])
words-next n bs None is all more = absurd (omega arith)
words-next n bs (Some m) is all more =
    let one = number-found bs m is in
    let others = more m (omega arith) one.ended in
    record {
      words = one.word ∷ others.words;
      others = others.others;
      told = (one.tells, others.told);
      ended = others.ended;
      whole = one.whole ∙ (ap (λ ys. word_bytes one.word ++ ys) others.whole ∙ sym (append_assoc (word_bytes one.word) (flat_map word_bytes others.words) others.others));
    }

words-found : (n : ℕ) (bs : List ℕ) → length (numbers n bs) ≡ n → digit_count bs ≡ 0 → Words bs (numbers n bs)
unfolding numbers
words-found zero bs all stop = record { words = []; others = bs; told = tt; ended = stop; whole = refl }
words-found (suc n) bs all stop = words-next n bs (number_read bs) refl all (λ m few end. words-found n m.rest few end)

-- the layout of a header that was read
record HeaderFound (bs : List ℕ) (h : Header) : Type 0 where
  layout : Layout
  whole : bs ≡ file_bytes layout
  form : layout.form ≡ take 2 bs
  width : Tells layout.width h.width
  height : Tells layout.height h.height
  largest : Tells layout.largest h.largest
  raster : raster_behind h.form layout.rest ≡ Some h.raster
  ended : digit_count layout.rest ≡ 0

header-found : (bs : List ℕ) (h : Header) → Parts bs h → HeaderFound bs h
header-found bs h p =
    let w = number-found_to 16384 (drop 2 bs) (record { value = h.width; rest = p.width_rest }) p.width in
    let v = number-found_to 16384 p.width_rest (record { value = h.height; rest = p.height_rest }) p.height in
    let m = number-found_to 255 p.height_rest (record { value = h.largest; rest = p.largest_rest }) p.largest in
    record {
      layout = record { form = take 2 bs; width = w.word; height = v.word; largest = m.word; rest = p.largest_rest };
      whole = sym (take-append-drop 2 bs) ∙ ap (λ ys. take 2 bs ++ ys) (w.whole ∙ ap (λ ys. word_bytes w.word ++ ys) (v.whole ∙ ap (λ ys. word_bytes v.word ++ ys) m.whole));
      form = refl;
      width = w.tells;
      height = v.tells;
      largest = m.tells;
      raster = p.raster;
      ended = m.ended;
    }

-- the file that it begins, in its form
abbrev told_image : Header → Image
told_image h = record { width = h.width; height = h.height; greys = values h.form (count h) h.raster }

header-of : (bs : List ℕ) (h : Header) (f : HeaderFound bs h) → IsImage h.largest (told_image h) → IsHeader f.layout h.largest (told_image h)
header-of bs h f image = record { image = image; width = f.width; height = f.height; largest = f.largest }

file-form : (form : Form) (bs : List ℕ) (w v m : ℕ) (raster : List ℕ) → (let h : Header = record { form = form; width = w; height = v; largest = m; raster = raster } in (f : HeaderFound bs h) → form_of bs ≡ Some form → IsImage m (told_image h) → IsRawFile f.layout m (told_image h) ⊎ IsPlainFile f.layout m (told_image h))
file-form Raw bs w v m raster f is image =
    let (space, white, behind) = raw-behind f.layout.rest raster f.raster in
    inl (record {
      header = header-of bs _ f image;
      form = f.form ∙ form-raw bs is;
      space = space;
      others = drop (w * v) raster;
      white = white;
      raster = behind ∙ ap (λ xs. space ∷ xs) (sym (take-append-drop (w * v) raster));
    })
file-form Plain bs w v m raster f is image =
    let same : f.layout.rest ≡ raster = cc (f.raster) in
    let all = words-found (w * v) raster image.within.whole (ap digit_count (sym same) ∙ f.ended) in
    inr (record {
      header = header-of bs _ f image;
      form = f.form ∙ form-plain bs is;
      words = all.words;
      others = all.others;
      told = all.told;
      ended = all.ended;
      raster = same ∙ all.whole;
    })

-- an image that was read
image-found : (bs : List ℕ) (h : Header) (gs : List ℕ) → header_read bs ≡ Ok h → greys_read h ≡ Ok gs → IsFileOf bs (record { width = h.width; height = h.height; greys = gs })
image-found bs h gs header greys =
    let p = parts_found bs h header in
    let b = header_bounded bs h header in
    let f = header-found bs h p in
    let all = greys_of-ok (count h) h.largest (values h.form (count h) h.raster) gs greys in
    let image : IsImage h.largest (told_image h) = record {
      within = record { some_columns = b.some_columns; few_columns = b.few_columns; some_rows = b.some_rows; few_rows = b.few_rows; whole = length-values h gs greys };
      some_largest = b.some_largest;
      few_largest = b.few_largest;
      values = low_all h.largest (values h.form (count h) h.raster) all.0;
    } in
    record {
      largest = h.largest;
      values = told_image h;
      file = record { layout = f.layout; whole = f.whole; form = file-form h.form bs h.width h.height h.largest h.raster f p.form image };
      image = ap (λ xs. record { width = h.width; height = h.height; greys = xs }) all.2;
    }

-- what came of a file
and_then-ok : {A B : Type 0} (r : Result A ImageRefusal) (f : A → Result B ImageRefusal) (b : B) → and_then r f ≡ Ok b → (a : A) × (r ≡ Ok a) × (f a ≡ Ok b)
and_then-ok (Ok a) f b is = (a, refl, is)
and_then-ok (Err x) f b is = cc

read-found : (bs : List ℕ) (j : Image) → image_read bs ≡ Ok j → IsFileOf bs j
read-found bs j is =
    let (h, header, rest) = and_then-ok (header_read bs) _ j is in
    let (gs, greys, end) = and_then-ok (greys_read h) _ j rest in
    let same : record { width = h.width; height = h.height; greys = gs } ≡ j = cc (end) in
    subst (IsFileOf bs) same (image-found bs h gs header greys)

-- so what is read is answered as promised
pub only-files : (bs : List ℕ) (r : Result Image ImageRefusal) → r ≡ image_read bs → IfOk r (λ j. IsFileOf bs j)
only-files bs (Ok j) is = read-found bs j (sym is)
only-files bs (Err x) is = tt
