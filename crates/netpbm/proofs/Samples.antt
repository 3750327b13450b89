-- The greys of a raster, pixel by pixel.
use Rattle.std.proofs.Common.{◌≡◌, Bool, true, false, not, ℕ, zero, suc, ◌+◌, ◌-◌, ◌*◌, ◌/◌, ◌<◌, ◌≤◌, nat_lt, List, [], ◌∷◌, ◌++◌, map, length, Some, None, Ok, Err, Option, refl, sym, ap, ◌∙◌, arith, append_assoc, append-nil, ◌^◌, min, cond}
use Rattle.std.specs.List.{prefix_len}
use Rattle.std.specs.Option.{option_map_or, option_map}
use Rattle.std.proofs.lemmas.Bool.Decides.{nat_tests}
use Rattle.std.proofs.lemmas.List.{length-append, map-append, length_push, length-take, length-map}
use Rattle.std.proofs.lemmas.List.Folds.{prefix_len-append}
use Rattle.netpbm.specs.declared.header.Form.{Form}
use Rattle.netpbm.specs.declared.header.Form.TheVariants.{Raw, Plain}
use Rattle.netpbm.specs.declared.refusal.ImageRefusal.TheVariants.{NoGrey, AboveLargest}
use Rattle.netpbm.specs.Numerals.{Numeral, number_read}
use Rattle.netpbm.specs.Headers.{Header}
use Rattle.netpbm.specs.Images.{numbers, values, greys_of, greys_read}
use Rattle.netpbm.specs.Passes.{sample, capped}
use Rattle.std.proofs.lemmas.List.Sums.{prefix_len-le-length}

-- the values of a raster are its first one, and those of what stands behind it
pub values_sample : (form : Form) (n : ℕ) (bs : List ℕ) → values form (suc n) bs ≡ option_map_or (λ m. m.value ∷ values form n m.rest) (sample form bs) []
unfolding numbers
values_sample Plain n bs = refl
values_sample Raw n [] = refl
values_sample Raw n (b ∷ bs) = refl

values_zero : (form : Form) (bs : List ℕ) → values form 0 bs ≡ []
unfolding numbers
values_zero Plain bs = refl
values_zero Raw bs = refl

-- a value is not above m
abbrev pub low : ℕ → ℕ → Bool
low m v = not (nat_lt m v)

-- a value as a grey, where m stands for white
abbrev pub scaled : ℕ → ℕ → ℕ
scaled m v = v * 255 / m

-- the first value above m, where those before it are not
above-clear : (m : ℕ) (before vs : List ℕ) → prefix_len (low m) before ≡ length before → prefix_len (low m) (before ++ vs) ≡ length before + prefix_len (low m) vs
above-clear m before vs clear = grind (arith, nat_tests, prefix_len-append (low m) before vs)

-- values that are not above m, and then one that is
greys-above : (n m : ℕ) (before more : List ℕ) (v : ℕ) → prefix_len (low m) before ≡ length before → m < v → greys_of n m (before ++ (v ∷ more)) ≡ Err (AboveLargest (length before))
greys-above n m before more v clear large =
    let first : prefix_len (low m) (v ∷ more) ≡ 0 = grind (arith, nat_tests) in
    let place : prefix_len (low m) (before ++ (v ∷ more)) ≡ length before = omega (arith, above-clear m before (v ∷ more) clear) in
    let size = length-append before (v ∷ more) in
    let test : nat_lt (length before) (length (before ++ (v ∷ more))) ≡ true = grind (arith, nat_tests) in
    rw (place, test) refl

-- and then none
greys-missing : (n m : ℕ) (before : List ℕ) → prefix_len (low m) before ≡ length before → length before < n → greys_of n m before ≡ Err (NoGrey (length before))
greys-missing n m before clear few =
    let test : nat_lt (length before) (length before) ≡ false = grind (arith, nat_tests) in
    let fewer : nat_lt (length before) n ≡ true = grind (arith, nat_tests) in
    rw (clear, test, fewer) refl

-- values of all pixels
pub greys-whole : (n m : ℕ) (before : List ℕ) → prefix_len (low m) before ≡ length before → length before ≡ n → greys_of n m before ≡ Ok (map (scaled m) before)
greys-whole n m before clear whole =
    let test : nat_lt (length before) (length before) ≡ false = grind (arith, nat_tests) in
    let all : nat_lt (length before) n ≡ false = grind (arith, nat_tests) in
    rw (clear, test, all) refl

-- how many pixels a header tells
abbrev pub count : Header → ℕ
count h = h.width * h.height

-- the first k values are read, none of which is too large, and the others begin at rest
pub record GreysRead (h : Header) (k : ℕ) (rest gs : List ℕ) : Type 0 where
  pub before : List ℕ
  pub whole : values h.form (count h) h.raster ≡ before ++ values h.form (count h - k) rest
  pub size : length before ≡ k
  pub clear : prefix_len (low h.largest) before ≡ length before
  pub greys : gs ≡ map (scaled h.largest) before

-- the values from pixel k on
ahead : (h : Header) (k : ℕ) (rest : List ℕ) (o : Option Numeral) → k < count h → sample h.form rest ≡ o → values h.form (count h - k) rest ≡ option_map_or (λ m. m.value ∷ values h.form (count h - (k + 1)) m.rest) o []
ahead h k rest o inside is =
    let one : count h - k ≡ suc (count h - (k + 1)) = omega arith in
    ap (λ n. values h.form n rest) one ∙ (values_sample h.form (count h - (k + 1)) rest ∙ ap (λ p. option_map_or (λ (m : Numeral). m.value ∷ values h.form (count h - (k + 1)) m.rest) p []) is)

-- what the code holds of a sample: it is there, and where it is small, it is the sample itself
held-some : (o : Option Numeral) (m : Numeral) → option_map capped o ≡ Some m → (s : Numeral) × (o ≡ Some s) × (capped s ≡ m)
held-some (Some s) m is = (s, refl, cc)
held-some None m is = cc

held-none : (o : Option Numeral) → option_map capped o ≡ None → o ≡ None
held-none (Some s) is = cc
held-none None is = refl

held-small : (s m : Numeral) → capped s ≡ m → m.value ≤ 255 → s ≡ m
held-small s m is small =
    let value : s.value ≡ min s.value (2 ^ 64 - 1) = omega (arith, ap (λ (n : Numeral). n.value) is) in
    ap (λ v. record { value = v; rest = s.rest }) value ∙ is

-- one more
pub greys_more : (h : Header) (k : ℕ) (rest gs after : List ℕ) (s : Numeral) → GreysRead h k rest gs → k < count h → option_map capped (sample h.form rest) ≡ Some s → s.value ≤ h.largest → h.largest ≤ 255 → after ≡ gs ++ (scaled h.largest s.value ∷ []) → GreysRead h (k + 1) s.rest after
greys_more h k rest gs after s read inside held few bound pushed =
    let (t, there, same) = held-some (sample h.form rest) s held in
    let is : sample h.form rest ≡ Some s = there ∙ ap Some (held-small t s same (omega arith)) in
    let one : prefix_len (low h.largest) (s.value ∷ []) ≡ 1 = grind (arith, nat_tests) in
    let size : length (read.before ++ (s.value ∷ [])) ≡ length read.before + 1 = length_push read.before s.value in record {
      before = read.before ++ (s.value ∷ []);
      whole = read.whole ∙ (ap (λ vs. read.before ++ vs) (ahead h k rest (Some s) inside is) ∙ sym (append_assoc read.before (s.value ∷ []) (values h.form (count h - (k + 1)) s.rest)));
      size = omega (arith, read.size);
      clear = omega (arith, above-clear h.largest read.before (s.value ∷ []) read.clear);
      greys = pushed ∙ (ap (λ xs. xs ++ (scaled h.largest s.value ∷ [])) read.greys ∙ sym (map-append (scaled h.largest) read.before (s.value ∷ [])));
    }

-- none more
pub greys_missing : (h : Header) (k : ℕ) (rest gs : List ℕ) → GreysRead h k rest gs → k < count h → option_map capped (sample h.form rest) ≡ None → greys_read h ≡ Err (NoGrey k)
greys_missing h k rest gs read inside held =
    let is = held-none (sample h.form rest) held in
    let all : values h.form (count h) h.raster ≡ read.before = read.whole ∙ (ap (λ vs. read.before ++ vs) (ahead h k rest None inside is) ∙ append-nil read.before) in
    ap (greys_of (count h) h.largest) all ∙ (greys-missing (count h) h.largest read.before read.clear (omega (arith, read.size)) ∙ ap (λ n. Err (NoGrey n)) read.size)

-- one that is too large
pub greys_above : (h : Header) (k : ℕ) (rest gs : List ℕ) (s : Numeral) → GreysRead h k rest gs → k < count h → option_map capped (sample h.form rest) ≡ Some s → h.largest < s.value → greys_read h ≡ Err (AboveLargest k)
greys_above h k rest gs s read inside held large =
    let (t, is, same) = held-some (sample h.form rest) s held in
    let larger : h.largest < t.value = omega (arith, ap (λ (n : Numeral). n.value) same) in
    let all = read.whole ∙ ap (λ vs. read.before ++ vs) (ahead h k rest (Some t) inside is) in
    ap (greys_of (count h) h.largest) all ∙ (greys-above (count h) h.largest read.before _ t.value read.clear larger ∙ ap (λ n. Err (AboveLargest n)) read.size)

-- and all
pub greys_ends : (h : Header) (k : ℕ) (rest gs : List ℕ) → GreysRead h k rest gs → k ≡ count h → greys_read h ≡ Ok gs
greys_ends h k rest gs read done =
    let none : count h - k ≡ 0 = omega arith in
    let all : values h.form (count h) h.raster ≡ read.before = read.whole ∙ (ap (λ vs. read.before ++ vs) (ap (λ n. values h.form n rest) none ∙ values_zero h.form rest) ∙ append-nil read.before) in
    ap (greys_of (count h) h.largest) all ∙ (greys-whole (count h) h.largest read.before read.clear (read.size ∙ done) ∙ ap Ok (sym read.greys))

-- a raster gives no more values than pixels
one_more : (n : ℕ) (o : Option Numeral) → ((m : Numeral) → length (numbers n m.rest) ≤ n) → length (option_map_or (λ (m : Numeral). m.value ∷ numbers n m.rest) o []) ≤ suc n
one_more n None few = omega arith
one_more n (Some m) few = omega (arith, few m)

length-numbers-le : (n : ℕ) (bs : List ℕ) → length (numbers n bs) ≤ n
unfolding numbers
length-numbers-le zero bs = omega arith
length-numbers-le (suc n) bs = one_more n (number_read bs) (λ m. length-numbers-le n m.rest)

length-values-le : (form : Form) (n : ℕ) (bs : List ℕ) → length (values form n bs) ≤ n
length-values-le Plain n bs = length-numbers-le n bs
length-values-le Raw n bs = omega (arith, length-take n bs)

-- where greys came, there is a value for each pixel, none above m
pub greys_of-ok : (n m : ℕ) (vs gs : List ℕ) → greys_of n m vs ≡ Ok gs → (prefix_len (low m) vs ≡ length vs) × (n ≤ length vs) × (gs ≡ map (scaled m) vs)
greys_of-ok n m vs gs is = tests (nat_lt (prefix_len (low m) vs) (length vs)) (nat_lt (length vs) n) refl refl is
  where
    tests : (above fewer : Bool) → nat_lt (prefix_len (low m) vs) (length vs) ≡ above → nat_lt (length vs) n ≡ fewer → cond above (Err (AboveLargest (prefix_len (low m) vs))) (cond fewer (Err (NoGrey (length vs))) (Ok (map (scaled m) vs))) ≡ Ok gs → (prefix_len (low m) vs ≡ length vs) × (n ≤ length vs) × (gs ≡ map (scaled m) vs)
    tests true fewer none enough is = cc
    tests false true none enough is = cc
    tests false false none enough is =
        let few = prefix_len-le-length (low m) vs in
        (grind (arith, nat_tests), grind (arith, nat_tests), cc)

pub length-values : (h : Header) (gs : List ℕ) → greys_read h ≡ Ok gs → length (values h.form (count h) h.raster) ≡ count h
length-values h gs is =
    let all = greys_of-ok (count h) h.largest (values h.form (count h) h.raster) gs is in
    omega (arith, all.1, length-values-le h.form (count h) h.raster)

-- and so a grey for each
pub length-greys : (h : Header) (gs : List ℕ) → greys_read h ≡ Ok gs → length gs ≡ count h
length-greys h gs is =
    let all = greys_of-ok (count h) h.largest (values h.form (count h) h.raster) gs is in
    ap length all.2 ∙ (length-map (values h.form (count h) h.raster) (scaled h.largest) ∙ length-values h gs is)
