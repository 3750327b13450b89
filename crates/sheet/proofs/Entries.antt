-- One record: its length follows from its bit map, and it stands for one entry.
use Rattle.std.proofs.Common.{◌≡◌, ℕ, ◌+◌, ◌*◌, ◌^◌, ◌<◌, ◌≤◌, List, [], ◌∷◌, ◌++◌, length, get_or, drop, Some, None, Option, sym, refl, ap, ◌∙◌, ⊎_elim, arith, pow_pos}
use lib.Pow.{pow-lt}
use Rattle.std.proofs.lemmas.List.{append_assoc, length-append}
use Rattle.std.proofs.lemmas.Bool.{cases_order}
use Rattle.std.specs.List.{AllByRecursion}
use Rattle.sheet.specs.Format.{Entry, bytes, amount_bytes, need_bytes, flag, bit_map, entry_bytes}
use Rattle.sheet.specs.Sound.{Under, Fits}
use Rattle.sheet.proofs.Numbers.{length_bytes, split_same, bytes_same}

pub flag_small : (o : Option ℕ) → flag o ≤ 1
flag_small None = omega arith
flag_small (Some x) = omega arith

-- as many needs as the map has need bits
pub same_power : (j k : ℕ) → 2 ^ j ≡ 2 ^ k → j ≡ k
same_power j k same =
    ⊎_elim (λ e. e)
    (⊎_elim (λ (l : j < k). let p = pow-lt l in absurd (omega arith)) (λ (l : k < j). let p = pow-lt l in absurd (omega arith)))
    (cases_order j k)

-- what the bit map says of its entry
pub record SameKind (d e : Entry) : Type 0 where
  pub earning : flag d.earning ≡ flag e.earning
  pub cost : flag d.cost ≡ flag e.cost
  pub needs : length d.needs ≡ length e.needs

pub same_kind : (d e : Entry) → bit_map d ≡ bit_map e → SameKind d e
same_kind d e same =
    let a = flag_small d.earning in
    let b = flag_small d.cost in
    let a' = flag_small e.earning in
    let b' = flag_small e.cost in
    let p = pow_pos (length d.needs) in
    let q = pow_pos (length e.needs) in
    record {
      earning = omega arith;
      cost = omega arith;
      needs = same_power (length d.needs) (length e.needs) (omega arith);
    }

pub length_amount : (o : Option ℕ) → length (amount_bytes o) ≡ 4 * flag o
length_amount None = refl
length_amount (Some x) = length_bytes 4 x

pub length_needs : (ns : List ℕ) → length (need_bytes ns) ≡ 2 * length ns
length_needs [] = refl
length_needs (x ∷ ns) = omega (arith, length-append (bytes 2 x) (need_bytes ns), length_bytes 2 x, length_needs ns)

-- how long an entry's record is
pub length_entry : (e : Entry) → length (entry_bytes e) ≡ 1 + 4 * flag e.earning + 4 * flag e.cost + 2 * length e.needs
unfolding entry_bytes
length_entry e =
    omega (
      arith,
      length-append (amount_bytes e.earning) (amount_bytes e.cost ++ need_bytes e.needs),
      length-append (amount_bytes e.cost) (need_bytes e.needs),
      length_amount e.earning,
      length_amount e.cost,
      length_needs e.needs,
    )

-- a field that is there in both, or in neither, holds the same amount
amount_same : (o p : Option ℕ) (s t : List ℕ) → flag o ≡ flag p → Under (2 ^ 32) o → Under (2 ^ 32) p → amount_bytes o ++ s ≡ amount_bytes p ++ t → (o ≡ p) × (s ≡ t)
amount_same None None s t k a b same = (refl, same)
amount_same None (Some y) s t k a b same = absurd (omega arith)
amount_same (Some x) None s t k a b same = absurd (omega arith)
amount_same (Some x) (Some y) s t k a b same =
    let (field, rest) = split_same (bytes 4 x) (bytes 4 y) s t (length_bytes 4 x ∙ sym (length_bytes 4 y)) same in
    (ap Some (bytes_same 4 x y a b field), rest)

needs_same : (ms ns : List ℕ) (s t : List ℕ) → length ms ≡ length ns → AllByRecursion (λ j. j < 2 ^ 16) ms → AllByRecursion (λ j. j < 2 ^ 16) ns → need_bytes ms ++ s ≡ need_bytes ns ++ t → (ms ≡ ns) × (s ≡ t)
needs_same [] [] s t k a b same = (refl, same)
needs_same [] (y ∷ ns) s t k a b same = absurd (omega arith)
needs_same (x ∷ ms) [] s t k a b same = absurd (omega arith)
needs_same (x ∷ ms) (y ∷ ns) s t k a b same =
    let apart = sym (append_assoc (bytes 2 x) (need_bytes ms) s) ∙ same ∙ append_assoc (bytes 2 y) (need_bytes ns) t in
    let (field, rest) = split_same (bytes 2 x) (bytes 2 y) (need_bytes ms ++ s) (need_bytes ns ++ t) (length_bytes 2 x ∙ sym (length_bytes 2 y)) apart in
    let (fields, tail) = needs_same ms ns s t (omega arith) a.1 b.1 rest in
    (let first = bytes_same 2 x y a.0 b.0 field in cc, tail)

pub regroup : (a b c d : List ℕ) → (a ++ (b ++ c)) ++ d ≡ a ++ (b ++ (c ++ d))
regroup a b c d = simp append_assoc

-- two records that begin the same bytes are one, and leave the same bytes after it
pub entry_same : (d e : Entry) (s t : List ℕ) → Fits d → Fits e → entry_bytes d ++ s ≡ entry_bytes e ++ t → (d ≡ e) × (s ≡ t)
unfolding entry_bytes
entry_same d e s t fd fe same =
    let kind = same_kind d e (ap (λ l. get_or l 0 0) same) in
    let fields : amount_bytes d.earning ++ (amount_bytes d.cost ++ (need_bytes d.needs ++ s)) ≡ amount_bytes e.earning ++ (amount_bytes e.cost ++ (need_bytes e.needs ++ t)) = sym (regroup (amount_bytes d.earning) (amount_bytes d.cost) (need_bytes d.needs) s) ∙ ap (drop 1) same ∙ regroup (amount_bytes e.earning) (amount_bytes e.cost) (need_bytes e.needs) t in
    let (earning, more) = amount_same d.earning e.earning (amount_bytes d.cost ++ (need_bytes d.needs ++ s)) (amount_bytes e.cost ++ (need_bytes e.needs ++ t)) kind.earning fd.earning fe.earning fields in
    let (cost, most) = amount_same d.cost e.cost (need_bytes d.needs ++ s) (need_bytes e.needs ++ t) kind.cost fd.cost fe.cost more in
    let (needs, rest) = needs_same d.needs e.needs s t kind.needs fd.needs fe.needs most in
    (λ i. record { earning = earning i; cost = cost i; needs = needs i }, rest)
