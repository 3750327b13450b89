-- The entry that stands at the places of a record: its bytes are the sheet's, and its bit map is the one that laid the places.
use Rattle.std.proofs.Common.{◌≡◌, ℕ, zero, suc, ◌+◌, ◌-◌, ◌*◌, ◌/◌, ◌%◌, ◌^◌, ◌<◌, ◌≤◌, List, ◌∷◌, ◌++◌, length, get_or, drop, Some, None, Option, sym, refl, ap, ◌∙◌, arith}
use Rattle.std.proofs.lemmas.List.{append_assoc, take-append-drop, drop-drop, drop_more}
use Rattle.std.specs.List.{AllByRecursion}
use Rattle.sheet.specs.declared.records.Record.{Record}
use Rattle.sheet.specs.Format.{Entry, bytes, amount_bytes, need_bytes, flag, bit_map, entry_bytes}
use Rattle.sheet.specs.Sound.{Under, Fits}
use Rattle.sheet.specs.Places.{number_at, amount_at, needs_at, kind_of, earning_place, cost_place, entry_at, place, placed}
use Rattle.sheet.specs.Layout.{field, laid, size}
use Rattle.sheet.proofs.Numbers.{Bytes, bytes_at, number_below}
use Rattle.sheet.proofs.Entries.{length_amount, length_entry, regroup}
use Rattle.sheet.proofs.Maps.{map_parts}
use Rattle.sheet.proofs.Needs.{length_needs_at}

flag_field : (bs : List ℕ) (b p : ℕ) → b ≤ 1 → flag (amount_at bs (field b p)) ≡ b
flag_field bs zero p h = refl
flag_field bs (suc b) p h = omega arith

under_field : (bs : List ℕ) (b p : ℕ) → Bytes bs → Under (2 ^ 32) (amount_at bs (field b p))
under_field bs zero p small = tt
under_field bs (suc b) p small = number_below bs p 4 small

place_field : (bs : List ℕ) (b p q : ℕ) → p ≡ q → field b p ≡ place (amount_at bs (field b p)) q
place_field bs zero p q same = refl
place_field bs (suc b) p q same = ap Some same

-- the n bytes at p, and what follows them
number_stands : (bs : List ℕ) (p n : ℕ) → Bytes bs → p + n ≤ length bs → drop p bs ≡ bytes n (number_at bs p n) ++ drop (p + n) bs
number_stands bs p n small inside =
    let field = sym (bytes_at bs p n small inside) in
    sym (take-append-drop n (drop p bs)) ∙ (λ i. field i ++ drop-drop n p bs i)

amount_stands : (bs : List ℕ) (b p : ℕ) → Bytes bs → b ≤ 1 → p + 4 * b ≤ length bs → drop p bs ≡ amount_bytes (amount_at bs (field b p)) ++ drop (p + 4 * b) bs
amount_stands bs zero p small bit inside = ap (λ q. drop q bs) (omega arith)
amount_stands bs (suc b) p small bit inside =
    let end : p + 4 ≡ p + 4 * suc b = omega arith in
    number_stands bs p 4 small (omega arith) ∙ ap (λ q. bytes 4 (number_at bs p 4) ++ drop q bs) end

needs_stand : (bs : List ℕ) (p k : ℕ) → Bytes bs → p + 2 * k ≤ length bs → drop p bs ≡ need_bytes (needs_at bs p k) ++ drop (p + 2 * k) bs
unfolding needs_at
needs_stand bs p zero small inside = ap (λ q. drop q bs) (omega arith)
needs_stand bs p (suc k) small inside =
    let end : p + 2 + 2 * k ≡ p + 2 * suc k = omega arith in
    let more = needs_stand bs (p + 2) k small (omega arith) ∙ ap (λ q. need_bytes (needs_at bs (p + 2) k) ++ drop q bs) end in
    number_stands bs p 2 small (omega arith) ∙ ap (λ l. bytes 2 (number_at bs p 2) ++ l) more
    ∙ sym (append_assoc (bytes 2 (number_at bs p 2)) (need_bytes (needs_at bs (p + 2) k)) (drop (p + 2 * suc k) bs))

needs_below : (bs : List ℕ) (p k : ℕ) → Bytes bs → AllByRecursion (λ j. j < 2 ^ 16) (needs_at bs p k)
unfolding needs_at
needs_below bs p zero small = tt
needs_below bs p (suc k) small = (number_below bs p 2 small, needs_below bs (p + 2) k small)

-- the entry in the fields that the bit map m announces, of a record that begins at p and has k needs
abbrev pub stood : List ℕ → ℕ → ℕ → ℕ → Entry
stood bs p m k = record {
  earning = amount_at bs (field (m % 2) (p + 1));
  cost = amount_at bs (field (m / 2 % 2) (p + 1 + 4 * (m % 2)));
  needs = needs_at bs (p + 1 + 4 * (m % 2) + 4 * (m / 2 % 2)) k;
}

earning_of_kind : (o q : Option ℕ) → earning_place (kind_of o q) ≡ o
earning_of_kind None None = refl
earning_of_kind None (Some q) = refl
earning_of_kind (Some p) None = refl
earning_of_kind (Some p) (Some q) = refl

cost_of_kind : (o q : Option ℕ) → cost_place (kind_of o q) ≡ q
cost_of_kind None None = refl
cost_of_kind None (Some q) = refl
cost_of_kind (Some p) None = refl
cost_of_kind (Some p) (Some q) = refl

pub stands_there : (bs : List ℕ) (i p m k : ℕ) → stood bs p m k ≡ entry_at bs (laid i p m k)
stands_there bs i p m k =
    let from = p + 1 in
    let earning = sym (earning_of_kind (field (m % 2) from) (field (m / 2 % 2) (from + 4 * (m % 2)))) in
    let cost = sym (cost_of_kind (field (m % 2) from) (field (m / 2 % 2) (from + 4 * (m % 2)))) in
    λ j. record { earning = amount_at bs (earning j); cost = amount_at bs (cost j); needs = needs_at bs (from + 4 * (m % 2) + 4 * (m / 2 % 2)) k }

-- the entry at the places of a record is the one in the fields of the bit map that laid it
pub stood_at : (bs : List ℕ) (i p m k : ℕ) (r : Record) → r ≡ laid i p m k → stood bs p m k ≡ entry_at bs r
stood_at bs i p m k r is = stands_there bs i p m k ∙ ap (entry_at bs) (sym is)

-- the places that the bit map m gives record number i, which begins at p and has k needs
module _ (bs : List ℕ) (i p m k : ℕ) (small : Bytes bs) (low : m < 64) (run : m / 4 % 16 ≡ 2 ^ k - 1) (few : k ≤ 4) where
  pub laid_fits : Fits (stood bs p m k)
  laid_fits = record {
    earning = under_field bs (m % 2) (p + 1) small;
    cost = under_field bs (m / 2 % 2) (p + 1 + 4 * (m % 2)) small;
    needs = needs_below bs (p + 1 + 4 * (m % 2) + 4 * (m / 2 % 2)) k small;
    few = omega (arith, length_needs_at bs (p + 1 + 4 * (m % 2) + 4 * (m / 2 % 2)) k);
  }

  pub laid_map : bit_map (stood bs p m k) ≡ m
  laid_map =
      let long = length_needs_at bs (p + 1 + 4 * (m % 2) + 4 * (m / 2 % 2)) k in
      let power = ap (λ n. 2 ^ n) long in
      let parts = map_parts m low in
      omega (arith, flag_field bs (m % 2) (p + 1) (omega arith), flag_field bs (m / 2 % 2) (p + 1 + 4 * (m % 2)) (omega arith))

  pub laid_size : length (entry_bytes (stood bs p m k)) ≡ size m k
  laid_size =
      omega (
        arith,
        length_entry (stood bs p m k),
        flag_field bs (m % 2) (p + 1) (omega arith),
        flag_field bs (m / 2 % 2) (p + 1 + 4 * (m % 2)) (omega arith),
        length_needs_at bs (p + 1 + 4 * (m % 2) + 4 * (m / 2 % 2)) k,
      )

  pub laid_places : laid i p m k ≡ placed i p (stood bs p m k)
  laid_places =
      let earning = length_amount (amount_at bs (field (m % 2) (p + 1))) in
      let cost = length_amount (amount_at bs (field (m / 2 % 2) (p + 1 + 4 * (m % 2)))) in
      let first = flag_field bs (m % 2) (p + 1) (omega arith) in
      let second = flag_field bs (m / 2 % 2) (p + 1 + 4 * (m % 2)) (omega arith) in
      let after_earning : p + 1 + 4 * (m % 2) ≡ p + 1 + length (amount_bytes (amount_at bs (field (m % 2) (p + 1)))) = omega arith in
      let after_cost : p + 1 + 4 * (m % 2) + 4 * (m / 2 % 2) ≡ p + 1 + length (amount_bytes (amount_at bs (field (m % 2) (p + 1)))) + length (amount_bytes (amount_at bs (field (m / 2 % 2) (p + 1 + 4 * (m % 2))))) = omega arith in
      let count = sym (length_needs_at bs (p + 1 + 4 * (m % 2) + 4 * (m / 2 % 2)) k) in
      let end = ap (λ n. p + n) (sym laid_size) in
      λ j. record {
        number = i;
        byte = p;
        kind = kind_of (place_field bs (m % 2) (p + 1) (p + 1) refl j) (place_field bs (m / 2 % 2) (p + 1 + 4 * (m % 2)) _ after_earning j);
        needs = after_cost j;
        count = count j;
        end = end j;
      }

  pub laid_stands : p < length bs → get_or bs p 0 ≡ m → p + size m k ≤ length bs → drop p bs ≡ entry_bytes (stood bs p m k) ++ drop (p + size m k) bs
  unfolding entry_bytes
  laid_stands start first inside =
      let from = p + 1 + 4 * (m % 2) in
      let end : from + 4 * (m / 2 % 2) + 2 * k ≡ p + size m k = omega arith in
      let earning = amount_stands bs (m % 2) (p + 1) small (omega arith) (omega arith) in
      let cost = amount_stands bs (m / 2 % 2) from small (omega arith) (omega arith) in
      let needs = needs_stand bs (from + 4 * (m / 2 % 2)) k small (omega arith) ∙ ap (λ q. need_bytes (needs_at bs (from + 4 * (m / 2 % 2)) k) ++ drop q bs) end in
      let fields = earning ∙ ap (λ l. amount_bytes (amount_at bs (field (m % 2) (p + 1))) ++ l) (cost ∙ ap (λ l. amount_bytes (amount_at bs (field (m / 2 % 2) from)) ++ l) needs) in
      let head = sym (laid_map ∙ sym first) in
      drop_more bs p 0 start ∙ (λ j. head j ∷ fields j) ∙ ap (λ l. bit_map (stood bs p m k) ∷ l) (sym (regroup (amount_bytes (amount_at bs (field (m % 2) (p + 1)))) (amount_bytes (amount_at bs (field (m / 2 % 2) from))) (need_bytes (needs_at bs (from + 4 * (m / 2 % 2)) k)) (drop (p + size m k) bs)))
