-- The needs of a record, read one after another.
use Rattle.std.proofs.Common.{true, false, Bool, ◌&&◌, Decides, ◌≢◌, nat_lt, [], ◌∷◌, ◌≡◌, ℕ, zero, suc, ◌+◌, ◌-◌, ◌*◌, ◌<◌, ◌≤◌, List, length, get_or, sym, refl, ap, ◌∙◌, ⊎_elim, add-zero, arith}
use Rattle.std.proofs.ByRecursion.{All-get_or, All-from_get_or}
use Rattle.std.proofs.lemmas.Bool.{cases_lt, false≢true}
use Rattle.std.proofs.lemmas.Option.{slice_get-get_or, slice_get_past}
use Rattle.std.specs.Bool.{then_some}
use Rattle.std.specs.List.{AllByRecursion, slice_get}
use Rattle.sheet.specs.Format.{Entry}
use Rattle.sheet.specs.Layout.{InOrder}
use Rattle.sheet.specs.Places.{number_at, needs_at}
use Rattle.sheet.specs.Sound.{Ordered, There}

pub length_needs_at : (bs : List ℕ) (p k : ℕ) → length (needs_at bs p k) ≡ k
unfolding needs_at
length_needs_at bs p zero = refl
length_needs_at bs p (suc k) = ap suc (length_needs_at bs (p + 2) k)

pub get_or_needs_at : (bs : List ℕ) (p k j : ℕ) → j < k → get_or (needs_at bs p k) j 0 ≡ number_at bs (p + 2 * j) 2
unfolding needs_at
get_or_needs_at bs p zero j h = absurd (omega arith)
get_or_needs_at bs p (suc k) zero h = ap (λ q. number_at bs q 2) (omega arith)
get_or_needs_at bs p (suc k) (suc j) h = get_or_needs_at bs (p + 2) k j (omega arith) ∙ ap (λ q. number_at bs q 2) (omega arith)

-- needs ascend, and none is i, where each of them is in order
pub ordered_from : (bs : List ℕ) (p i k : ℕ) → ((j : ℕ) → j < k → InOrder bs p i j) → Ordered i (needs_at bs p k)
ordered_from bs p i k each =
    let long = length_needs_at bs p k in
    record {
      ascending = λ j inside. let before : j + 1 - 1 ≡ j = omega arith in omega (arith, (each (j + 1) (omega arith)).0 (omega arith), ap (λ m. number_at bs (p + 2 * m) 2) before, get_or_needs_at bs p k j (omega arith), get_or_needs_at bs p k (j + 1) (omega arith));
      others = All-from_get_or (λ n. n ≢ i) (needs_at bs p k) 0 (λ j inside own. (each j (omega arith)).1 (sym (get_or_needs_at bs p k j (omega arith)) ∙ own));
    }

pub in_order_from : (bs : List ℕ) (p i k : ℕ) → Ordered i (needs_at bs p k) → (j : ℕ) → j < k → InOrder bs p i j
in_order_from bs p i k o j inside =
    let long = length_needs_at bs p k in
    let here = get_or_needs_at bs p k j inside in (
      λ some. let next : j - 1 + 1 ≡ j = omega arith in omega (arith, o.ascending (j - 1) (omega arith), get_or_needs_at bs p k (j - 1) (omega arith), ap (λ m. get_or (needs_at bs p k) m 0) next, here),
      λ own. All-get_or (λ n. n ≢ i) (needs_at bs p k) j 0 (omega arith) o.others (here ∙ own),
    )

-- what holds of four numbers, of those below k, holds of each below k
by_four : (P : ℕ → Type 0) (k : ℕ) → k ≤ 4 → (0 < k → P 0) → (1 < k → P 1) → (2 < k → P 2) → (3 < k → P 3) → (j : ℕ) → j < k → P j
by_four P k few a b c d zero h = a h
by_four P k few a b c d (suc zero) h = b h
by_four P k few a b c d (suc (suc zero)) h = c h
by_four P k few a b c d (suc (suc (suc zero))) h = d h
by_four P k few a b c d (suc (suc (suc (suc j)))) h = absurd (omega arith)

-- four tests tell whether up to four needs are in order
module _ (bs : List ℕ) (p i k : ℕ) (few : k ≤ 4) where
  pub four_tell : (a b c d : Bool) → Decides a (0 < k → InOrder bs p i 0) → Decides b (1 < k → InOrder bs p i 1) → Decides c (2 < k → InOrder bs p i 2) → Decides d (3 < k → InOrder bs p i 3) → Decides (a && b && c && d) (Ordered i (needs_at bs p k))
  four_tell false b c d x y z w = (λ t. absurd (false≢true t), λ o. x.1 (in_order_from bs p i k o 0))
  four_tell true false c d x y z w = (λ t. absurd (false≢true t), λ o. y.1 (in_order_from bs p i k o 1))
  four_tell true true false d x y z w = (λ t. absurd (false≢true t), λ o. z.1 (in_order_from bs p i k o 2))
  four_tell true true true false x y z w = (λ t. absurd (false≢true t), λ o. w.1 (in_order_from bs p i k o 3))
  four_tell true true true true x y z w = (λ t. ordered_from bs p i k (by_four (InOrder bs p i) k few (x.0 refl) (y.0 refl) (z.0 refl) (w.0 refl)), λ o. refl)

-- needs that ascend are at most the last one
ascends : (i : ℕ) (ns : List ℕ) → Ordered i ns → (k d : ℕ) → k + d < length ns → get_or ns k 0 ≤ get_or ns (k + d) 0
ascends i ns o k zero inside = omega (arith, ap (λ j. get_or ns j 0) (add-zero k))
ascends i ns o k (suc d) inside =
    let next : k + d + 1 ≡ k + suc d = omega arith in
    omega (arith, ascends i ns o k d (omega arith), o.ascending (k + d) (omega arith), ap (λ j. get_or ns j 0) next)

-- need number j of those at a place, where there are so many
pub slice_get_needs_at : (bs : List ℕ) (p k j : ℕ) → slice_get (needs_at bs p k) j ≡ then_some (nat_lt j k) (number_at bs (p + 2 * j) 2)
slice_get_needs_at bs p k j = grind (arith, length_needs_at bs p k, get_or_needs_at bs p k j, slice_get-get_or (needs_at bs p k) j 0, slice_get_past (needs_at bs p k) j, cases_lt j k)

-- the last need is the highest, and 0 stands for it where there is none
pub last_is_highest : (i n h : ℕ) (ns : List ℕ) → Ordered i ns → h ≡ get_or ns (length ns - 1) 0 → h < n → AllByRecursion (λ k. k < n) ns
last_is_highest i n h ns o is above =
    let last = length ns - 1 in
    All-from_get_or (λ k. k < n) ns 0 (λ k inside.
    let end : k + (last - k) ≡ last = omega arith in
    omega (arith, is, ascends i ns o k (last - k) (omega arith), ap (λ m. get_or ns m 0) end))

pub highest_is_there : (n h : ℕ) (ns : List ℕ) → h ≡ get_or ns (length ns - 1) 0 → 0 < n → AllByRecursion (λ k. k < n) ns → h < n
highest_is_there n h [] is some there = omega (arith, is)
highest_is_there n h (x ∷ ns) is some there =
    let long : length (x ∷ ns) - 1 < length (x ∷ ns) = omega arith in
    omega (arith, is, All-get_or (λ k. k < n) (x ∷ ns) (length (x ∷ ns) - 1) 0 long there)

-- the more entries there are, the more needs are there
pub there_more : (m n : ℕ) (es : List Entry) → m ≤ n → AllByRecursion (There m) es → AllByRecursion (There n) es
there_more m n [] more all = tt
there_more m n (e ∷ es) more all = (
  All-from_get_or (λ k. k < n) e.needs 0 (λ k inside. omega (arith, All-get_or (λ j. j < m) e.needs k 0 inside all.0)),
  there_more m n es more all.1,
)
