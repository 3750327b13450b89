-- Lists that are made from the numbers below a bound.
use Rattle.std.proofs.Common.{◌≡◌, ℕ, zero, suc, ◌+◌, ◌<◌, ◌≤◌, Bool, false, cond, not, List, [], ◌∷◌, ◌++◌, map, length, get_or, filter, refl, ◌∙◌, arith}
use Rattle.std.specs.List.{range_with_len, AllByRecursion}
use Rattle.std.proofs.ByRecursion.{All-from_get_or}
use Rattle.std.proofs.lemmas.List.{map-id}
use Rattle.std.proofs.lemmas.List.Filters.{length-filter_both}
use Rattle.std.proofs.lemmas.List.FromFn.{length-range_with_len, get_or-range_with_len, length-map-range_with_len, get_or-map-range_with_len, fill_by_all, filter_of_map_range_with_len_more}

-- functions that agree below the bound make the same list
pub map_same : {A : Type 0} (f g : ℕ → A) (n : ℕ) (d : A) → ((k : ℕ) → k < n → f k ≡ g k) → map f (range_with_len 0 n) ≡ map g (range_with_len 0 n)
map_same f g n d same = fill_by_all g (map f (range_with_len 0 n)) n d (length-map-range_with_len f 0 n) (λ k h. get_or-map-range_with_len f 0 n k k d h (omega arith) ∙ same k h)

-- and so do tests
kept_alike : (p q : ℕ → Bool) (a n : ℕ) → ((k : ℕ) → k < a + n → p k ≡ q k) → filter p (range_with_len a n) ≡ filter q (range_with_len a n)
kept_alike p q a zero same = refl
kept_alike p q a (suc n) same = let here = same a (omega arith) in let rest = kept_alike p q (a + 1) n (λ k h. same k (omega arith)) in cc

pub kept_same : (p q : ℕ → Bool) (n : ℕ) → ((k : ℕ) → k < n → p k ≡ q k) → filter p (range_with_len 0 n) ≡ filter q (range_with_len 0 n)
kept_same p q n same = kept_alike p q 0 n (λ k h. same k (omega arith))

-- the next number is kept where it passes
pub kept_more : (p : ℕ → Bool) (n : ℕ) → filter p (range_with_len 0 (n + 1)) ≡ filter p (range_with_len 0 n) ++ cond (p n) (n ∷ []) []
kept_more p n =
    let id : ℕ → ℕ = λ k. k in
    let more = filter_of_map_range_with_len_more p id 0 n n (omega arith) in
    simp map-id at more

-- where nothing passes, nothing is kept
pub kept_none : {A : Type 0} (p : A → Bool) (xs : List A) → AllByRecursion (λ x. p x ≡ false) xs → filter p xs ≡ []
kept_none p [] none = refl
kept_none p (x ∷ xs) (here, rest) = rw here (kept_none p xs rest)

-- what holds of every number below the bound holds of all of them
pub all_counting : (P : ℕ → Type 0) (n : ℕ) → ((k : ℕ) → k < n → P k) → AllByRecursion P (range_with_len 0 n)
all_counting P n each = All-from_get_or P (range_with_len 0 n) 0 (λ k h. let below : k < n = omega (arith, length-range_with_len 0 n) in let is : get_or (range_with_len 0 n) k 0 ≡ k = omega (arith, get_or-range_with_len 0 n k 0 below) in rw is (each k below))

-- at most all are kept
pub kept_at_most : (p : ℕ → Bool) (n : ℕ) → length (filter p (range_with_len 0 n)) ≤ n
kept_at_most p n = omega (arith, length-filter_both p (λ k. not (p k)) (λ k. refl) (range_with_len 0 n), length-range_with_len 0 n)
