-- What stands at the places of a list, and lists in which no number stands at two places.
use Rattle.std.proofs.Common.{◌≡◌, ℕ, zero, suc, ◌<◌, ◌⊎◌, List, [], ◌∷◌, ◌++◌, length, Some, None, refl, ap, subst, inl, inr, ⊎_elim, arith}
use Rattle.std.specs.List.{AllByRecursion, slice_get}
use Rattle.std.proofs.lemmas.Option.{slice_get_within}
use Rattle.network.specs.Nets.{Distinct}

-- nothing stands in a list of none
pub nth_nil : {A : Type 0} (k x : ℕ) → slice_get [] k ≡ Some x → A
nth_nil k x at = absurd cc

pub nth_inside : (xs : List ℕ) (k x : ℕ) → slice_get xs k ≡ Some x → k < length xs
nth_inside xs k x at = slice_get_within xs k x at

-- past the end stands nothing, so what stands somewhere stands before
pub nth_before : (xs : List ℕ) (j k x : ℕ) → slice_get xs k ≡ None → slice_get xs j ≡ Some x → j < k
nth_before [] j k x past at = nth_nil j x at
nth_before (y ∷ xs) j zero x past at = cc
nth_before (y ∷ xs) zero (suc k) x past at = omega arith
nth_before (y ∷ xs) (suc j) (suc k) x past at = omega (arith, nth_before xs j k x past at)

pub all_nth : (P : ℕ → Type 0) (xs : List ℕ) (k x : ℕ) → AllByRecursion P xs → slice_get xs k ≡ Some x → P x
all_nth P [] k x all is = nth_nil k x is
all_nth P (y ∷ xs) zero x all is = subst P (cc) all.0
all_nth P (y ∷ xs) (suc k) x all is = all_nth P xs k x all.1 is

pub all_by_nth : (P : ℕ → Type 0) (xs : List ℕ) → ((k x : ℕ) → slice_get xs k ≡ Some x → P x) → AllByRecursion P xs
all_by_nth P [] each = tt
all_by_nth P (x ∷ xs) each = (each 0 x refl, all_by_nth P xs (λ k. each (suc k)))

-- what stands at a place of a list with y pushed
nth_push : (xs : List ℕ) (y j x : ℕ) → slice_get (xs ++ y ∷ []) j ≡ Some x → (slice_get xs j ≡ Some x) ⊎ ((j ≡ length xs) × (y ≡ x))
nth_push [] y zero x at = inr (refl, cc)
nth_push [] y (suc j) x at = nth_nil j x at
nth_push (z ∷ xs) y zero x at = inl at
nth_push (z ∷ xs) y (suc j) x at = ⊎_elim inl (λ ((end, same) : (j ≡ length xs) × (y ≡ x)). inr (omega arith, same)) (nth_push xs y j x at)

pub distinct_more : (x : ℕ) (xs : List ℕ) → Distinct (x ∷ xs) → Distinct xs
distinct_more x xs d j k y p q = omega (arith, d (suc j) (suc k) y p q)

pub not_again : (x : ℕ) (xs : List ℕ) → Distinct (x ∷ xs) → (k : ℕ) → slice_get xs k ≡ Some x → ⊥
not_again x xs d k p = omega (arith, d 0 (suc k) x refl p)

pub distinct_cons : (x : ℕ) (xs : List ℕ) → Distinct xs → ((k : ℕ) → slice_get xs k ≡ Some x → ⊥) → Distinct (x ∷ xs)
distinct_cons x xs d new zero zero y p q = refl
distinct_cons x xs d new zero (suc k) y p q = let never = new k in grind arith
distinct_cons x xs d new (suc j) zero y p q = let never = new j in grind arith
distinct_cons x xs d new (suc j) (suc k) y p q = ap suc (d j k y p q)

pub distinct_one : (x : ℕ) → Distinct (x ∷ [])
distinct_one x = distinct_cons x [] (λ j k y p q. nth_nil j y p) (λ k. nth_nil k x)

pub distinct_push : (xs : List ℕ) (y : ℕ) → Distinct xs → ((k : ℕ) → slice_get xs k ≡ Some y → ⊥) → Distinct (xs ++ y ∷ [])
distinct_push xs y d new j k x p q = grind (arith, d j k x, new j, new k, nth_push xs y j x p, nth_push xs y k x q)

not_in_either : (x : ℕ) (xs ys : List ℕ) → ((k : ℕ) → slice_get xs k ≡ Some x → ⊥) → ((k : ℕ) → slice_get ys k ≡ Some x → ⊥) → (k : ℕ) → slice_get (xs ++ ys) k ≡ Some x → ⊥
not_in_either x [] ys first second k at = second k at
not_in_either x (y ∷ xs) ys first second zero at = first 0 at
not_in_either x (y ∷ xs) ys first second (suc k) at = not_in_either x xs ys (λ j. first (suc j)) second k at

pub distinct_append : (xs ys : List ℕ) → Distinct xs → Distinct ys → ((x j k : ℕ) → slice_get xs j ≡ Some x → slice_get ys k ≡ Some x → ⊥) → Distinct (xs ++ ys)
distinct_append [] ys d e apart = e
distinct_append (x ∷ xs) ys d e apart =
    distinct_cons x (xs ++ ys) (distinct_append xs ys (distinct_more x xs d) e (λ y j. apart y (suc j))) (not_in_either x xs ys (not_again x xs d) (λ k. apart x 0 k refl))
