-- Sums over the numbers below n.
use Rattle.std.proofs.Common.{◌≡◌, ℕ, zero, suc, ◌+◌, ◌*◌, ◌<◌, ◌≤◌, refl, ap, ⊎_elim, arith}
use Rattle.std.proofs.lemmas.Bool.{cases_eq}
use Rattle.network.specs.Cuts.{sum_below}

pub sum_same : (n : ℕ) (f g : ℕ → ℕ) → ((k : ℕ) → k < n → f k ≡ g k) → sum_below n f ≡ sum_below n g
unfolding sum_below
sum_same zero f g same = refl
sum_same (suc n) f g same = omega (arith, sum_same n f g (λ k below. same k (omega arith)), same n (omega arith))

-- two sums that differ at one number only
pub sum_differs : (n u : ℕ) (f g : ℕ → ℕ) → u < n → ((k : ℕ) → (k ≡ u → ⊥) → f k ≡ g k) → sum_below n f + g u ≡ sum_below n g + f u
unfolding sum_below
sum_differs zero u f g there same = absurd (omega arith)
sum_differs (suc n) u f g there same = ⊎_elim
    (λ (is : n ≡ u). omega (arith, sum_same n f g (λ k below. same k (λ e. omega arith)), ap f is, ap g is))
    (λ (not : n ≡ u → ⊥). omega (arith, sum_differs n u f g (omega arith) same, same n not))
    (cases_eq n u)

pub sum_zero : (n : ℕ) (f : ℕ → ℕ) → ((k : ℕ) → k < n → f k ≡ 0) → sum_below n f ≡ 0
unfolding sum_below
sum_zero zero f none = refl
sum_zero (suc n) f none = omega (arith, sum_zero n f (λ k below. none k (omega arith)), none n (omega arith))

-- a sum of n parts, none above k, is at most k times n
pub sum_at_most : (n k : ℕ) (f : ℕ → ℕ) → ((u : ℕ) → u < n → f u ≤ k) → sum_below n f ≤ k * n
unfolding sum_below
sum_at_most zero k f most = omega arith
sum_at_most (suc n) k f most = grind (arith, sum_at_most n k f (λ u below. most u (omega arith)), most n (omega arith))

-- each number's part is at most the sum
pub part_le_sum : (n k : ℕ) (f : ℕ → ℕ) → k < n → f k ≤ sum_below n f
unfolding sum_below
part_le_sum zero k f there = absurd (omega arith)
part_le_sum (suc n) k f there = grind (arith, cases_eq k n, part_le_sum n k f)

-- a sum up to a smaller number is no greater
pub sum_mono : (f : ℕ → ℕ) (u w : ℕ) → u ≤ w → sum_below u f ≤ sum_below w f
unfolding sum_below
sum_mono f u zero less = let same : u ≡ 0 = omega arith in rw same (omega arith)
sum_mono f u (suc w) less = ⊎_elim
    (λ (same : u ≡ suc w). omega (arith, ap (λ k. sum_below k f) same))
    (λ (not : u ≡ suc w → ⊥). omega (arith, sum_mono f u w (omega (arith, not))))
    (cases_eq u (suc w))

-- numbers past k add nothing where each part is 0
pub sum_past : (n k : ℕ) (f : ℕ → ℕ) → k ≤ n → ((u : ℕ) → k ≤ u → f u ≡ 0) → sum_below n f ≡ sum_below k f
unfolding sum_below
sum_past zero k f less none = let same : k ≡ 0 = omega arith in rw same refl
sum_past (suc n) k f less none = ⊎_elim
    (λ (same : k ≡ suc n). rw same refl)
    (λ (not : k ≡ suc n → ⊥). omega (arith, sum_past n k f (omega (arith, not)) none, none n (omega (arith, not))))
    (cases_eq k (suc n))
