-- How many numbers below n a set holds, and what one more or one less changes of that.
use Rattle.std.proofs.Common.{◌≡◌, ℕ, ◌+◌, ◌<◌, ◌≤◌, Bool, true, false, cond, refl, ap, arith}
use Rattle.std.proofs.lemmas.Bool.{cases_Bool}
use Rattle.std.proofs.lemmas.Bool.Decides.{nat_tests}
use Rattle.network.specs.Nets.{at}
use Rattle.network.specs.Cuts.{sum_below}
use Rattle.network.proofs.Sums.{sum_differs, part_le_sum, sum_zero, sum_at_most}
use Rattle.trees.specs.Rings.{tally}
use Rattle.trees.proofs.Points.{at_here, at_else}

-- a sum over a function that is changed at u
pub sum_at : {A : Type 0} (n u : ℕ) (m : ℕ → A) (y : A) (w : A → ℕ) → u < n → sum_below n (λ k. w (at m u y k)) + w (m u) ≡ sum_below n (λ k. w (m k)) + w y
sum_at n u m y w there =
    let differ = sum_differs n u (λ k. w (at m u y k)) (λ k. w (m k)) there (λ k not. ap w (at_else m u y k not)) in
    omega (arith, ap w (at_here m u y u refl))

pub tally_le : (n : ℕ) (m : ℕ → Bool) → tally n m ≤ n
tally_le n m = omega (arith, sum_at_most n 1 (λ u. cond (m u) 1 0) (λ k _. grind (arith, cases_Bool (m k))))

pub tally_at : (n u : ℕ) (m : ℕ → Bool) (b : Bool) → u < n → tally n (at m u b) + cond (m u) 1 0 ≡ tally n m + cond b 1 0
tally_at n u m b there = sum_at n u m b (λ x. cond x 1 0) there

pub tally_more : (n : ℕ) (m : ℕ → Bool) (u : ℕ) → u < n → m u ≡ false → tally n (at m u true) ≡ tally n m + 1
tally_more n m u there is = let h = rw is at (tally_at n u m true there) in omega arith

pub tally_less : (n : ℕ) (m : ℕ → Bool) (u : ℕ) → u < n → m u ≡ true → tally n (at m u false) + 1 ≡ tally n m
tally_less n m u there is = let h = rw is at (tally_at n u m false there) in omega arith

-- a set of none holds no number
pub tally_none : (n : ℕ) (m : ℕ → Bool) → tally n m ≡ 0 → (u : ℕ) → u < n → m u ≡ false
tally_none n m none u there = let h = part_le_sum n u (λ k. cond (m k) 1 0) there in grind (arith, nat_tests, cases_Bool (m u))

pub tally_empty : (n : ℕ) (m : ℕ → Bool) → ((u : ℕ) → u < n → m u ≡ false) → tally n m ≡ 0
tally_empty n m empty = sum_zero n (λ k. cond (m k) 1 0) (λ k there. rw (empty k there))
