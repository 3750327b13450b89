-- Functions changed at one number.
use Rattle.std.proofs.Common.{◌≡◌, ℕ, Bool, true, false, arith}
use Rattle.std.proofs.lemmas.Bool.{cases_eq}
use Rattle.std.proofs.lemmas.Bool.Decides.{nat_tests}
use Rattle.network.specs.Nets.{at}

pub at_here : {A : Type 0} (f : ℕ → A) (u : ℕ) (y : A) (k : ℕ) → k ≡ u → at f u y k ≡ y
at_here f u y k is = grind (arith, nat_tests)

pub at_else : {A : Type 0} (f : ℕ → A) (u : ℕ) (y : A) (k : ℕ) → (k ≡ u → ⊥) → at f u y k ≡ f k
at_else f u y k not = grind (arith, nat_tests)

-- a set with two elements put in, in either order
pub at_twice : (m : ℕ → Bool) (u w k : ℕ) → at (at m u true) w true k ≡ true → at (at m w true) u true k ≡ true
at_twice m u w k is = grind (arith, nat_tests, cases_eq k u, cases_eq k w)

pub at_put_back : (m : ℕ → Bool) (u k : ℕ) → m k ≡ true → at (at m u false) u true k ≡ true
at_put_back m u k is = grind (arith, nat_tests, cases_eq k u)

pub at_more : (m : ℕ → Bool) (u k : ℕ) → m k ≡ true → at m u true k ≡ true
at_more m u k is = grind (arith, nat_tests, cases_eq k u)
