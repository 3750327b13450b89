-- A test of every selection of a few nodes: whatever passes for all that are tried holds for every selection.
use Rattle.std.proofs.Common.{◌≡◌, ℕ, zero, suc, ◌<◌, Bool, true, false, ◌&&◌, ⊎_elim, arith}
use Rattle.std.proofs.lemmas.Bool.{and_parts, cases_Bool}
use Rattle.std.proofs.lemmas.Bool.Decides.{nat_tests}
use Rattle.network.specs.Nets.{at}
use Rattle.network.specs.Cuts.{Selection}

abbrev pub nothing : Selection
nothing u = false

-- whether every selection of n nodes passes
abbrev pub all_pass : ℕ → (Selection → Bool) → Bool
all_pass zero p = p nothing
all_pass (suc n) p = all_pass n (λ X. p (at X n true)) && all_pass n (λ X. p (at X n false))

-- a selection that passes and holds the same nodes below n as X
pub record Tried (n : ℕ) (p : Selection → Bool) (X : Selection) : Type 0 where
  pub selection : Selection
  pub same : (u : ℕ) → u < n → selection u ≡ X u
  pub passes : p selection ≡ true

-- what was tried with node n as X has it
tried_more : (n : ℕ) (p : Selection → Bool) (X : Selection) (b : Bool) → X n ≡ b → Tried n (λ Y. p (at Y n b)) X → Tried (suc n) p X
tried_more n p X b is t = record {
  selection = at t.selection n b;
  same = λ u below. grind (arith, nat_tests, t.same u);
  passes = t.passes;
}

pub tried : (n : ℕ) (p : Selection → Bool) (X : Selection) → all_pass n p ≡ true → Tried n p X
tried zero p X h = record { selection = nothing; same = λ u below. absurd (omega arith); passes = h }
tried (suc n) p X h =
    let (with_n, without) = and_parts (all_pass n (λ Y. p (at Y n true))) (all_pass n (λ Y. p (at Y n false))) h in
    ⊎_elim
    (λ (on : X n ≡ true). tried_more n p X true on (tried n (λ Y. p (at Y n true)) X with_n))
    (λ (off : X n ≡ false). tried_more n p X false off (tried n (λ Y. p (at Y n false)) X without))
    (cases_Bool (X n))
