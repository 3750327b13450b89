-- Chains of arcs grown at their end.
use Rattle.std.proofs.Common.{◌≡◌, ℕ, List, [], ◌∷◌, ◌++◌, Some, refl, ap, ◌∙◌}
use Rattle.network.specs.Nets.{Ends, Graph, ends_of}
use Rattle.network.specs.Paths.{Chain, passed, last_node}
use Rattle.network.proofs.Laws.{ends_are}

pub chain_push : (g : Graph) (u : ℕ) (arcs : List ℕ) (a : ℕ) (e : Ends) → Chain g u arcs → g.ends a ≡ Some e → e.tail ≡ last_node g u arcs → Chain g u (arcs ++ a ∷ [])
chain_push g u [] a e c is from = (e, is, from, tt)
chain_push g u (b ∷ more) a e (d, at_b, start, c) is from =
    (d, at_b, start, chain_push g d.head more a e c is (from ∙ ap (λ (x : Ends). last_node g x.head more) (ends_are g b d at_b)))

pub passed_push : (g : Graph) (u : ℕ) (arcs : List ℕ) (a : ℕ) → passed g u (arcs ++ a ∷ []) ≡ passed g u arcs ++ (ends_of g a).head ∷ []
passed_push g u [] a = refl
passed_push g u (b ∷ more) a = ap (λ xs. u ∷ xs) (passed_push g (ends_of g b).head more a)

pub last_push : (g : Graph) (u : ℕ) (arcs : List ℕ) (a : ℕ) → last_node g u (arcs ++ a ∷ []) ≡ (ends_of g a).head
last_push g u [] a = refl
last_push g u (b ∷ more) a = last_push g (ends_of g b).head more a
