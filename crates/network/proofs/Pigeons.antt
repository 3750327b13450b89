-- Distinct numbers below n are at most n many, so a path has few words.
use Rattle.std.proofs.Common.{◌≡◌, ℕ, suc, ◌<◌, ◌≤◌, true, false, eqb, ◌∙◌, List, [], ◌∷◌, length, Some, sym, refl, ap, subst, arith}
use Rattle.std.proofs.lemmas.Bool.{ne_eqb}
use Rattle.std.proofs.lemmas.Bool.Decides.{nat_tests}
use Rattle.std.proofs.lemmas.Map.Steps.{length-le_from_distinct_below}
use Rattle.std.specs.List.{AllByRecursion, IsDistinct, list_any}
use Rattle.network.specs.Nets.{Ends, Graph, LawfulGraph, Distinct}
use Rattle.network.specs.Paths.{Chain, passed}
use Rattle.network.specs.Theorems.{FewWords}
use Rattle.network.proofs.Lists.{not_again, distinct_more, all_by_nth}
use Rattle.network.proofs.Laws.{ends_are, head_there}

-- a list with no number at two places, as std tells it
distinct_list : (xs : List ℕ) → Distinct xs → IsDistinct eqb xs
unfolding IsDistinct
distinct_list [] d = tt
distinct_list (x ∷ xs) d =
    (all_by_nth (λ y. eqb x y ≡ false) xs (λ k y at. ne_eqb x y (λ is. not_again x xs d k (at ∙ ap (λ z. Some z) (sym is)))), distinct_list xs (distinct_more x xs d))

found_below : (n : ℕ) (xs : List ℕ) → AllByRecursion (λ x. x < n) xs → (q : ℕ) → list_any (eqb q) xs ≡ true → q < n
found_below n [] below q found = cc
found_below n (x ∷ xs) (first, below) q found = grind (arith, nat_tests, found_below n xs below q)

pub pigeons : (n : ℕ) (xs : List ℕ) → AllByRecursion (λ x. x < n) xs → Distinct xs → length xs ≤ n
pigeons n xs below d = length-le_from_distinct_below xs n (distinct_list xs d) (found_below n xs below)

passed_there : (g : Graph) (u : ℕ) (arcs : List ℕ) → LawfulGraph g → u < g.nodes → Chain g u arcs → AllByRecursion (λ w. w < g.nodes) (passed g u arcs)
passed_there g u [] l there c = (there, tt)
passed_there g u (a ∷ more) l there (e, is, from, c) =
    (there, subst (λ (x : Ends). AllByRecursion (λ w. w < g.nodes) (passed g x.head more)) (sym (ends_are g a e is)) (passed_there g e.head more l (head_there g a e l is) c))

passed_length : (g : Graph) (u : ℕ) (arcs : List ℕ) → length (passed g u arcs) ≡ suc (length arcs)
passed_length g u [] = refl
passed_length g u (a ∷ more) = ap suc (passed_length g _ more)

pub few_words : FewWords
few_words v p l h =
    let nodes = passed v.graph p.first p.arcs in
    omega (arith, passed_length v.graph p.first p.arcs, pigeons v.graph.nodes nodes (passed_there v.graph p.first p.arcs l.graph h.there h.chain) h.distinct)
