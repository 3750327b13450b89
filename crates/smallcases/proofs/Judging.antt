-- The test of a network's cheapest cost and marks, and that they hold where it passes.
use Rattle.std.proofs.Common.{◌≡◌, ℕ, ◌<◌, ◌≤◌, Bool, true, false, not, ◌&&◌, ◌||◌, ltb, eqb, ◌∙◌, List, length, get_or, sym, ap, subst, ⊎_elim, arith}
use Rattle.std.proofs.lemmas.Bool.{and_parts, or_cases, agree_below, agree_below_at, ltb-true, eqb-true, not-true}
use Rattle.std.proofs.lemmas.Option.{slice_get_within, get_or_from_slice_get}
use Rattle.network.specs.declared.mark.Mark.{Mark}
use Rattle.network.specs.declared.mark.Mark.TheVariants.{In, Out, Either}
use Rattle.network.specs.Nets.{Net}
use Rattle.network.specs.Cuts.{Selection, cost, Cheapest, CheapestCost, Marked, AllMarked}
use Rattle.network.specs.Theorems.{inside}
use Rattle.network.proofs.Costs.{cost_same}
use Rattle.smallcases.proofs.Codes.{FewCodes, cost_below, cost_few}
use Rattle.smallcases.proofs.Trying.{all_pass, tried}

-- the mark of a node; past the end of the marks, out
abbrev pub mark_at : List Mark → ℕ → Mark
mark_at marks u = get_or marks u Out

-- the nodes that are in, and those that are either too where b says so
abbrev pub by_marks : List Mark → Bool → Selection
by_marks marks b u = inside b (mark_at marks u)

-- whether a cheapest selection may hold a node of this mark, where b holds, or not hold it
abbrev pub fits : Mark → Bool → Bool
fits In b = b
fits Out b = not b
fits Either b = true

-- whether a selection of n nodes does what the marks say
abbrev pub fits_all : ℕ → List Mark → Selection → Bool
fits_all n marks X = agree_below (λ u. fits (mark_at marks u) (X u)) (λ u. true) n

-- whether a selection costs more than c, or else just c and does what the marks say
abbrev pub passes : Net → ℕ → ℕ → List Mark → Selection → Bool
passes v k c marks X = ltb c (cost_below v k X) || (eqb (cost_below v k X) c && fits_all v.graph.nodes marks X)

-- whether the nodes that marks tell cost c in v, whose codes are below k
abbrev pub extreme : Net → ℕ → ℕ → List Mark → Bool → Bool
extreme v k c marks b = eqb (cost_below v k (by_marks marks b)) c

-- whether c and the marks are those of v
abbrev pub judged : Net → ℕ → ℕ → List Mark → Bool
judged v k c marks = (eqb (length marks) v.graph.nodes && all_pass v.graph.nodes (passes v k c marks)) && (extreme v k c marks false && extreme v k c marks true)

-- what the test says
pub record Judged (v : Net) (c : ℕ) (marks : List Mark) : Type 0 where
  pub counted : length marks ≡ v.graph.nodes
  pub extremes : (b : Bool) → cost v (by_marks marks b) ≡ c
  pub least : (X : Selection) → c ≤ cost v X
  pub fitting : (X : Selection) → cost v X ≡ c → (u : ℕ) → u < v.graph.nodes → fits (mark_at marks u) (X u) ≡ true

-- a selection that passes, told by its cost
record Passed (v : Net) (c : ℕ) (marks : List Mark) (X : Selection) : Type 0 where
  least : c ≤ cost v X
  fitting : cost v X ≡ c → (u : ℕ) → u < v.graph.nodes → fits (mark_at marks u) (X u) ≡ true

passed : (v : Net) (k c : ℕ) (marks : List Mark) (X : Selection) → FewCodes v k → passes v k c marks X ≡ true → Passed v c marks X
passed v k c marks X few h =
    let costs = cost_few v k X few in
    ⊎_elim
    (λ (dear : ltb c (cost_below v k X) ≡ true). let more : c < cost_below v k X = ltb-true c (cost_below v k X) dear in record { least = omega arith; fitting = λ is. absurd (omega arith) })
    (λ (cheap : (eqb (cost_below v k X) c && fits_all v.graph.nodes marks X) ≡ true).
    let (same, all) = and_parts (eqb (cost_below v k X) c) (fits_all v.graph.nodes marks X) cheap in
    let is : cost_below v k X ≡ c = eqb-true (cost_below v k X) c same in
    record { least = omega arith; fitting = λ _ u. agree_below_at (λ w. fits (mark_at marks w) (X w)) (λ w. true) v.graph.nodes u all })
    (or_cases (ltb c (cost_below v k X)) (eqb (cost_below v k X) c && fits_all v.graph.nodes marks X) h)

-- every selection is one that was tried, as far as nodes go
each_passed : (v : Net) (k c : ℕ) (marks : List Mark) (X : Selection) → FewCodes v k → all_pass v.graph.nodes (passes v k c marks) ≡ true → Passed v c marks X
each_passed v k c marks X few h =
    let t = tried v.graph.nodes (passes v k c marks) X h in
    let p = passed v k c marks t.selection few t.passes in
    let same = cost_same v t.selection X few.lawful.graph t.same in
    record {
      least = omega (arith, p.least);
      fitting = λ is u there. ap (fits (mark_at marks u)) (sym (t.same u there)) ∙ p.fitting (same ∙ is) u there;
    }

extreme_cost : (v : Net) (k c : ℕ) (marks : List Mark) (b : Bool) → FewCodes v k → extreme v k c marks b ≡ true → cost v (by_marks marks b) ≡ c
extreme_cost v k c marks b few h = cost_few v k (by_marks marks b) few ∙ eqb-true (cost_below v k (by_marks marks b)) c h

pub judge : (v : Net) (k c : ℕ) (marks : List Mark) → FewCodes v k → judged v k c marks ≡ true → Judged v c marks
judge v k c marks few h =
    let (all, ends) = and_parts (eqb (length marks) v.graph.nodes && all_pass v.graph.nodes (passes v k c marks)) (extreme v k c marks false && extreme v k c marks true) h in
    let (long, each) = and_parts (eqb (length marks) v.graph.nodes) (all_pass v.graph.nodes (passes v k c marks)) all in
    let (lower, upper) = and_parts (extreme v k c marks false) (extreme v k c marks true) ends in
    let at_each : (X : Selection) → Passed v c marks X = λ X. each_passed v k c marks X few each in
    record {
      counted = eqb-true (length marks) v.graph.nodes long;
      extremes = λ b. elim b as (λ x. cost v (by_marks marks x) ≡ c) [ false ↦ extreme_cost v k c marks false few lower | true ↦ extreme_cost v k c marks true few upper ];
      least = λ X. (at_each X).least;
      fitting = λ X. (at_each X).fitting;
    }

-- the nodes that marks tell are a cheapest selection
extreme_cheapest : (v : Net) (c : ℕ) (marks : List Mark) (b : Bool) → Judged v c marks → Cheapest v (by_marks marks b)
extreme_cheapest v c marks b j X = omega (arith, j.extremes b, j.least X)

pub judged_cost : (v : Net) (c : ℕ) (marks : List Mark) → Judged v c marks → CheapestCost v c
judged_cost v c marks j = (by_marks marks true, extreme_cheapest v c marks true j, j.extremes true)

-- a node has the mark that it was judged to have
judged_mark : (v : Net) (c u : ℕ) (marks : List Mark) (m : Mark) → Judged v c marks → u < v.graph.nodes → mark_at marks u ≡ m → Marked v u m
judged_mark v c u marks m j there is = by m is
  where
    fitting : (m : Mark) → mark_at marks u ≡ m → (X : Selection) → Cheapest v X → fits m (X u) ≡ true
    fitting m is X cheapest = subst (λ k. fits k (X u) ≡ true) is (j.fitting X (omega (arith, cheapest (by_marks marks true), j.extremes true, j.least X)) u there)

    by : (m : Mark) → mark_at marks u ≡ m → Marked v u m
    by In is = fitting In is
    by Out is = λ X cheapest. not-true (X u) (fitting Out is X cheapest)
    by Either is = (
      (by_marks marks true, extreme_cheapest v c marks true j, ap (inside true) is),
      (by_marks marks false, extreme_cheapest v c marks false j, ap (inside false) is),
    )

pub judged_marks : (v : Net) (c : ℕ) (marks : List Mark) → Judged v c marks → AllMarked v marks
judged_marks v c marks j = (j.counted, λ u m at. judged_mark v c u marks m j (omega (arith, slice_get_within marks u m at, j.counted)) (get_or_from_slice_get marks u m Out at))
