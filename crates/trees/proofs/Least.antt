-- The smallest of the residuals on the way, one arc after another.
use Rattle.std.proofs.Common.{◌≡◌, ℕ, ◌+◌, ◌<◌, ◌≤◌, min, List, [], ◌∷◌, ◌++◌, map, length, get_or, take, refl, subst, ⊎_elim, arith}
use Rattle.std.proofs.ByRecursion.{has_append_left, has_push, has_push_cases, All-weaker}
use Rattle.std.proofs.lemmas.List.{map_more}
use Rattle.std.proofs.lemmas.Bool.{cases_lt}
use Rattle.std.specs.List.{ContainsAt, AllByRecursion}
use Rattle.network.specs.declared.terminal.Terminal.TheVariants.{Source, Sink}
use Rattle.network.specs.Nets.{Net}
use Rattle.network.specs.Paths.{Smallest}
use Rattle.trees.specs.Climbs.{residuals}

min_either : (P : ℕ → Type 0) (x y : ℕ) → P x → P y → P (min x y)
min_either P x y p q = ⊎_elim
    (λ (less : x < y). subst P (omega arith) p)
    (λ (more : y ≤ x). subst P (omega arith) q)
    (cases_lt x y)

smallest_two : (x y : ℕ) → Smallest (min x y) (x ∷ y ∷ [])
smallest_two x y = record {
  among = min_either (ContainsAt (x ∷ y ∷ [])) x y (0, omega arith, λ d. refl) (1, omega arith, λ d. refl);
  least = (omega arith, (omega arith, tt));
}

all_between : (P : ℕ → Type 0) (xs : List ℕ) (r y : ℕ) → P r → AllByRecursion P (xs ++ y ∷ []) → AllByRecursion P ((xs ++ r ∷ []) ++ y ∷ [])
all_between P [] r y new all = (new, all)
all_between P (x ∷ xs) r y new (first, all) = (first, all_between P xs r y new all)

-- one number more, before the last
smallest_between : (m r y : ℕ) (xs : List ℕ) → Smallest m (xs ++ y ∷ []) → Smallest (min m r) ((xs ++ r ∷ []) ++ y ∷ [])
smallest_between m r y xs s = record {
  among = min_either (ContainsAt all) m r old new;
  least = all_between (λ x. min m r ≤ x) xs r y (omega arith) (All-weaker (λ x. m ≤ x) (λ x. min m r ≤ x) (λ x less. omega arith) (xs ++ y ∷ []) s.least);
}
  where
    all : List ℕ
    all = (xs ++ r ∷ []) ++ y ∷ []

    new : ContainsAt all r
    new = has_append_left (xs ++ r ∷ []) (y ∷ []) r (has_push xs r)

    old : ContainsAt all m
    old = ⊎_elim
        (λ (h : ContainsAt xs m). has_append_left (xs ++ r ∷ []) (y ∷ []) m (has_append_left xs (r ∷ []) m h))
        (λ (is : y ≡ m). subst (ContainsAt all) is (has_push (xs ++ r ∷ []) y))
        (has_push_cases xs y m s.among)

pub least_none : (v : Net) (first last : ℕ) (arcs : List ℕ) → Smallest (min (v.terminal Source first) (v.terminal Sink last)) (residuals v first (take 0 arcs) last)
least_none v first last arcs = smallest_two (v.terminal Source first) (v.terminal Sink last)

pub least_more : (v : Net) (first last : ℕ) (arcs : List ℕ) (i m : ℕ) → i < length arcs → Smallest m (residuals v first (take i arcs) last) → Smallest (min m (v.residual (get_or arcs i 0))) (residuals v first (take (i + 1) arcs) last)
least_more v first last arcs i m inside s =
    let r = v.residual (get_or arcs i 0) in
    let source = v.terminal Source first in
    let sink = v.terminal Sink last in
    rw (map_more v.residual arcs i 0 inside) (smallest_between m r sink (source ∷ map v.residual (take i arcs)) s)
