-- Going through the places of a node: what holds of the arc at each place holds of every arc.
use Rattle.std.proofs.Common.{◌≡◌, ℕ, ◌+◌, ◌<◌, ◌≤◌, length, Some, None, sym, subst₂, ⊎_elim, arith}
use Rattle.std.proofs.lemmas.Bool.{cases_eq}
use Rattle.std.specs.List.{slice_get}
use Rattle.network.specs.declared.terminal.Terminal.{Terminal}
use Rattle.network.specs.declared.terminal.Terminal.TheVariants.{Source, Sink}
use Rattle.network.specs.Nets.{Ends, Graph, LawfulGraph, reversed}
use Rattle.network.specs.Sides.{near}
use Rattle.network.proofs.Lists.{all_by_nth, nth_before}
use Rattle.network.proofs.Pigeons.{pigeons}
use Rattle.network.proofs.Laws.{reverse_once}

-- the one of an arc and its reverse that stands at a place of the near end
abbrev pub standing : Terminal → ℕ → Ends → ℕ
standing Source a e = a
standing Sink a e = e.reverse

-- P holds of the arcs out of u, as the tree of t grows, at the places below k
abbrev pub Through : Graph → Terminal → ℕ → ℕ → (ℕ → Ends → Type 0) → Type 0
Through g t u k P = (j a : ℕ) (e : Ends) → j < k → g.ends a ≡ Some e → near t e ≡ u → slice_get (g.arcs u) j ≡ Some (standing t a e) → P a e

-- where the one of two arcs and their reverses stands, there stands one arc
same_arc : (g : Graph) (t : Terminal) (a b : ℕ) (e d : Ends) → LawfulGraph g → g.ends a ≡ Some e → g.ends b ≡ Some d → standing t a e ≡ standing t b d → a ≡ b
same_arc g Source a b e d l at_a at_b same = same
same_arc g Sink a b e d l at_a at_b same = reverse_once g a b e d l at_a at_b same

-- one place more
pub through_next : (g : Graph) (t : Terminal) (u k b : ℕ) (d : Ends) (P : ℕ → Ends → Type 0) → LawfulGraph g → g.ends b ≡ Some d → slice_get (g.arcs u) k ≡ Some (standing t b d) → Through g t u k P → P b d → Through g t u (k + 1) P
through_next g t u k b d P l at_b place before this j a e below is from at = ⊎_elim
    (λ (now : j ≡ k).
    let arc = same_arc g t a b e d l is at_b (cc) in
    let ends : d ≡ e = cc in
    subst₂ P (sym arc) ends this)
    (λ (not : j ≡ k → ⊥). before j a e (omega arith) is from at)
    (cases_eq j k)

placed_at : (g : Graph) (t : Terminal) (a : ℕ) (e : Ends) → LawfulGraph g → g.ends a ≡ Some e → (k : ℕ) × (slice_get (g.arcs (near t e)) k ≡ Some (standing t a e))
placed_at g Source a e l is = l.placed a e is
placed_at g Sink a e l is = l.placed e.reverse (reversed a e) (l.back a e is)

-- past the last place, every arc has been seen
pub through_all : (g : Graph) (t : Terminal) (u k : ℕ) (P : ℕ → Ends → Type 0) → LawfulGraph g → slice_get (g.arcs u) k ≡ None → Through g t u k P → (a : ℕ) (e : Ends) → g.ends a ≡ Some e → near t e ≡ u → P a e
through_all g t u k P l past seen a e is from =
    let (j, at) = placed_at g t a e l is in
    seen j a e (nth_before (g.arcs u) j k (standing t a e) past (cc)) is from (cc)

-- codes are small and each stands once, so places are few
pub few_places : (g : Graph) (u : ℕ) → LawfulGraph g → u < g.nodes → length (g.arcs u) ≤ 32768
few_places g u l there = pigeons 32768 (g.arcs u) (all_by_nth (λ a. a < 32768) (g.arcs u) (λ k a at. let (e, is, _) = l.own u k a there at in l.small_code a e is)) (l.once u there)
