-- What the laws say of arcs and their ends, what take and shift change, and that accepted ones keep the laws.
use Rattle.std.proofs.Common.{◌≡◌, ℕ, ◌+◌, ◌-◌, ◌<◌, ◌≤◌, Some, None, Option, refl, ap, arith}
use Rattle.std.proofs.lemmas.Bool.{cases_eq}
use Rattle.std.proofs.lemmas.Bool.Decides.{nat_tests}
use Rattle.std.specs.Option.{unwrap_or}
use Rattle.std.specs.List.{slice_get}
use Rattle.network.specs.declared.terminal.Terminal.{Terminal}
use Rattle.network.specs.declared.terminal.Terminal.TheVariants.{Source, Sink}
use Rattle.network.specs.Nets.{Ends, Graph, Net, LawfulGraph, Lawful, reversed, ends_of, at, taken, shifted, reverse_of}
use Rattle.network.specs.Sides.{near, far}

at_le : (f : ℕ → ℕ) (u x k : ℕ) → x ≤ f u → at f u x k ≤ f k
at_le f u x k less = grind (arith, nat_tests)

-- a take raises no terminal residual
pub taken_le : (v : Net) (t s : Terminal) (u x w : ℕ) → (taken v t u x).terminal s w ≤ v.terminal s w
taken_le v Source Source u x w = at_le (v.terminal Source) u (v.terminal Source u - x) w (omega arith)
taken_le v Source Sink u x w = omega arith
taken_le v Sink Source u x w = omega arith
taken_le v Sink Sink u x w = at_le (v.terminal Sink) u (v.terminal Sink u - x) w (omega arith)

pub taken_lawful : (v : Net) (t : Terminal) (u x : ℕ) → Lawful v → Lawful (taken v t u x)
taken_lawful v t u x l = record {
  graph = l.graph;
  small = λ s w there. omega (arith, taken_le v t s u x w, l.small s w there);
  small_pair = l.small_pair;
}

pub ends_are : (g : Graph) (a : ℕ) (e : Ends) → g.ends a ≡ Some e → ends_of g a ≡ e
ends_are g a e is = ap (λ (o : Option Ends). unwrap_or o (record { tail = 0; head = 0; reverse = a })) is

pub reverse_is : (g : Graph) (a : ℕ) (e : Ends) → g.ends a ≡ Some e → reverse_of g a ≡ e.reverse
reverse_is g a e is = ap (λ (x : Ends). x.reverse) (ends_are g a e is)

pub head_there : (g : Graph) (a : ℕ) (e : Ends) → LawfulGraph g → g.ends a ≡ Some e → e.head < g.nodes
head_there g a e l is = l.tail_there e.reverse (reversed a e) (l.back a e is)

-- both ends of an arc are there, as a search meets them, and its reverse has them exchanged
pub near_there : (g : Graph) (t : Terminal) (a : ℕ) (e : Ends) → LawfulGraph g → g.ends a ≡ Some e → near t e < g.nodes
near_there g Source a e l is = l.tail_there a e is
near_there g Sink a e l is = head_there g a e l is

pub far_there : (g : Graph) (t : Terminal) (a : ℕ) (e : Ends) → LawfulGraph g → g.ends a ≡ Some e → far t e < g.nodes
far_there g Source a e l is = head_there g a e l is
far_there g Sink a e l is = l.tail_there a e is

pub near_reversed : (t : Terminal) (a : ℕ) (e : Ends) → near t (reversed a e) ≡ far t e
near_reversed Source a e = refl
near_reversed Sink a e = refl

pub far_reversed : (t : Terminal) (a : ℕ) (e : Ends) → far t (reversed a e) ≡ near t e
far_reversed Source a e = refl
far_reversed Sink a e = refl

-- the residuals after a shift: the arc's, its reverse's, and every other arc's
pub record Residuals (v : Net) (a b x : ℕ) : Type 0 where
  pub arc : (shifted v a x).residual a ≡ v.residual a - x
  pub back : (shifted v a x).residual b ≡ v.residual b + x
  pub others : (c : ℕ) → (c ≡ a → ⊥) → (c ≡ b → ⊥) → (shifted v a x).residual c ≡ v.residual c

pub residuals : (v : Net) (a x : ℕ) (e : Ends) → Lawful v → v.graph.ends a ≡ Some e → Residuals v a e.reverse x
residuals v a x e l is =
    let apart = l.graph.other a e is in
    let from = reverse_is v.graph a e is in
    record {
      arc = rw from (grind (arith, nat_tests));
      back = rw from (grind (arith, nat_tests));
      others = λ c p q. rw from (grind (arith, nat_tests));
    }

-- a code has the ends of one arc at most
pub one_ends : (g : Graph) (a : ℕ) (e d : Ends) → g.ends a ≡ Some e → g.ends a ≡ Some d → e ≡ d
one_ends g a e d p q = cc

-- the reverse's reverse is the arc, so arcs with the same reverse are the same
pub reverse_once : (g : Graph) (a b : ℕ) (e d : Ends) → LawfulGraph g → g.ends a ≡ Some e → g.ends b ≡ Some d → e.reverse ≡ d.reverse → a ≡ b
reverse_once g a b e d l at_a at_b same =
    let one : reversed a e ≡ reversed b d = cc (l.back a e at_a, l.back b d at_b) in
    ap (λ (y : Ends). y.reverse) one

-- a shift leaves the sum of an arc's residual and its reverse's
pub pair_kept : (v : Net) (a b x : ℕ) (e d : Ends) → Lawful v → v.graph.ends a ≡ Some e → v.graph.ends b ≡ Some d → x ≤ v.residual a → (shifted v a x).residual b + (shifted v a x).residual d.reverse ≡ v.residual b + v.residual d.reverse
pair_kept v a b x e d l at_a at_b less =
    let now = residuals v a x e l at_a in
    let back_a = l.graph.back a e at_a in
    let back_b = l.graph.back b d at_b in
    grind (arith, cases_eq b a, cases_eq b e.reverse, cases_eq d.reverse a, cases_eq d.reverse e.reverse, now.others b, now.others d.reverse)

pub shifted_lawful : (v : Net) (a x : ℕ) (e : Ends) → Lawful v → v.graph.ends a ≡ Some e → x ≤ v.residual a → Lawful (shifted v a x)
shifted_lawful v a x e l is less = record {
  graph = l.graph;
  small = l.small;
  small_pair = λ b d at_b. omega (arith, pair_kept v a b x e d l is at_b less, l.small_pair b d at_b);
}

-- an arc that stands at a place is there
pub not_missing : (v : Net) (u k a : ℕ) → Lawful v → u < v.graph.nodes → slice_get (v.graph.arcs u) k ≡ Some a → v.graph.ends a ≡ None → ⊥
not_missing v u k a l there at none =
    let (e, is, from) = l.graph.own u k a there at in
    cc
