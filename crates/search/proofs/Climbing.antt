-- One step of a climb after another, from a node of a settled tree to the terminal, and what is told of a path.
use Rattle.std.proofs.Common.{◌≡◌, ℕ, ◌+◌, ◌<◌, List, [], ◌∷◌, ◌++◌, length, set, Some, sym, refl, ap, ◌∙◌, subst, arith}
use Rattle.std.proofs.lemmas.List.{length-append, length_push}
use Rattle.network.specs.declared.terminal.Terminal.{Terminal}
use Rattle.network.specs.Nets.{Net}
use Rattle.network.specs.Paths.{Smallest}
use Rattle.trees.specs.declared.work.Parent.TheVariants.{Along}
use Rattle.trees.specs.Forests.{Forest}
use Rattle.trees.specs.Trees.{Climb}
use Rattle.trees.specs.Trees.Climb.{here}
use Rattle.trees.specs.Climbs.{Settled, ClimbsFit, Written, residuals, Passable}
use Rattle.trees.proofs.Climbs.{climb_push}
use Rattle.trees.proofs.Writing.{written_push}
use Rattle.search.specs.declared.tracing.Hop.{Hop}
use Rattle.search.specs.declared.tracing.Traced.{Traced}
use Rattle.search.specs.declared.tracing.Way.{Way}
use Rattle.search.specs.Tracings.{Hops, PathWritten}

pub hung_from : {v : Net} {f : Forest} {t : Terminal} {u above : ℕ} (a : ℕ) → Settled v f → u < v.graph.nodes → f.tree u ≡ Some t → f.parent u ≡ Along a above → Hops v.graph f.parent t u (Some (record { arc = a; node = above }))
hung_from {t = t} {u = u} {above = above} a s there in_tree hung =
    let (e, b, from) = s.trees.parents t u a above there in_tree hung in
    (hung, e, b.ends, from)

-- the climb so far, its arcs written over the beginning of a list
pub record Rising (v : Net) (f : Forest) (t : Terminal) (u : ℕ) (before after : List ℕ) (steps at : ℕ) : Type 0 where
  pub arcs : List ℕ
  pub climb : Climb v.graph f.parent t u at arcs
  pub count : steps ≡ length arcs
  pub written : Written before after arcs

pub rising_none : (v : Net) (f : Forest) (t : Terminal) (u : ℕ) (before : List ℕ) → Rising v f t u before before 0 u
rising_none v f t u before = record { arcs = []; climb = here; count = refl; written = refl }

-- the climb with one step more
next_climb : (v : Net) (f : Forest) (t : Terminal) (u at : ℕ) (arcs : List ℕ) (h : Hop) → Climb v.graph f.parent t u at arcs → Hops v.graph f.parent t at (Some h) → Climb v.graph f.parent t u h.node (arcs ++ h.arc ∷ [])
next_climb v f t u at arcs h c (hung, e, is, above) =
    rw (← above) (climb_push v.graph f.parent t u at arcs h.arc e c (rw above hung) is)

pub rising_fits : {v : Net} {f : Forest} {t : Terminal} {u : ℕ} {before after : List ℕ} {steps at : ℕ} (h : Hop) → ClimbsFit v.graph f.parent t u (length before) → Hops v.graph f.parent t at (Some h) → Rising v f t u before after steps at → steps < length before
rising_fits {v = v} {f = f} {t = t} {u = u} {at = at} h fit hop r =
    omega (arith, fit h.node (r.arcs ++ h.arc ∷ []) (next_climb v f t u at r.arcs h r.climb hop), length-append r.arcs (h.arc ∷ []), r.count)

pub rising_more : {v : Net} {f : Forest} {t : Terminal} {u : ℕ} {before after : List ℕ} {steps at : ℕ} (h : Hop) → ClimbsFit v.graph f.parent t u (length before) → Hops v.graph f.parent t at (Some h) → Rising v f t u before after steps at → Rising v f t u before (set after steps h.arc) (steps + 1) h.node
rising_more {v = v} {f = f} {t = t} {u = u} {before = before} {after = after} {steps = steps} {at = at} h fit hop r =
    let room = rising_fits h fit hop r in
    record {
      arcs = r.arcs ++ h.arc ∷ [];
      climb = next_climb v f t u at r.arcs h r.climb hop;
      count = omega (arith, length_push r.arcs h.arc, r.count);
      written = written_push before after r.arcs steps h.arc r.count room r.written;
    }

-- what is told of the path over a bridge
pub traced : (v : Net) (f : Forest) (before after : List ℕ) (w : Way) (arcs : List ℕ) (x : ℕ) → w.count ≡ length arcs → Passable v f w.first w.last arcs → Smallest x (residuals v w.first arcs w.last) → Written before after (w.count ∷ x ∷ w.first ∷ arcs) → PathWritten v f before after (record { arcs = w.count; amount = x; first = w.first; last = w.last })
traced v f before after w arcs x is way least written =
    let u = w.first in (
      record { amount = x; first = u; arcs = arcs },
      record {
        augmenting = way.augmenting x (rw way.to least);
        onward = way.onward;
        written = subst (λ k. Written before after (k ∷ x ∷ u ∷ arcs)) is written;
        told = ap (λ k. traced_as k w.last) is ∙ ap (traced_as (length arcs)) (sym way.to);
      },
    )
  where
    traced_as : ℕ → ℕ → Traced
    traced_as k z = record { arcs = k; amount = x; first = w.first; last = z }
