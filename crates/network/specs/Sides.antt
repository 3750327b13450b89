-- What is reached from a terminal along arcs of positive residual, and the selections that nothing can be sent out of.
use Rattle.std.specs.Prelude.{◌≡◌, ℕ, ◌<◌, Bool, true, false, not, Some, ◌≢◌}
use Rattle.network.specs.declared.mark.Mark.{Mark}
use Rattle.network.specs.declared.mark.Mark.TheVariants.{In, Out, Either}
use Rattle.network.specs.declared.terminal.Terminal.{Terminal}
use Rattle.network.specs.declared.terminal.Terminal.TheVariants.{Source, Sink}
use Rattle.network.specs.Nets.{Ends, Net}
use Rattle.network.specs.Cuts.{Selection}

-- an arc's two ends as a search meets them: from the source it goes from tail to head, from the sink from head to tail
abbrev pub near : Terminal → Ends → ℕ
near Source e = e.tail
near Sink e = e.head

abbrev pub far : Terminal → Ends → ℕ
far Source e = e.head
far Sink e = e.tail

-- something can be sent from the source to u, or from u to the sink
pub data Reached (v : Net) (t : Terminal) : ℕ → Type 0 where
  root : {u : ℕ} → u < v.graph.nodes → 0 < v.terminal t u → Reached v t u
  along : {u : ℕ} (a : ℕ) (e : Ends) → v.graph.ends a ≡ Some e → 0 < v.residual a → Reached v t (near t e) → far t e ≡ u → Reached v t u

-- S holds exactly the nodes that are reached from t
pub record ReachedSet (v : Net) (t : Terminal) (S : Selection) : Type 0 where
  pub sound : (u : ℕ) → u < v.graph.nodes → S u ≡ true → Reached v t u
  pub complete : (u : ℕ) → Reached v t u → S u ≡ true

-- the sets that are reached from the two terminals, with no node in both
pub record Separate (v : Net) (S : Terminal → Selection) : Type 0 where
  pub reached : (t : Terminal) → ReachedSet v t (S t)
  pub apart : (u : ℕ) → u < v.graph.nodes → S Source u ≡ true → S Sink u ≢ true

-- the nodes that a cut has on the side of t: the source's are those inside the selection, the sink's those outside
abbrev pub side : Terminal → Selection → Selection
side Source X = X
side Sink X = λ u. not (X u)

-- nothing can be sent from the source's side of X to the sink's
pub record Closed (v : Net) (X : Selection) : Type 0 where
  pub roots : (t : Terminal) (u : ℕ) → u < v.graph.nodes → 0 < v.terminal t u → side t X u ≡ true
  pub arcs : (a : ℕ) (e : Ends) → v.graph.ends a ≡ Some e → 0 < v.residual a → X e.tail ≡ true → X e.head ≡ true

-- the mark of a node by the sets that are reached from the source and from the sink
abbrev pub mark_by : Bool → Bool → Mark
mark_by true _ = In
mark_by false true = Out
mark_by false false = Either
