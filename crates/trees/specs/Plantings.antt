-- Which nodes hang from the terminals themselves.
use Rattle.std.specs.Prelude.{ℕ, ◌<◌, cond, Some, None, Option, nat_lt}
use Rattle.network.specs.declared.terminal.Terminal.{Terminal}
use Rattle.network.specs.declared.terminal.Terminal.TheVariants.{Source, Sink}
use Rattle.network.specs.Nets.{Net}

-- no node below k has a residual at both terminals
abbrev pub ApartBelow : Net → ℕ → Type 0
ApartBelow v k = (u : ℕ) → u < k → 0 < v.terminal Source u → 0 < v.terminal Sink u → ⊥

-- and no node at all has
abbrev pub Apart : Net → Type 0
Apart v = ApartBelow v v.graph.nodes

-- the terminal at which a node has a residual; the source, if it has one at both
abbrev pub root_tree : Net → ℕ → Option Terminal
root_tree v u = cond (nat_lt 0 (v.terminal Source u)) (Some Source) (cond (nat_lt 0 (v.terminal Sink u)) (Some Sink) None)
