-- What a write to one record changes of what a table tells: the changes by name.
use Rattle.std.specs.Prelude.{ℕ, ◌+◌, ◌-◌, [], ◌∷◌, ◌++◌}
use Rattle.network.specs.declared.terminal.Terminal.{Terminal}
use Rattle.network.specs.declared.terminal.Terminal.TheVariants.{Source, Sink}
use Rattle.network.specs.Nets.{at}
use Rattle.book.specs.Tables.{Columns}

-- u is an entry of these amounts, without needs and arcs
abbrev pub with_entry_at : Columns → ℕ → ℕ → ℕ → Columns
with_entry_at c u x y = record c { earning = at c.earning u x; cost = at c.cost u y; needed = at c.needed u []; needs_or_first = at c.needs_or_first u 0; space = at c.space u 4; arcs = at c.arcs u 0 }

-- arc a leads to h, has this residual, and is an empty place of the index
abbrev pub with_arc : Columns → ℕ → ℕ → ℕ → Columns
with_arc c a h r = record c { head = at c.head a h; residual = at c.residual a r; code = at c.code a 0 }

-- u needs w too, and has one arc more
abbrev pub with_needed : Columns → ℕ → ℕ → Columns
with_needed c u w = record c { needed = at c.needed u (c.needed u ++ w ∷ []); needs_or_first = at c.needs_or_first u (c.needs_or_first u + 1); arcs = at c.arcs u (c.arcs u + 1) }

-- u has so many arcs
abbrev pub with_arcs : Columns → ℕ → ℕ → Columns
with_arcs c u k = record c { arcs = at c.arcs u k }

-- u has another amount at a terminal
abbrev pub with_amount_at : Columns → Terminal → ℕ → ℕ → Columns
with_amount_at c Source u x = record c { earning = at c.earning u x }
with_amount_at c Sink u x = record c { cost = at c.cost u x }

-- arc a has another residual
abbrev pub with_residual_at : Columns → ℕ → ℕ → Columns
with_residual_at c a x = record c { residual = at c.residual a x }

-- x is moved from the residual of arc a to that of arc b
abbrev pub with_moved : Columns → ℕ → ℕ → ℕ → Columns
with_moved c a b x = with_residual_at (with_residual_at c a (c.residual a - x)) b (c.residual b + x)
