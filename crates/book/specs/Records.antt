-- How a record is changed.
use Rattle.std.specs.Prelude.{ℕ, ◌+◌, ◌*◌, ◌/◌, ◌%◌, ◌^◌, [], ◌∷◌, List, take, slice_set}
use Rattle.network.specs.declared.terminal.Terminal.{Terminal}
use Rattle.network.specs.declared.terminal.Terminal.TheVariants.{Source, Sink}
use Rattle.book.specs.declared.record.Record.{Record}

-- an entry of these amounts, without needs
abbrev pub as_entry : ℕ → ℕ → Record
as_entry x y = record { earning = x; cost = y; needed = 0 ∷ 0 ∷ 0 ∷ 0 ∷ []; needs_or_index = 0; arcs_or_head = 0 }

-- what can be sent along an arc: the low 32 bits, and the others
abbrev pub residual_of : Record → ℕ
residual_of r = r.earning + 2 ^ 32 * r.cost

-- an arc of another residual
abbrev pub with_residual : Record → ℕ → Record
with_residual r x = record r { earning = x % 2 ^ 32; cost = x / 2 ^ 32 }

-- an arc that leads to h, and an empty place of the index
abbrev pub as_arc : Record → ℕ → ℕ → Record
as_arc r h x = with_residual (record r { needs_or_index = 0; arcs_or_head = h }) x

-- the entries that an entry needs
abbrev pub needed_of : Record → List ℕ
needed_of r = take r.needs_or_index r.needed

-- an entry that needs one more, with the arc to it
abbrev pub needing : Record → ℕ → Record
needing r w = record r { needed = slice_set r.needed r.needs_or_index w; needs_or_index = r.needs_or_index + 1; arcs_or_head = r.arcs_or_head + 1 }

-- an entry that one arc more leaves
abbrev pub with_arc_more : Record → Record
with_arc_more r = record r { arcs_or_head = r.arcs_or_head + 1 }

-- what an entry has at a terminal
abbrev pub amount_of : Record → Terminal → ℕ
amount_of r Source = r.earning
amount_of r Sink = r.cost

-- an entry that has another amount there
abbrev pub with_amount : Record → Terminal → ℕ → Record
with_amount r Source x = record r { earning = x }
with_amount r Sink x = record r { cost = x }

-- an entry whose arcs begin at another place of the index
abbrev pub with_first : Record → ℕ → Record
with_first r k = record r { needs_or_index = k }

-- a place of the index where the arc a stands
abbrev pub with_place : Record → ℕ → Record
with_place r a = record r { needs_or_index = a }
