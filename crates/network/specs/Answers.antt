-- What a network answers to each question and change, refusals with it, and its value afterwards.
use Rattle.std.specs.Prelude.{ℕ, cond, Some, None, Ok, Err, Option, Result, nat_le, nat_lt}
use Rattle.std.specs.List.{slice_get}
use Rattle.std.specs.Option.{option_map}
use Rattle.network.specs.declared.arc.Arc.{Arc}
use Rattle.network.specs.declared.refusal.NetworkRefusal.{NetworkRefusal}
use Rattle.network.specs.declared.refusal.NetworkRefusal.TheVariants.{NoNode, NoArc, AboveResidual}
use Rattle.network.specs.declared.terminal.Terminal.{Terminal}
use Rattle.network.specs.Nets.{Ends, Net, taken, shifted}

-- x, where the node is there
abbrev pub at_node : {A : Type 0} → Net → ℕ → A → Result A NetworkRefusal
at_node v u x = cond (nat_lt u v.graph.nodes) (Ok x) (Err NoNode)

abbrev pub terminal_answer : Net → Terminal → ℕ → Result ℕ NetworkRefusal
terminal_answer v t u = at_node v u (v.terminal t u)

abbrev pub place_answer : Net → ℕ → ℕ → Result (Option ℕ) NetworkRefusal
place_answer v u k = at_node v u (slice_get (v.graph.arcs u) k)

-- the arc of a code that has these ends, told with what can be sent along it and back
abbrev pub arc_with : Net → ℕ → Ends → Arc
arc_with v a e = record { code = a; head = e.head; reverse = e.reverse; residual = v.residual a; back = v.residual e.reverse }

-- the arc of a code, told whole; none where the code has no ends, which no place of a lawful network has
abbrev pub whole : Net → Option ℕ → Option Arc
whole v None = None
whole v (Some a) = option_map (arc_with v a) (v.graph.ends a)

abbrev pub arc_answer : Net → ℕ → ℕ → Result (Option Arc) NetworkRefusal
arc_answer v u k = at_node v u (whole v (slice_get (v.graph.arcs u) k))

-- f of the arc's ends, where the arc is there
abbrev pub at_arc : {A : Type 0} → (Ends → Result A NetworkRefusal) → Option Ends → Result A NetworkRefusal
at_arc f None = Err NoArc
at_arc f (Some e) = f e

abbrev pub ends_answer : Net → ℕ → Result (ℕ × ℕ × ℕ) NetworkRefusal
ends_answer v a = at_arc (λ e. Ok (e.tail, e.head, e.reverse)) (v.graph.ends a)

abbrev pub residual_answer : Net → ℕ → Result ℕ NetworkRefusal
residual_answer v a = at_arc (λ _. Ok (v.residual a)) (v.graph.ends a)

-- what a change answers that is accepted
abbrev pub done : Result (Unit {0}) NetworkRefusal
done = Ok tt

-- whether an amount is at most a residual
abbrev pub within : ℕ → ℕ → Result (Unit {0}) NetworkRefusal
within x r = cond (nat_le x r) done (Err AboveResidual)

abbrev pub take_answer : Net → Terminal → ℕ → ℕ → Result (Unit {0}) NetworkRefusal
take_answer v t u x = cond (nat_lt u v.graph.nodes) (within x (v.terminal t u)) (Err NoNode)

abbrev pub shift_answer : Net → ℕ → ℕ → Result (Unit {0}) NetworkRefusal
shift_answer v a x = at_arc (λ _. within x (v.residual a)) (v.graph.ends a)

-- w after an accepted change, v after a refused one
abbrev pub after : Result (Unit {0}) NetworkRefusal → Net → Net → Net
after (Ok _) w v = w
after (Err _) w v = v

abbrev pub after_take : Net → Terminal → ℕ → ℕ → Net
after_take v t u x = after (take_answer v t u x) (taken v t u x) v

abbrev pub after_shift : Net → ℕ → ℕ → Net
after_shift v a x = after (shift_answer v a x) (shifted v a x) v
