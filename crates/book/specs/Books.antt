-- What a book holds, and the network that it makes.
use Rattle.std.specs.Prelude.{ℕ, ◌+◌, ◌-◌, ◌*◌, ◌/◌, ◌%◌, cond, List, [], ◌∷◌, ◌++◌, map, length, get_or, Some, None, filter, ◌==◌, nat_eq, nat_lt, slice_index_or}
use Rattle.std.specs.List.{range_with_len}
use Rattle.network.specs.declared.terminal.Terminal.{Terminal}
use Rattle.network.specs.declared.terminal.Terminal.TheVariants.{Source, Sink}
use Rattle.network.specs.Nets.{Graph, Net}

-- what an entry earns and what it costs
pub record Amounts : Type 0 where
  pub earning : ℕ
  pub cost : ℕ

-- an entry requires another
pub record Need : Type 0 where
  pub entry : ℕ
  pub needed : ℕ

-- the entries in order of their numbers, from 0, and the needs in the order of entering
pub record Book : Type 0 where
  pub entries : List Amounts
  pub needs : List Need

-- a new book
abbrev pub empty : Book
empty = record { entries = []; needs = [] }

-- b with one entry more
abbrev pub with_entry : Book → ℕ → ℕ → Book
with_entry b x y = record { entries = b.entries ++ record { earning = x; cost = y } ∷ []; needs = b.needs }

-- b with one need more
abbrev pub with_need : Book → ℕ → ℕ → Book
with_need b u w = record { entries = b.entries; needs = b.needs ++ record { entry = u; needed = w } ∷ [] }

-- the entries that u needs, in the order of entering
abbrev pub needs_of : ℕ → List Need → List ℕ
needs_of u ns = map (λ x. x.needed) (filter (λ x. nat_eq x.entry u) ns)

-- what an entry has at a terminal: its earning at the source, its cost at the sink
abbrev pub amount : Terminal → Amounts → ℕ
amount Source x = x.earning
amount Sink x = x.cost

-- what stands where a list has nothing
abbrev pub no_amounts : Amounts
no_amounts = record { earning = 0; cost = 0 }

abbrev pub no_need : Need
no_need = record { entry = 0; needed = 0 }

-- the codes 2i and 2i + 1 belong together: each is the other's reverse
abbrev pub mate : ℕ → ℕ
mate a = cond (a % 2 == 0) (a + 1) (a - 1)

-- the arcs of a node among m pairs, by the heads of the arcs: the tail of an arc is the head of its reverse, and they stand in order of
-- their codes
abbrev pub arcs_from : ℕ → (ℕ → ℕ) → ℕ → List ℕ
arcs_from m head u = filter (λ a. nat_eq (head (mate a)) u) (range_with_len 0 (2 * m))

-- the graph of n nodes and m pairs of arcs, by the heads of the arcs
abbrev pub paired : ℕ → ℕ → (ℕ → ℕ) → Graph
paired n m head = record {
  nodes = n;
  arcs = arcs_from m head;
  ends = λ a. cond (nat_lt a (2 * m)) (Some (record { tail = head (mate a); head = head a; reverse = mate a })) None;
}

-- need i has two arcs: 2i, from the entry to the one that it needs, and 2i + 1, back
abbrev pub need_head : List Need → ℕ → ℕ
need_head ns a = cond (a % 2 == 0) (get_or ns (a / 2) no_need).needed (get_or ns (a / 2) no_need).entry

-- what can be sent along a need: more than all earnings together
abbrev pub binding : ℕ
binding = 8000000000

-- the network of a book: a node for each entry, its earning from the source, its cost to the sink, and an arc along each need, with
-- a reverse along which nothing can be sent yet
abbrev pub network_of : Book → Net
network_of b = record {
  graph = paired (length b.entries) (length b.needs) (need_head b.needs);
  terminal = λ t u. amount t (slice_index_or b.entries u no_amounts);
  residual = λ a. cond (nat_lt a (2 * length b.needs)) (cond (a % 2 == 0) binding 0) 0;
}
