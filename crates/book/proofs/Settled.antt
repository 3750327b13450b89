-- What a sealed book answers, and what holds of it after a take and after a shift.
use Rattle.std.proofs.Common.{◌≡◌, ℕ, ◌+◌, ◌-◌, ◌*◌, ◌/◌, ◌%◌, ◌<◌, ◌≤◌, List, length, set, Some, None, Ok, sym, refl, ap, ◌∙◌, subst, ⊎_elim, arith}
use Rattle.std.specs.List.{slice_get}
use Rattle.std.proofs.lemmas.Bool.{cases_eq, eq-eqb, ne_eqb, lt-ltb, le-leb}
use Rattle.std.proofs.lemmas.Bool.Decides.{nat_tests}
use Rattle.std.proofs.lemmas.List.FromFn.{length-map-range_with_len, get_or-map-range_with_len}
use Rattle.std.proofs.lemmas.Option.{slice_get-get_or, slice_get_past}
use Rattle.network.specs.declared.terminal.Terminal.{Terminal}
use Rattle.network.specs.declared.terminal.Terminal.TheVariants.{Source, Sink}
use Rattle.network.specs.Nets.{Net, with_terminal, taken, shifted}
use Rattle.network.specs.Answers.{at_arc, arc_with, arc_answer, done, take_answer, after_take, shift_answer, after_shift}
use Rattle.book.specs.declared.record.Record.{Record}
use Rattle.book.specs.declared.sealed.SealedBook.{SealedBook}
use Rattle.book.specs.Books.{amount, mate, binding}
use Rattle.book.specs.Records.{residual_of, amount_of, with_amount, with_residual}
use Rattle.book.specs.Tables.{Columns, columns, front, back, amounts_in, codes_from, arcs_of, network_in, SmallAmounts, HeadsThere, SmallPairs, Indexed, IndexInside}
use Rattle.book.specs.Values.{sealed_table, sealed_columns, sealed_value, sealed_lawful}
use Rattle.book.proofs.Changes.{with_amount_at, with_moved}
use Rattle.book.proofs.Keeping.{mate_below}
use Rattle.book.proofs.Writes.{entry_there, arc_there, columns_amount, moved_at, before_raised, columns_moved}

-- what holds of the columns of a sealed book
pub record Settled (c : Columns) (n m : ℕ) : Type 0 where
  pub amounts : SmallAmounts c n
  pub heads : HeadsThere c n m
  pub pairs : SmallPairs c m
  pub indexed : Indexed c n m
  pub inside : IndexInside c n m

pub settled : (b : SealedBook) → Settled (sealed_columns b) b.held.entries b.held.needs
settled b = record { amounts = b.held.amounts; heads = b.held.heads; pairs = b.pairs; indexed = b.indexed; inside = b.inside }

-- the arc at a place is the one that the index has there
placed : (c : Columns) (n m u k : ℕ) → Indexed c n m → u < n → k < c.arcs u → slice_get (arcs_of c m u) k ≡ Some (c.code (c.needs_or_first u + k))
placed c n m u k indexed there inside =
    let codes = codes_from c (c.needs_or_first u) (c.arcs u) in
    let long : length codes ≡ c.arcs u = length-map-range_with_len _ 0 (c.arcs u) in
    ap (λ (xs : List ℕ). slice_get xs k) (sym (indexed u there)) ∙ slice_get-get_or codes k 0 (omega arith) ∙ ap Some (get_or-map-range_with_len (λ j. c.code (c.needs_or_first u + j)) 0 (c.arcs u) k k 0 inside (omega arith))

placed_past : (c : Columns) (n m u k : ℕ) → Indexed c n m → u < n → c.arcs u ≤ k → slice_get (arcs_of c m u) k ≡ None
placed_past c n m u k indexed there past =
    let codes = codes_from c (c.needs_or_first u) (c.arcs u) in
    let long : length codes ≡ c.arcs u = length-map-range_with_len _ 0 (c.arcs u) in
    ap (λ (xs : List ℕ). slice_get xs k) (sym (indexed u there)) ∙ slice_get_past codes k (omega arith)

-- past the number of arcs that an entry's record has there is none
pub no_place : (b : SealedBook) (u k : ℕ) → u < b.held.entries → (front (sealed_table b) u).arcs_or_head ≤ k → slice_get (arcs_of (sealed_columns b) b.held.needs u) k ≡ None
no_place b u k there past = placed_past (sealed_columns b) b.held.entries b.held.needs u k b.indexed there (omega (arith, past, ap (λ (r : Record). r.arcs_or_head) (entry_there (sealed_table b) b.held.entries u there)))

-- its code, as the record of the place tells it
pub code_placed : (b : SealedBook) (u k : ℕ) → u < b.held.entries → k < (front (sealed_table b) u).arcs_or_head → let a = (back (sealed_table b) ((front (sealed_table b) u).needs_or_index + k)).needs_or_index in (slice_get (arcs_of (sealed_columns b) b.held.needs u) k ≡ Some a) × (a < 2 * b.held.needs)
code_placed b u k there inside =
    let table = sealed_table b in
    let n = b.held.entries in
    let m = b.held.needs in
    let c = sealed_columns b in
    let entry = entry_there table n u there in
    let arcs = ap (λ (r : Record). r.arcs_or_head) entry in
    let first = ap (λ (r : Record). r.needs_or_index) entry in
    let p = (front table u).needs_or_index + k in
    let place = arc_there table m p (omega (arith, b.inside u there, arcs, first)) in
    let is : slice_get (arcs_of c m u) k ≡ Some (back table p).needs_or_index = placed c n m u k b.indexed there (omega (arith, arcs)) ∙ ap (λ x. Some (c.code (x + k))) first ∙ ap (λ (r : Record). Some r.needs_or_index) place in
    let own = (sealed_lawful b).graph.own u k (back table p).needs_or_index there is in
    (is, grind (arith, nat_tests, own.1))

-- and its record and its reverse's tell the arc whole
pub whole_placed : (b : SealedBook) (u k : ℕ) → u < b.held.entries → k < (front (sealed_table b) u).arcs_or_head → let table = sealed_table b in let a = (back table ((front table u).needs_or_index + k)).needs_or_index in arc_answer (sealed_value b) u k ≡ Ok (Some (record { code = a; head = (back table a).arcs_or_head; reverse = mate a; residual = residual_of (back table a); back = residual_of (back table (mate a)) }))
whole_placed b u k there inside =
    let table = sealed_table b in
    let m = b.held.needs in
    let a = (back table ((front table u).needs_or_index + k)).needs_or_index in
    let is = code_placed b u k there inside in
    rw (lt-ltb u b.held.entries there, is.0, arc_with, lt-ltb a (2 * m) is.1, lt-ltb (mate a) (2 * m) (mate_below a m is.1)) refl

-- a take
pub settled_amount : (c : Columns) (n m : ℕ) (t : Terminal) (u x : ℕ) → Settled c n m → x ≤ amount t (amounts_in c u) → Settled (with_amount_at c t u x) n m
settled_amount c n m Source u x s less = record {
  amounts = λ k h. grind (arith, nat_tests, s.amounts k h);
  heads = s.heads;
  pairs = s.pairs;
  indexed = s.indexed;
  inside = s.inside;
}
settled_amount c n m Sink u x s less = record {
  amounts = λ k h. grind (arith, nat_tests, s.amounts k h);
  heads = s.heads;
  pairs = s.pairs;
  indexed = s.indexed;
  inside = s.inside;
}

pub value_amount : (c : Columns) (n m : ℕ) (t : Terminal) (u x : ℕ) → u < n → network_in (with_amount_at c t u x) n m ≡ with_terminal (network_in c n m) t u x
value_amount c n m Source u x there =
    let v = network_in (with_amount_at c Source u x) n m in
    let terminals : (s : Terminal) (k : ℕ) → v.terminal s k ≡ (with_terminal (network_in c n m) Source u x).terminal s k = λ s k. elim s as (λ (s : Terminal). v.terminal s k ≡ (with_terminal (network_in c n m) Source u x).terminal s k) [ Source ↦ grind (arith, nat_tests) | Sink ↦ grind (arith, nat_tests) ] in
    λ i. record { graph = v.graph; terminal = λ s k. terminals s k i; residual = v.residual }
value_amount c n m Sink u x there =
    let v = network_in (with_amount_at c Sink u x) n m in
    let terminals : (s : Terminal) (k : ℕ) → v.terminal s k ≡ (with_terminal (network_in c n m) Sink u x).terminal s k = λ s k. elim s as (λ (s : Terminal). v.terminal s k ≡ (with_terminal (network_in c n m) Sink u x).terminal s k) [ Source ↦ grind (arith, nat_tests) | Sink ↦ grind (arith, nat_tests) ] in
    λ i. record { graph = v.graph; terminal = λ s k. terminals s k i; residual = v.residual }

-- a shift
pub settled_moved : (c : Columns) (n m a x : ℕ) → Settled c n m → a < 2 * m → x ≤ c.residual a → Settled (with_moved c a (mate a) x) n m
settled_moved c n m a x s there less = record {
  amounts = s.amounts;
  heads = s.heads;
  pairs = λ i h. grind (arith, nat_tests, s.pairs i h);
  indexed = s.indexed;
  inside = s.inside;
}

pub value_moved : (c : Columns) (n m a x : ℕ) → a < 2 * m → network_in (with_moved c a (mate a) x) n m ≡ shifted (network_in c n m) a x
value_moved c n m a x there =
    let v = network_in (with_moved c a (mate a) x) n m in
    let residuals : (b : ℕ) → v.residual b ≡ (shifted (network_in c n m) a x).residual b = λ b. grind (arith, nat_tests) in
    λ i. record { graph = v.graph; terminal = v.terminal; residual = λ b. residuals b i }

mate_other : (a : ℕ) → a ≡ mate a → ⊥
mate_other a same = grind (arith, nat_tests)

pair_small : (c : Columns) (m a : ℕ) → SmallPairs c m → a < 2 * m → c.residual a + c.residual (mate a) ≤ binding
pair_small c m a pairs there = ⊎_elim
    (λ (even : a % 2 ≡ 0). let two : 2 * (a / 2) ≡ a = omega arith in let pair = pairs (a / 2) (omega arith) in rw (eq-eqb (a % 2) 0 even) (subst (λ k. c.residual k + c.residual (k + 1) ≤ binding) two pair))
    (λ (odd : a % 2 ≡ 0 → ⊥). let two : 2 * (a / 2) + 1 ≡ a = omega arith in let one : 2 * (a / 2) ≡ a - 1 = omega arith in let pair = pairs (a / 2) (omega arith) in rw (ne_eqb (a % 2) 0 odd) (omega (arith, ap c.residual two, ap c.residual one)))
    (cases_eq (a % 2) 0)

-- what a sealed book is after a change
pub record After (b : SealedBook) (v : Net) (new : List Record) : Type 0 where
  pub settled : Settled (columns new b.held.entries b.held.needs) b.held.entries b.held.needs
  pub value : network_in (columns new b.held.entries b.held.needs) b.held.entries b.held.needs ≡ v

after_columns : (b : SealedBook) (v : Net) (new : List Record) (c : Columns) → columns new b.held.entries b.held.needs ≡ c → Settled c b.held.entries b.held.needs → network_in c b.held.entries b.held.needs ≡ v → After b v new
after_columns b v new c is s value = record {
  settled = subst (λ (d : Columns). Settled d b.held.entries b.held.needs) (sym is) s;
  value = ap (λ (d : Columns). network_in d b.held.entries b.held.needs) is ∙ value;
}

-- what an entry has at a terminal is what its record has there
amount_there : (r : Record) (t : Terminal) → amount t (record { earning = r.earning; cost = r.cost }) ≡ amount_of r t
amount_there r Source = refl
amount_there r Sink = refl

-- r is the entry u, with x less
pub after_taken : (b : SealedBook) (t : Terminal) (u x : ℕ) {r : Record} → u < b.held.entries → x ≤ amount_of (front (sealed_table b) u) t → r ≡ with_amount (front (sealed_table b) u) t (amount_of (front (sealed_table b) u) t - x) → After b (after_take (sealed_value b) t u x) (set (sealed_table b) u r)
after_taken b t u x {r} there within made =
    let table = sealed_table b in
    let n = b.held.entries in
    let m = b.held.needs in
    let has = amount_of (front table u) t in
    let same = amount_there (front table u) t in
    let here : amount t (amounts_in (columns table n m) u) ≡ has = rw (lt-ltb u n there) same in
    let columns_are : columns (set table u r) n m ≡ with_amount_at (columns table n m) t u (has - x) = ap (λ (r : Record). columns (set table u r) n m) made ∙ columns_amount table n m t u (has - x) there b.held.room in
    let accepted : take_answer (sealed_value b) t u x ≡ done = rw (lt-ltb u n there, same, le-leb x has within) in
    let value : taken (sealed_value b) t u x ≡ with_terminal (sealed_value b) t u (has - x) = rw (lt-ltb u n there, same) in
    after_columns b _ _ _ columns_are (settled_amount (columns table n m) n m t u (has - x) (settled b) (omega arith)) (value_amount (columns table n m) n m t u (has - x) there ∙ sym value ∙ rw accepted)

-- an arc that is there, and its reverse
reversed_arc : (b : SealedBook) (a : ℕ) {k : ℕ} → Ok k ≡ at_arc (λ e. Ok e.reverse) ((sealed_value b).graph.ends a) → (a < 2 * b.held.needs) × (k ≡ mate a)
reversed_arc b a is = grind (arith, nat_tests)

-- x is moved from the residual of arc a to that of its reverse
pub after_shifted : (b : SealedBook) (a x : ℕ) {k left : ℕ} {r s : Record} → Ok k ≡ at_arc (λ e. Ok e.reverse) ((sealed_value b).graph.ends a) → x ≤ residual_of (back (sealed_table b) a) → left ≡ residual_of (back (sealed_table b) a) - x → let table = sealed_table b in let lowered = set table (length table - 1 - a) r in let old = front lowered (length table - 1 - k) in r ≡ with_residual (back table a) left → s ≡ with_residual old (residual_of old + x) → After b (after_shift (sealed_value b) a x) (set lowered (length table - 1 - k) s)
after_shifted b a x {k} {left} {r} {s} arc less made lowers raises =
    let table = sealed_table b in
    let n = b.held.entries in
    let m = b.held.needs in
    let reverse = reversed_arc b a arc in
    let there : a < 2 * m = reverse.0 in
    let below = mate_below a m there in
    let columns_are : columns (set (set table (length table - 1 - a) r) (length table - 1 - k) s) n m ≡ with_moved (columns table n m) a (mate a) x = rw (raises, lowers) (ap (λ k. columns (moved_at table a k left x) n m) reverse.1 ∙ ap (λ y. columns (moved_at table a (mate a) y x) n m) made ∙ columns_moved table n m a (mate a) x there below b.held.room (mate_other a)) in
    let has = ap residual_of (arc_there table m a there) in
    let accepted : shift_answer (sealed_value b) a x ≡ done = rw (lt-ltb a (2 * m) there, le-leb x (residual_of (back table a)) less) in
    after_columns b _ _ _ columns_are (settled_moved (columns table n m) n m a x (settled b) there (omega (arith, less, has))) (value_moved (columns table n m) n m a x there ∙ rw accepted)

-- what is raised is at most what can be sent along a need
pub raise_small : (b : SealedBook) (a x : ℕ) (r : Record) {k : ℕ} → Ok k ≡ at_arc (λ e. Ok e.reverse) ((sealed_value b).graph.ends a) → x ≤ residual_of (back (sealed_table b) a) → residual_of (front (set (sealed_table b) (length (sealed_table b) - 1 - a) r) (length (sealed_table b) - 1 - k)) + x ≤ binding
raise_small b a x r {k} arc less =
    let table = sealed_table b in
    let long = b.held.room in
    let reverse = reversed_arc b a arc in
    let below = mate_below a b.held.needs reverse.0 in
    let was = ap residual_of (before_raised table a (mate a) r (omega (arith, reverse)) (omega arith) (mate_other a)) in
    let pair = pair_small (sealed_columns b) b.held.needs a b.pairs reverse.0 in
    let has = ap residual_of (arc_there table b.held.needs a reverse.0) in
    let other = ap residual_of (arc_there table b.held.needs (mate a) below) in
    rw reverse.1 (omega arith)
