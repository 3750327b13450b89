use Rattle.std.proofs.Common.{◌≡◌, ℕ, List, ◌%◌, bit_xor, ◌+◌, ◌-◌, ◌*◌, ◌≤◌, true, Err, refl, take, set, sym, subst, ◌∙◌, arith, length-set}
use Rattle.std.proofs.lemmas.Bool.{le-leb}
use Rattle.std.proofs.lemmas.Bool.Decides.{nat_tests}
use Rattle.std.proofs.lemmas.List.{length-take-le, drop-set-lt}
use Rattle.network.specs.Nets.{shifted}
use Rattle.network.specs.Answers.{done, shift_answer}
use Rattle.network.specs.declared.refusal.NetworkRefusal.TheVariants.{AboveResidual}
use Rattle.tile.specs.declared.pixel.Pixel.{Pixel}
use Rattle.tile.specs.Grids.{owner, direction_of, number, opposite, neighbour, joined}
use Rattle.tile.specs.Pixels.{residual_of, put_residual}
use Rattle.tile.specs.Tables.{pixel_at, of_pixels, Told, SmallPairs}
use Rattle.tile.specs.Laws.{both_joined}
use Rattle.tile.specs.Values.{tile_value, tile_lawful}
use Rattle.tile.proofs.Telling.{backwards}
use Rattle.tile.proofs.Changes.{number_small, table_answer, table_pair, table_shifted, pairs_shifted}
use Rattle.tile.proofs.answering.TileNetwork.shift.Goals as goal

-- the number that an arc tells, and the direction of this number
towards : (a n : ℕ) → n ≡ a % 4 → (n ≡ number (direction_of a)) × (direction_of n ≡ direction_of a)
towards a n is = grind (arith, nat_tests)

pub returns-in_err-left-clause-after : goal.returns-in_err-left-clause-after
returns-in_err-left-clause-after c =
    let x = c.args.self.now in
    let n = x.width * x.height in
    let a = c.args.arc in
    let long = length-take-le n x.table.now x.room in
    let there : joined x.width n (direction_of a) (owner a) ≡ true = grind (arith, nat_tests) in
    let answer = table_answer x.width x.table.now n a c.args.amount x.room there in
    let refused : shift_answer (of_pixels x.width (take n x.table.now)) a c.args.amount ≡ Err AboveResidual = rw answer (grind (arith, nat_tests)) in
    rw refused refl

pub overflow_cast-more : goal.overflow_cast-more
overflow_cast-more c =
    let x = c.args.self.now in
    let n = x.width * x.height in
    let a = c.args.arc in
    let long = length-take-le n x.table.now x.room in
    let there : joined x.width n (direction_of a) (owner a) ≡ true = grind (arith, nat_tests) in
    let pair = table_pair x.width x.table.now n a x.room there x.pairs in
    let at : c.in_ok-tail.tail ≡ owner a = grind (arith, nat_tests) in
    let (forth, way) = towards a c.in_ok-tail.number (grind (arith, nat_tests)) in
    let less : c.args.amount ≤ residual_of (pixel_at x.table.now (owner a)) (direction_of a) = rw (← at, ← forth) (grind (arith, nat_tests)) in
    let back : c.residual-2.result ≡ residual_of (pixel_at x.table.now (neighbour x.width (direction_of a) (owner a))) (opposite (direction_of a)) = rw (← at, ← way) (grind arith) in
    omega (arith, pair, less, back, c.from-2.ensures)

-- the table once both residuals are written
abbrev written : goal.After-set_residual-2 → List Pixel
written c = set (set c.args.self.now.table.now c.in_ok-tail.tail c.set_residual.new.self) c.neighbour-head.result c.set_residual-2.new.self

-- what it tells, of an arc that is there and has so much left
record Left (c : goal.After-set_residual-2) : Type 0 where
  there : joined c.args.self.now.width (c.args.self.now.width * c.args.self.now.height) (direction_of c.args.arc) (owner c.args.arc) ≡ true
  less : c.args.amount ≤ residual_of (pixel_at c.args.self.now.table.now (owner c.args.arc)) (direction_of c.args.arc)
  told : Told c.args.self.now.width (take (c.args.self.now.width * c.args.self.now.height) (written c))
  value : of_pixels c.args.self.now.width (take (c.args.self.now.width * c.args.self.now.height) (written c)) ≡ shifted (tile_value c.args.self.now) c.args.arc c.args.amount

left : (c : goal.After-set_residual-2) → Left c
left c =
    let x = c.args.self.now in
    let n = x.width * x.height in
    let a = c.args.arc in
    let table = x.table.now in
    let d = direction_of a in
    let v = owner a in
    let u = neighbour x.width d v in
    let long = length-take-le n table x.room in
    let there : joined x.width n d v ≡ true = grind (arith, nat_tests) in
    let at : c.in_ok-tail.tail ≡ v = grind (arith, nat_tests) in
    let (forth, way) = towards a c.in_ok-tail.number (grind (arith, nat_tests)) in
    let head : c.neighbour-head.result ≡ u = rw (← at, ← way) c.neighbour-head.ensures in
    let back : bit_xor c.in_ok-tail.number 1 ≡ number (opposite d) = rw (← way) (backwards c.in_ok-tail.number (omega (arith, forth, number_small d))) in
    let less : c.args.amount ≤ residual_of (pixel_at table v) d = rw (← at, ← forth) (grind (arith, nat_tests)) in
    let lower : c.in_ok-left.left ≡ residual_of (pixel_at table v) d - c.args.amount = rw (← at, ← forth) (grind (arith, nat_tests)) in
    let raise : c.from-2.result + c.args.amount ≡ residual_of (pixel_at table u) (opposite d) + c.args.amount = rw (← head, ← back) (omega (arith, c.from-2.ensures, c.residual-2.ensures)) in
    let first : c.set_residual.new.self ≡ put_residual (pixel_at table v) d c.in_ok-left.left = rw (← at, ← forth) c.set_residual.ensures in
    let second : c.set_residual-2.new.self ≡ put_residual (pixel_at (set table v c.set_residual.new.self) u) (opposite d) (c.from-2.result + c.args.amount) = rw (← head, ← back, ← at) c.set_residual-2.ensures in
    let (told, value) = table_shifted x.width table n a c.args.amount c.in_ok-left.left (c.from-2.result + c.args.amount) c.set_residual.new.self c.set_residual-2.new.self x.room there x.told lower raise first second in
    record { there = there; less = less; told = rw (at, head) told; value = rw (at, head) value }

pub invariant_of-self : goal.invariant_of-self
invariant_of-self c =
    let x = c.args.self.now in
    let l = left c in
    record {
      narrow = x.narrow;
      low = x.low;
      stepped = x.stepped;
      room = omega (arith, x.room, length-set x.table.now c.in_ok-tail.tail c.set_residual.new.self, length-set (set x.table.now c.in_ok-tail.tail c.set_residual.new.self) c.neighbour-head.result c.set_residual-2.new.self);
      told = l.told;
      pairs = subst SmallPairs (sym l.value) (pairs_shifted x.width x.table.now (x.width * x.height) c.args.arc c.args.amount x.room l.there l.less (tile_lawful x) x.pairs);
    }

pub returns-clause-answer : goal.returns-clause-answer
returns-clause-answer c =
    let x = c.args.self.now in
    let n = x.width * x.height in
    let a = c.args.arc in
    let long = length-take-le n x.table.now x.room in
    let there : joined x.width n (direction_of a) (owner a) ≡ true = grind (arith, nat_tests) in
    sym (table_answer x.width x.table.now n a c.args.amount x.room there ∙ grind (arith, nat_tests))

pub returns-clause-after : goal.returns-clause-after
returns-clause-after c =
    let x = c.args.self.now in
    let n = x.width * x.height in
    let a = c.args.arc in
    let l = left c.before in
    let accepted : shift_answer (of_pixels x.width (take n x.table.now)) a c.args.amount ≡ done = table_answer x.width x.table.now n a c.args.amount x.room l.there ∙ rw (le-leb c.args.amount (residual_of (pixel_at x.table.now (owner a)) (direction_of a)) l.less) refl in
    rw accepted l.value

pub returns-clause-kept : goal.returns-clause-kept
returns-clause-kept c =
    let x = c.args.self.now in
    let n = x.width * x.height in
    let table = x.table.now in
    let first = set table c.in_ok-tail.tail c.set_residual.new.self in
    let long = length-take-le n table x.room in
    let there : joined x.width n (direction_of c.args.arc) (owner c.args.arc) ≡ true = grind (arith, nat_tests) in
    let both = both_joined x.width n (direction_of c.args.arc) (owner c.args.arc) there in
    let at : c.in_ok-tail.tail ≡ owner c.args.arc = grind (arith, nat_tests) in
    let (_, way) = towards c.args.arc c.in_ok-tail.number (grind (arith, nat_tests)) in
    let head : c.neighbour-head.result ≡ neighbour x.width (direction_of c.args.arc) (owner c.args.arc) = rw (← at, ← way) c.neighbour-head.ensures in
    record {
      width = refl;
      height = refl;
      spared = record {
        same_table = refl;
        as_long = length-set first c.neighbour-head.result c.set_residual-2.new.self ∙ length-set table c.in_ok-tail.tail c.set_residual.new.self;
        untouched = drop-set-lt n first c.neighbour-head.result c.set_residual-2.new.self (rw head both.other) ∙ drop-set-lt n table c.in_ok-tail.tail c.set_residual.new.self (rw at both.pixel);
      };
    }
