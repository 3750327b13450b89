use Rattle.std.proofs.Common.{◌∷◌, ◌++◌, [], length, ap, ◌∙◌, arith}
use Rattle.std.proofs.lemmas.List.{length-append, take_all}
use Rattle.sheet.specs.Format.{amount_bytes, need_bytes}
use Rattle.filing.specs.Sheets.{present}
use Rattle.filing.proofs.Bytes.{Begun, amount_short, begun_length, needs_length, need_packed, packed_whole}
use Rattle.filing.proofs.packing.pack.Goals as goal

pub put_amount-requires-2 : goal.put_amount-requires-2
put_amount-requires-2 c = omega (arith, ap length c.put_amount.ensures, ap length c.push.ensures.items, ap length c.new-packed.ensures, length-append c.push.new.self.items (amount_bytes (present c.args.earning)), amount_short c.args.earning)

pub unwrap-requires : goal.unwrap-requires
unwrap-requires c =
    let head = c.put_amount-2.new.packed.items in
    let begun : Begun c.args.earning c.args.cost c.bit_map.result c.push.new.self.items c.put_amount.new.packed.items head = record { starts = c.push.ensures.items ∙ ap (λ l. l ++ c.bit_map.result ∷ []) c.new-packed.ensures; then = c.put_amount.ensures; last = c.put_amount-2.ensures } in
    let short = begun_length c.args.earning c.args.cost c.bit_map.result c.push.new.self.items c.put_amount.new.packed.items head begun in
    let now = needs_length head c.loop-need.packed.items c.args.needs.now c.loop-need.need-index (omega (arith, c.loop-need-test.true)) c.loop-need.invariant in
    c.try_extend_from_slice.ensures.variant.1 (omega (arith, c.requires, c.loop-need-test.true, short, now, ap length c.to_be_bytes.ensures))

pub loop-need-preserved : goal.loop-need-preserved
loop-need-preserved c = need_packed c.put_amount-2.new.packed.items c.loop-need.packed.items c.try_extend_from_slice.new.self.items c.args.needs.now c.loop-need.need-index c.loop-need-test.true c.loop-need.invariant ((rw c.unwrap.ensures at c.try_extend_from_slice.ensures.ok) ∙ ap (λ l. c.loop-need.packed.items ++ l) c.to_be_bytes.ensures)

pub returns : goal.returns
returns c =
    let head = c.put_amount-2.new.packed.items in
    let begun : Begun c.args.earning c.args.cost c.bit_map.result c.push.new.self.items c.put_amount.new.packed.items head = record { starts = c.push.ensures.items ∙ ap (λ l. l ++ c.bit_map.result ∷ []) c.new-packed.ensures; then = c.put_amount.ensures; last = c.put_amount-2.ensures } in
    c.loop-need.invariant ∙ ap (λ ns. head ++ need_bytes ns) (take_all c.loop-need.need-index c.args.needs.now c.loop-need-test.false)
    ∙ packed_whole c.args.earning c.args.cost c.bit_map.result c.push.new.self.items c.put_amount.new.packed.items head c.args.needs.now begun c.bit_map.ensures
