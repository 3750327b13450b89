use Rattle.std.proofs.Common.{◌++◌, ap, ◌∙◌, sym}
use Rattle.filing.proofs.Bytes.{amount_some}
use Rattle.filing.proofs.packing.put_amount.Goals as goal

pub returns-then-amount-gt0 : goal.returns-then-amount-gt0
returns-then-amount-gt0 c =
    let field = c.to_be_bytes.ensures ∙ sym (amount_some c.args.amount c.if-amount-gt0.true) in
    (rw c.unwrap.ensures at c.try_extend_from_slice.ensures.ok) ∙ ap (λ l. c.args.packed.now.items ++ l) field
