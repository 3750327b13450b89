use Rattle.std.proofs.Common.{sym, ap, ◌∙◌, Ok, Err, vec_items}
use Rattle.netpbm.specs.Passes.{greys_told, the_header}
use Rattle.netpbm.proofs.Heads.{header_bounded}
use Rattle.netpbm.proofs.Samples.{length-greys}
use Rattle.netpbm.proofs.reading.read_pgm.Goals as goal
use Rattle.netpbm.proofs.Usual.{answered, image-refused, image-of_greys}

pub read_greys-requires : goal.read_greys-requires
read_greys-requires c = header_bounded c.args.input.now (the_header c.in-Ok.header) (sym c.in-Ok.ensures)

pub invariant_of-result : goal.invariant_of-result
invariant_of-result c =
    let bounded = header_bounded c.args.input.now (the_header c.in-Ok.header) (sym c.in-Ok.ensures) in
    let size = length-greys (the_header c.in-Ok.header) _ (sym (sym (ap greys_told c.in-Ok-2.is) ∙ c.in_ok-greys.ensures)) in
    record { within = record { some_columns = bounded.some_columns; few_columns = bounded.few_columns; some_rows = bounded.some_rows; few_rows = bounded.few_rows; whole = size } }

pub returns-in-Err-clause-file : goal.returns-in-Err-clause-file
returns-in-Err-clause-file c = answered c.args.input.now _ (image-refused c.args.input.now c.in-Err.refusal c.in-Err.ensures)

pub returns-in-Err-2-clause-file : goal.returns-in-Err-2-clause-file
returns-in-Err-2-clause-file c = answered c.args.input.now _ (image-of_greys c.args.input.now (the_header c.in-Ok.header) (Err c.in-Err-2.refusal) c.in-Ok.ensures (sym (ap greys_told c.in-Err-2.is) ∙ c.in_ok-greys.ensures))

pub returns-clause-file : goal.returns-clause-file
returns-clause-file c = answered c.args.input.now _ (image-of_greys c.args.input.now (the_header c.in-Ok.header) (Ok (vec_items c.in-Ok-2.greys)) c.in-Ok.ensures (sym (ap greys_told c.in-Ok-2.is) ∙ c.in_ok-greys.ensures))
