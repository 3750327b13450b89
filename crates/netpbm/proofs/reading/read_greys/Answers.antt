use Rattle.std.proofs.Common.{sym, ap, ◌∙◌, arith, [], ◌∷◌, ◌++◌, vec_items}
use Rattle.std.specs.Option.{option_map}
use Rattle.netpbm.specs.Passes.{numeral_of, the_header}
use Rattle.netpbm.proofs.Samples.{greys_more, greys_missing, greys_above, greys_ends}
use Rattle.netpbm.proofs.reading.read_greys.Goals as goal

pub returns-in_default : goal.returns-in_default
returns-in_default c = sym (greys_missing (the_header c.args.header.now) c.loop-pixel.pixel c.loop-pixel.rest.now _ c.loop-pixel.invariant (omega arith) (sym c.next_sample.ensures ∙ ap (option_map numeral_of) c.in_default.is))

pub returns-then-sample-header : goal.returns-then-sample-header
returns-then-sample-header c = sym (greys_above (the_header c.args.header.now) c.loop-pixel.pixel c.loop-pixel.rest.now _ (numeral_of c.in-Some.sample) c.loop-pixel.invariant (omega arith) (sym c.in-Some.ensures) (omega arith))

pub loop-pixel-preserved : goal.loop-pixel-preserved
loop-pixel-preserved c = greys_more (the_header c.args.header.now) c.loop-pixel.pixel c.loop-pixel.rest.now _ _ (numeral_of c.in-Some.sample) c.loop-pixel.invariant (omega arith) (sym c.in-Some.ensures) (omega arith) (omega arith) (c.in_ok-push.ensures.items ∙ ap (λ g. vec_items c.loop-pixel.greys ++ (g ∷ [])) c.grey.ensures)

pub returns : goal.returns
returns c = sym (greys_ends (the_header c.args.header.now) c.loop-pixel.pixel c.loop-pixel.rest.now _ c.loop-pixel.invariant (omega arith))
