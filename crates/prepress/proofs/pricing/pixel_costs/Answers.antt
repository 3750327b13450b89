use Rattle.std.proofs.Common.{◌≡◌, ◌*◌, length, ap, ◌∙◌, arith}
use Rattle.std.proofs.lemmas.Bool.{ltb-true}
use Rattle.netpbm.specs.Values.{image_of}
use Rattle.prepress.specs.Areas.{place}
use Rattle.prepress.proofs.Areas.{place_inside, right_inside, below_inside}
use Rattle.prepress.proofs.Costs.{four_bytes}
use Rattle.prepress.proofs.pricing.pixel_costs.Goals as goal

pub penalty_between-requires-clause-other_there : goal.penalty_between-requires-clause-other_there
penalty_between-requires-clause-other_there c has_right =
    let i = image_of c.args.page.now in
    let v = c.args.pixel in
    let a = c.args.area in
    let is : c.place-place.result ≡ place i.width a v = c.place-place.ensures ∙ ap (λ w. place w a v) c.width-width.ensures.width in
    let whole : length c.greys-greys.result.now ≡ i.width * i.height = ap length c.greys-greys.ensures.greys ∙ c.greys-greys.ensures.limits.whole in
    omega (arith, is, whole, right_inside i.width i.height v a c.requires.area c.requires.pixel (ltb-true _ _ has_right))

pub penalty_between-requires-2-clause-there : goal.penalty_between-requires-2-clause-there
penalty_between-requires-2-clause-there c =
    let i = image_of c.args.page.now in
    let v = c.args.pixel in
    let a = c.args.area in
    let is : c.place-place.result ≡ place i.width a v = c.place-place.ensures ∙ ap (λ w. place w a v) c.width-width.ensures.width in
    let whole : length c.greys-greys.result.now ≡ i.width * i.height = ap length c.greys-greys.ensures.greys ∙ c.greys-greys.ensures.limits.whole in
    omega (arith, is, whole, place_inside i.width i.height v a c.requires.area c.requires.pixel)

pub penalty_between-requires-2-clause-other_there : goal.penalty_between-requires-2-clause-other_there
penalty_between-requires-2-clause-other_there c has_below =
    let i = image_of c.args.page.now in
    let v = c.args.pixel in
    let a = c.args.area in
    let is : c.place-place.result ≡ place i.width a v = c.place-place.ensures ∙ ap (λ w. place w a v) c.width-width.ensures.width in
    let whole : length c.greys-greys.result.now ≡ i.width * i.height = ap length c.greys-greys.ensures.greys ∙ c.greys-greys.ensures.limits.whole in
    omega (arith, is, whole, c.width-width.ensures.width, below_inside i.width i.height v a c.requires.area c.requires.pixel (ltb-true _ _ has_below))

pub returns-clause-bytes : goal.returns-clause-bytes
returns-clause-bytes c = four_bytes _ _ _ _ c.line_cost.type_inv c.tone_cost.type_inv c.penalty_between.type_inv c.penalty_between-2.type_inv
