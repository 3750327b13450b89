use Rattle.std.proofs.Common.{◌≡◌, ◌<◌, length, ap, ◌∙◌, sym, subst, ⊎_elim, arith, length-set, set}
use Rattle.std.proofs.lemmas.Bool.{cases_eq}
use Rattle.std.proofs.lemmas.List.{get_or-set_same, get_or-set_other}
use Rattle.tile.specs.declared.pixel.Pixel.{Pixel}
use Rattle.tile.specs.Layings.{laid_pixel, PixelLaid}
use Rattle.tile.specs.Pixels.{has}
use Rattle.tile.specs.Tables.{no_pixel, pixel_at}
use Rattle.tile.proofs.Rows.{column_of_next}
use Rattle.tile.proofs.laying.write_pixels.Goals as goal

pub loop-number-preserved : goal.loop-number-preserved
loop-number-preserved c =
    let w = c.args.width in
    let n = length c.args.pixels.now in
    let bs = c.args.costs.now in
    let now = c.loop-number.pixels in
    let v = c.loop-number.number in
    let x = c.read_pixel.result in
    let (column, long, before) = c.loop-number.invariant in
    let there : v < length now = omega (arith, long, c.loop-number-test.true) in
    let tells : x.neighbours ≡ c.of-neighbours.result = ap (λ (y : Pixel). y.neighbours) c.read_pixel.ensures.is in
    let this : PixelLaid w n bs v x = record {
      known = λ d. ap (λ m. has m d) tells ∙ c.of-neighbours.ensures d;
      is = c.read_pixel.ensures.is ∙ ap (laid_pixel w bs v) (sym tells);
      fresh = c.read_pixel.ensures.fresh;
    } in (
      c.column_after-column.ensures ∙ rw column (sym (column_of_next w v c.requires.some)),
      length-set now v x ∙ long,
      λ u inside. ⊎_elim
          (λ (is : u ≡ v). subst (λ k. PixelLaid w n bs k (pixel_at (set now v x) k)) (sym is) (subst (PixelLaid w n bs v) (sym (get_or-set_same now v x no_pixel there)) this))
          (λ (other : u ≡ v → ⊥). subst (PixelLaid w n bs u) (sym (get_or-set_other now v u x no_pixel other)) (before u (omega (arith, other))))
          (cases_eq u v),
    )
