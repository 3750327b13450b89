use Rattle.std.proofs.Common.{◌≡◌, ◌*◌, ◌++◌, take, drop, length, refl, sym, subst, ◌∙◌, arith, rules}
use Rattle.std.proofs.lemmas.List.{length-take-le, length-append, take_at}
use Rattle.tile.specs.Accepted.{Lays}
use Rattle.tile.specs.Layings.{AllLaid}
use Rattle.tile.specs.Tables.{of_pixels, Told, SmallPairs}
use Rattle.tile.specs.Values.{tile_of}
use Rattle.tile.proofs.Layings.{told_laid, pairs_laid, laid_on}
use Rattle.tile.proofs.tile.Tile.lay.Goals as goal

pub invariant_of-self : goal.invariant_of-self
invariant_of-self c =
    let w = c.args.width in
    let n = c.args.width * c.args.height in
    let old = c.args.self.now.table.now in
    let new = c.write_pixels.new.pixels in
    let ok : Lays w c.args.height c.args.costs.now (length old) = search rules in
    let long : length (take n old) ≡ n = length-take-le n old ok.room in
    let written : AllLaid w n c.args.costs.now new = subst (λ k. AllLaid w k c.args.costs.now new) long c.write_pixels.ensures.written in
    let as_long : length new ≡ n = c.write_pixels.ensures.as_long ∙ long in
    let front : take n (new ++ drop n old) ≡ new = take_at new (drop n old) n as_long in
    record {
      narrow = ok.narrow;
      low = ok.low;
      stepped = c.steps-self.ensures;
      room = omega (arith, as_long, length-append new (drop n old));
      told = subst (Told w) (sym front) (told_laid w n c.args.costs.now new as_long written);
      pairs = subst (λ pixels. SmallPairs (of_pixels w pixels)) (sym front) (pairs_laid w n c.args.costs.now new as_long written);
    }

pub returns : goal.returns
returns c =
    let before = tile_of c.args.self.now in
    let n = c.args.width * c.args.height in
    let new = c.write_pixels.new.pixels in
    let ok : Lays c.args.width c.args.height c.args.costs.now (length before.table.now) = search rules in
    let long : length (take n before.table.now) ≡ n = length-take-le n before.table.now ok.room in
    let written : AllLaid c.args.width n c.args.costs.now new = subst (λ k. AllLaid c.args.width k c.args.costs.now new) long c.write_pixels.ensures.written in (
      search rules,
      laid_on before c.args.width c.args.height c.args.costs.now _ new ok (c.write_pixels.ensures.as_long ∙ long) written refl refl,
    )
