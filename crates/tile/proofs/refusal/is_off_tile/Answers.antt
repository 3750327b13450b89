use Rattle.std.proofs.Common.{◌≡◌, ◌||◌, true, false, sym, refl, subst, ◌∙◌, ⊎_elim, arith, rules}
use Rattle.std.proofs.lemmas.Bool.{cases_eq}
use Rattle.tile.specs.declared.direction.Direction.TheVariants.{Right, Below}
use Rattle.tile.specs.Refusals.{penalty_off}
use Rattle.tile.proofs.Ranges.{one_passes, none_passes}
use Rattle.tile.proofs.Rows.{column_of_next}
use Rattle.tile.proofs.refusal.is_off_tile.Goals as goal
use Rattle.tile.proofs.refusal.is_off_tile.Goals.{then-has_penalty_off-via-then-has_penalty_off, then-has_penalty_off-via-else-has_penalty_off+then-has_penalty_off-2}

pub returns-then-has_penalty_off : goal.returns-then-has_penalty_off
returns-then-has_penalty_off c =
    let w = c.args.width in
    let n = c.args.pixels in
    let bs = c.args.costs.now in
    let v = c.loop-pixel.pixel in
    let right = c.of-neighbours.ensures Right in
    let below = c.of-neighbours.ensures Below in
    let off : (penalty_off w n bs Right v || penalty_off w n bs Below v) ≡ true = elim c.then-has_penalty_off.branch [
      | then-has_penalty_off-via-then-has_penalty_off w ↦ rw (← right, sym c.has_penalty_off.ensures ∙ w.if-has_penalty_off.true) refl
      | then-has_penalty_off-via-else-has_penalty_off+then-has_penalty_off-2 w ↦ rw (← right, ← below, sym c.has_penalty_off.ensures ∙ w.if-has_penalty_off.false, sym w.has_penalty_off-else-has_penalty_off.ensures ∙ w.if-has_penalty_off-2.true) refl
    ] in
    sym (one_passes (λ v. penalty_off w n bs Right v || penalty_off w n bs Below v) n v c.loop-pixel-test.true off)

pub loop-pixel-preserved : goal.loop-pixel-preserved
loop-pixel-preserved c =
    let w = c.args.width in
    let n = c.args.pixels in
    let bs = c.args.costs.now in
    let v = c.loop-pixel.pixel in
    let right = c.of-neighbours.ensures Right in
    let below = c.of-neighbours.ensures Below in
    let none : (penalty_off w n bs Right v || penalty_off w n bs Below v) ≡ false = rw (← right, ← below, sym c.has_penalty_off.ensures ∙ c.if-has_penalty_off.false, sym c.has_penalty_off-else-has_penalty_off.ensures ∙ c.if-has_penalty_off-2.false) refl in (
      c.column_after-column.ensures ∙ rw c.loop-pixel.invariant.0 (sym (column_of_next w v c.requires.some)),
      λ u there. ⊎_elim
          (λ (is : u ≡ v). subst (λ v. (penalty_off w n bs Right v || penalty_off w n bs Below v) ≡ false) (sym is) none)
          (λ (other : u ≡ v → ⊥). c.loop-pixel.invariant.1 u (omega (arith, other)))
          (cases_eq u v),
    )

pub returns : goal.returns
returns c =
    let w = c.args.width in
    let n = c.args.pixels in
    let bs = c.args.costs.now in
    let all : c.loop-pixel.pixel ≡ n = search rules in
    sym (none_passes (λ v. penalty_off w n bs Right v || penalty_off w n bs Below v) 0 n (λ v there. c.loop-pixel.invariant.1 v (omega (arith, all, there))))
