-- A page has one split.
use Rattle.std.proofs.Common.{◌≡◌, ℕ, ◌*◌, ◌<◌, Bool, true, false, List, get_or, refl, sym, ◌∙◌, ⊎_elim, arith}
use Rattle.std.proofs.lemmas.Bool.{cases_Bool, lt-ltb}
use Rattle.std.proofs.lemmas.List.{ext_get_or}
use Rattle.network.specs.Cuts.{Selection, sum_below}
use Rattle.netpbm.specs.Images.{Image}
use Rattle.prepress.specs.declared.area.Area.{Area}
use Rattle.prepress.specs.Areas.{area_of, pixel_count}
use Rattle.prepress.specs.Splits.{area_energy, BestSplit, on_area, SplitOf, OnlySplit}
use Rattle.prepress.proofs.Areas.{areas_part_pages}

-- what is line in one best split of an area is line in the other
one_best : (i : Image) (a : Area) (X Y : Selection) (v : ℕ) → BestSplit i a X → BestSplit i a Y → v < pixel_count a → X v ≡ Y v
one_best i a X Y v first second there = ⊎_elim
    (λ (line : X v ≡ true). line ∙ sym (first.fewest Y v second.least there line))
    (λ (tone : X v ≡ false). ⊎_elim
    (λ (line : Y v ≡ true). let no : true ≡ false = sym (second.fewest X v first.least there line) ∙ tone in absurd cc)
    (λ (none : Y v ≡ false). tone ∙ sym none)
    (cases_Bool (Y v)))
    (cases_Bool (X v))

-- so two pages that are split agree on each pixel
same_pixel : (i : Image) (black other : List Bool) (n e m k p : ℕ) → SplitOf i black n e → SplitOf i other m k → p < i.width * i.height → get_or other p false ≡ get_or black p false
same_pixel i black other n e m k p first second there =
    let ((t, v, stands), _) = areas_part_pages i.width i.height p there in
    let a = area_of i.width i.height t in
    let told : (xs : List Bool) → on_area i xs t v ≡ get_or xs p false = λ xs. rw (lt-ltb v (pixel_count a) stands.pixel, stands.place) refl in
    let same = one_best i a (on_area i other t) (on_area i black t) v (second.best t (omega (arith, second.tiles, stands.area))) (first.best t (omega (arith, first.tiles, stands.area))) stands.pixel in
    sym (told other) ∙ same ∙ told black

pub only_split : (i : Image) (black : List Bool) (n e : ℕ) → SplitOf i black n e → OnlySplit i black n e
only_split i black n e first other m k second =
    let same : other ≡ black = ext_get_or false other black (second.whole ∙ sym first.whole) (λ p there. same_pixel i black other n e m k p first second (omega (arith, second.whole))) in
    let tiles : m ≡ n = second.tiles ∙ sym first.tiles in
    let sums : sum_below m (λ t. area_energy i (area_of i.width i.height t) (on_area i other t)) ≡ sum_below n (λ t. area_energy i (area_of i.width i.height t) (on_area i black t)) = rw (same, tiles) refl in
    (same, tiles, second.energy ∙ sums ∙ sym first.energy)
