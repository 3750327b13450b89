-- A page, split area by area.
use Rattle.std.proofs.Common.{◌≡◌, ℕ, suc, ◌+◌, ◌*◌, ◌<◌, ◌≤◌, ◌&&◌, Bool, false, List, length, get_or, refl, ap, sym, ◌∙◌, subst, ⊎_elim, arith}
use Rattle.std.specs.Prelude.{nat_lt}
use Rattle.std.proofs.lemmas.Bool.{cases_eq, lt-ltb, le-ltb, cases_lt}
use Rattle.std.proofs.lemmas.Nat.{mul-le}
use Rattle.std.proofs.lemmas.List.{get_or_past}
use Rattle.network.specs.declared.mark.Mark.{Mark}
use Rattle.network.specs.declared.mark.Mark.TheVariants.{Out}
use Rattle.network.specs.Cuts.{Selection, sum_below}
use Rattle.network.proofs.Sums.{sum_same}
use Rattle.netpbm.specs.Images.{Image}
use Rattle.prepress.specs.declared.area.Area.{Area}
use Rattle.prepress.specs.Areas.{area_count, area_of, OnPage, pixel_count, place}
use Rattle.prepress.specs.Splits.{area_energy, BestSplit, is_line, lines, on_area, SplitOf}
use Rattle.prepress.specs.Cuts.{AreaCut, Blackened}
use Rattle.prepress.proofs.Areas.{area_inside, areas_apart}

-- the areas before area n are split
pub record SplitTo (i : Image) (n : ℕ) (black : List Bool) (e : ℕ) : Type 0 where
  pub whole : length black ≡ i.width * i.height
  pub best : (t : ℕ) → t < n → BestSplit i (area_of i.width i.height t) (on_area i black t)
  pub energy : e ≡ sum_below n (λ t. area_energy i (area_of i.width i.height t) (on_area i black t))
  pub small : e ≤ 1048576 * n

pub split_none : (i : Image) (black : List Bool) → length black ≡ i.width * i.height → SplitTo i 0 black 0
unfolding sum_below
split_none i black whole = record { whole = whole; best = λ t there. absurd (omega arith); energy = refl; small = omega arith }

-- a list that tells of the pixels of an area what X says tells it of no others
on_area_is : (i : Image) (t : ℕ) (black : List Bool) (X : Selection) → ((v : ℕ) → v < pixel_count (area_of i.width i.height t) → get_or black (place i.width (area_of i.width i.height t) v) false ≡ X v) → (v : ℕ) → on_area i black t v ≡ (nat_lt v (pixel_count (area_of i.width i.height t)) && X v)
on_area_is i t black X inside v = ⊎_elim
    (λ (there : v < pixel_count (area_of i.width i.height t)). rw (lt-ltb v (pixel_count (area_of i.width i.height t)) there) (inside v there))
    (λ (beyond : pixel_count (area_of i.width i.height t) ≤ v). rw (le-ltb v (pixel_count (area_of i.width i.height t)) beyond) refl)
    (cases_lt v (pixel_count (area_of i.width i.height t)))

-- what its marks say of an area's pixels, and of no others
lines_only : (marks : List Mark) (n v : ℕ) → length marks ≡ n → lines marks v ≡ (nat_lt v n && lines marks v)
lines_only marks n v long = ⊎_elim
    (λ (there : v < n). rw (lt-ltb v n there) refl)
    (λ (beyond : n ≤ v). rw (le-ltb v n beyond) (ap is_line (get_or_past marks v Out (omega (arith, long)))))
    (cases_lt v n)

-- once an area is written, the page tells its split
written_split : (i : Image) (t : ℕ) (marks : List Mark) (before after : List Bool) → length marks ≡ pixel_count (area_of i.width i.height t) → Blackened i.width (area_of i.width i.height t) (pixel_count (area_of i.width i.height t)) marks before after → ◌≡◌ {A = Selection} (on_area i after t) (lines marks)
written_split i t marks before after long black = λ j v. (on_area_is i t after (lines marks) black.written v ∙ sym (lines_only marks (pixel_count (area_of i.width i.height t)) v long)) j

-- and those of other areas stay
other_split : (i : Image) (t n : ℕ) (marks : List Mark) (before after : List Bool) → t < n → n < area_count i.width i.height → Blackened i.width (area_of i.width i.height n) (pixel_count (area_of i.width i.height n)) marks before after → ◌≡◌ {A = Selection} (on_area i after t) (on_area i before t)
other_split i t n marks before after earlier there black = λ j v. (on_area_is i t after (λ u. get_or before (place i.width (area_of i.width i.height t) u) false) same v) j
  where
    same : (v : ℕ) → v < pixel_count (area_of i.width i.height t) → get_or after (place i.width (area_of i.width i.height t) v) false ≡ get_or before (place i.width (area_of i.width i.height t) v) false
    same v inside = black.others (place i.width (area_of i.width i.height t) v) (λ u here meet. omega (arith, earlier, areas_apart i.width i.height n u t v there here (omega arith) inside meet))

-- one area more
split_more : (i : Image) (n e c : ℕ) (marks : List Mark) (before after : List Bool) → n < area_count i.width i.height → SplitTo i n before e → AreaCut i (area_of i.width i.height n) c marks → Blackened i.width (area_of i.width i.height n) (pixel_count (area_of i.width i.height n)) marks before after → SplitTo i (n + 1) after (e + c)
unfolding sum_below
split_more i n e c marks before after there so_far cut black =
    let area = area_of i.width i.height in
    let on = area_inside i.width i.height n there in
    let few : pixel_count (area n) ≤ 64 * 64 = mul-le (area n).width (area n).height 64 64 on.narrow on.low in
    let this = written_split i n marks before after cut.whole black in
    let others : (t : ℕ) → t < n → ◌≡◌ {A = Selection} (on_area i after t) (on_area i before t) = λ t earlier. other_split i t n marks before after earlier there black in
    let next : n + 1 ≡ suc n = omega arith in
    let sum = sum_same n (λ t. area_energy i (area t) (on_area i after t)) (λ t. area_energy i (area t) (on_area i before t)) (λ t earlier. ap (λ (X : Selection). area_energy i (area t) X) (others t earlier)) in
    let last : area_energy i (area n) (on_area i after n) ≡ c = ap (λ (X : Selection). area_energy i (area n) X) this ∙ sym cut.energy in
    record {
      whole = black.whole ∙ so_far.whole;
      best = λ t below. ⊎_elim
          (λ (same : t ≡ n). rw same (subst (BestSplit i (area n)) (sym this) cut.best))
          (λ (other : t ≡ n → ⊥). subst (BestSplit i (area t)) (sym (others t (omega (arith, other)))) (so_far.best t (omega (arith, other))))
          (cases_eq t n);
      energy = rw next (omega (arith, sum, last, so_far.energy));
      small = omega (arith, so_far.small, cut.small, few);
    }

-- an area that is told by the sides of the page's image, and that it has at most 4,096 pixels
pub record AreaTold (i : Image) (n : ℕ) (a : Area) : Type 0 where
  pub there : n < area_count i.width i.height
  pub is : a ≡ area_of i.width i.height n
  pub on : OnPage i.width i.height a
  pub few : pixel_count a ≤ 4096

pub area_told : (i : Image) (w h n tiles : ℕ) (a : Area) → w ≡ i.width → h ≡ i.height → tiles ≡ area_count w h → n < tiles → a ≡ area_of w h n → AreaTold i n a
area_told i w h n tiles a wide high all below is =
    let there : n < area_count i.width i.height = rw (← wide, ← high) (omega (arith, all)) in
    let told : a ≡ area_of i.width i.height n = rw (← wide, ← high) is in
    let on = subst (OnPage i.width i.height) (sym told) (area_inside i.width i.height n there) in
    record { there = there; is = told; on = on; few = mul-le a.width a.height 64 64 on.narrow on.low }

-- a page of which every area is split
pub all_split : (i : Image) (n tiles : ℕ) (black : List Bool) (e : ℕ) → tiles ≡ area_count i.width i.height → n ≡ tiles → SplitTo i n black e → SplitOf i black tiles e
all_split i n tiles black e all end split = record {
  tiles = all;
  whole = split.whole;
  best = λ t there. split.best t (omega (arith, end));
  energy = split.energy ∙ ap (λ k. sum_below k (λ t. area_energy i (area_of i.width i.height t) (on_area i black t))) end;
}

-- one area more, told by the calls that cut and write it
pub page_more : (i : Image) (n e c w : ℕ) (a : Area) (marks ms : List Mark) (before bs after : List Bool) → AreaTold i n a → w ≡ i.width → ms ≡ marks → bs ≡ before → SplitTo i n before e → AreaCut i a c marks → Blackened w a (pixel_count a) ms bs after → SplitTo i (n + 1) after (e + c)
page_more i n e c w a marks ms before bs after told wide same_marks same_page so_far cut black =
    let here : Blackened i.width a (pixel_count a) marks before after = rw (wide, same_marks, same_page) at black in
    split_more i n e c marks before after told.there so_far (subst (λ x. AreaCut i x c marks) told.is cut) (subst (λ x. Blackened i.width x (pixel_count x) marks before after) told.is here)
