-- The marks of the cheapest selections of a tile tell the best split of the area that it is laid from.
use Rattle.std.proofs.Common.{◌≡◌, ℕ, ◌+◌, ◌*◌, ◌<◌, ◌≤◌, Bool, true, false, List, length, get_or, Some, None, Option, Ok, Err, Result, refl, sym, ◌∙◌, subst, arith}
use Rattle.std.specs.Result.{IsOk}
use Rattle.std.proofs.lemmas.Bool.{cases_Bool}
use Rattle.std.proofs.lemmas.Option.{slice_get-get_or}
use Rattle.network.specs.declared.mark.Mark.{Mark}
use Rattle.network.specs.declared.mark.Mark.TheVariants.{In, Out, Either}
use Rattle.network.specs.Nets.{Net, Lawful}
use Rattle.network.specs.Cuts.{Selection, cost, Cheapest, CheapestCost, Marked, AllMarked}
use Rattle.network.specs.Theorems.{inside}
use Rattle.network.proofs.Marking.{marked_cheapest}
use Rattle.network.proofs.Sums.{sum_zero, sum_at_most}
use Rattle.tile.specs.Grids.{joined}
use Rattle.tile.specs.declared.direction.Direction.TheVariants.{Right, Below}
use Rattle.tile.specs.declared.refusal.LayRefusal.{LayRefusal}
use Rattle.tile.specs.Calls.{State, LaidOn, lay_refused, Laid}
use Rattle.tile.specs.Tiles.{line, tile_network, energy, paid}
use Rattle.netpbm.specs.Images.{Image}
use Rattle.prepress.specs.declared.area.Area.{Area}
use Rattle.prepress.specs.Areas.{OnPage, pixel_count}
use Rattle.prepress.specs.Greys.{area_costs}
use Rattle.prepress.specs.Splits.{area_energy, LeastEnergy, is_line, lines}
use Rattle.prepress.specs.Cuts.{Bytes, AreaCut}
use Rattle.prepress.proofs.Costs.{lay_accepted}

-- what is laid of an area, as a network
abbrev network_of : Image → Area → Net
network_of i a = tile_network a.width a.height (area_costs i a)

-- a line is marked in
line_in : (b : Bool) (m : Mark) → is_line m ≡ b → inside false m ≡ b
line_in b In is = is
line_in b Out is = is
line_in b Either is = is

line_marked : (v : Net) (u : ℕ) (m : Mark) → is_line m ≡ true → Marked v u m → Marked v u In
line_marked v u In is h = h
line_marked v u Out is h = absurd cc
line_marked v u Either is h = absurd cc

-- each pixel's mark
mark_of : (v : Net) (marks : List Mark) (u : ℕ) → AllMarked v marks → u < v.graph.nodes → Marked v u (get_or marks u Out)
mark_of v marks u (long, each) there = each u (get_or marks u Out) (slice_get-get_or marks u Out (omega (arith, long)))

lines_cheapest : (v : Net) (marks : List Mark) → Lawful v → AllMarked v marks → Cheapest v (lines marks)
lines_cheapest v marks l all =
    let same : ◌≡◌ {A = Selection} (λ u. inside false (get_or marks u Out)) (lines marks) = λ i u. line_in (lines marks u) (get_or marks u Out) refl i in
    subst (Cheapest v) same (marked_cheapest v (λ u. get_or marks u Out) false l (λ u there. mark_of v marks u all there))

-- with every pixel a line no two differ, and each costs 255 at most
all_lines : (w h : ℕ) (bs : List ℕ) → Bytes bs → energy w h bs (λ _. true) ≤ 255 * (w * h)
all_lines w h bs bytes =
    let most = sum_at_most (w * h) 255 (λ v. line bs v) (λ v _. omega (arith, bytes (4 * v))) in
    let none = sum_zero (w * h) (λ v. paid w (w * h) bs (λ _. true) Right v + paid w (w * h) bs (λ _. true) Below v) (λ v _. grind (arith, cases_Bool (joined w (w * h) Right v), cases_Bool (joined w (w * h) Below v))) in
    omega arith

area_cut : (i : Image) (a : Area) (c : ℕ) (marks : List Mark) → Lawful (network_of i a) → ((X : Selection) → cost (network_of i a) X ≡ area_energy i a X) → Bytes (area_costs i a) → CheapestCost (network_of i a) c → AllMarked (network_of i a) marks → AreaCut i a c marks
area_cut i a c marks l costs bytes (X, cheapest, is) all =
    let v = network_of i a in
    let best = lines_cheapest v marks l all in
    let by_cost : (Y : Selection) → LeastEnergy i a Y → Cheapest v Y = λ Y least Z. omega (arith, least Z, costs Y, costs Z) in
    record {
      best = record {
        least = λ Y. omega (arith, best Y, costs (lines marks), costs Y);
        fewest = λ Y u least there line. line_marked v u (get_or marks u Out) line (mark_of v marks u all there) Y (by_cost Y least);
      };
      energy = omega (arith, is, cheapest (lines marks), best X, costs (lines marks));
      whole = all.0;
      small = omega (arith, is, cheapest (λ _. true), costs (λ _. true), all_lines a.width a.height (area_costs i a) bytes);
    }

-- a lay of an area over a table that is long enough is accepted, and its tile is the network of what was laid
pub area_laid : (i : Image) (a : Area) (w h : ℕ) (s t : State) (bs : List ℕ) (r : Result (Unit {0}) LayRefusal) → OnPage w h a → pixel_count a ≤ length s.table.now → bs ≡ area_costs i a → Laid s a.width a.height bs r t → IsOk r × LaidOn s a.width a.height (area_costs i a) t
area_laid i a w h s t bs (Ok _) on room is (_, laid) = (refl, subst (λ xs. LaidOn s a.width a.height xs t) is laid)
area_laid i a w h s t bs (Err e) on room is (refusal, _) =
    let none : lay_refused s a.width a.height bs ≡ None = rw is (lay_accepted i a w h (length s.table.now) on room) in
    let no : ◌≡◌ {A = Option LayRefusal} None (Some e) = sym none ∙ refusal in
    absurd cc

-- so the cheapest selections of the tile tell the area's best split
pub tile_cut : (i : Image) (a : Area) (s t : State) (c : ℕ) (marks : List Mark) → LaidOn s a.width a.height (area_costs i a) t → Bytes (area_costs i a) → CheapestCost t.net c → AllMarked t.net marks → AreaCut i a c marks
tile_cut i a s t c marks laid bytes cheapest all = area_cut i a c marks laid.lawful laid.energy bytes (subst (λ v. CheapestCost v c) laid.network cheapest) (subst (λ v. AllMarked v marks) laid.network all)
