-- The records that a lay writes mean the network of what is laid.
use Rattle.std.proofs.Common.{◌≡◌, ℕ, ◌+◌, ◌*◌, ◌<◌, ◌≤◌, cond, List, ◌++◌, length, take, drop, sym, refl, ap, ◌∙◌, subst, ⊎_elim, arith}
use Rattle.std.proofs.lemmas.Bool.{cases_lt}
use Rattle.std.proofs.lemmas.Nat.{mul-le}
use Rattle.std.proofs.lemmas.List.{get_or_past, length-append, length-drop, take_at, drop_at}
use Rattle.std.specs.Borrow.{MutBor}
use Rattle.network.specs.declared.terminal.Terminal.{Terminal}
use Rattle.network.specs.declared.terminal.Terminal.TheVariants.{Source, Sink}
use Rattle.network.specs.Nets.{Lawful}
use Rattle.tile.specs.declared.direction.Direction.{Direction}
use Rattle.tile.specs.declared.direction.Direction.TheVariants.{Right, Left, Below, Above}
use Rattle.tile.specs.declared.neighbours.Neighbours.{Neighbours}
use Rattle.tile.specs.declared.pixel.Pixel.{Pixel}
use Rattle.tile.specs.Accepted.{Lays}
use Rattle.tile.specs.Calls.{State, LaidOn}
use Rattle.tile.specs.Grids.{opposite, neighbour, joined, owner, direction_of, grid}
use Rattle.tile.specs.Laws.{owner_of_arc, direction_of_arc, both_joined, each_arc, lawful}
use Rattle.tile.specs.Layings.{first_residual, laid_pixel, AllLaid}
use Rattle.tile.specs.Pixels.{has, terminal_of, residual_of}
use Rattle.tile.specs.Tables.{no_pixel, pixel_at, of_pixels, Told, SmallPairs}
use Rattle.tile.specs.Tiles.{paid_to, penalty_to, tile_network}
use Rattle.tile.proofs.Energies.{no_arc, energy_is_cost}

terminal_laid : (w : ℕ) (bs : List ℕ) (v : ℕ) (m : Neighbours) (t : Terminal) → terminal_of (laid_pixel w bs v m) t ≡ paid_to t bs v
terminal_laid w bs v m Source = refl
terminal_laid w bs v m Sink = refl

residual_laid : (w : ℕ) (bs : List ℕ) (v : ℕ) (m : Neighbours) (d : Direction) → residual_of (laid_pixel w bs v m) d ≡ first_residual w bs v m d
residual_laid w bs v m Right = refl
residual_laid w bs v m Left = refl
residual_laid w bs v m Below = refl
residual_laid w bs v m Above = refl

-- past the last pixel nothing is told
no_terminal : (bs : List ℕ) (n v : ℕ) (t : Terminal) → length bs ≡ 4 * n → n ≤ v → 0 ≡ paid_to t bs v
no_terminal bs n v Source long past = sym (get_or_past bs (4 * v + 1) 0 (omega arith))
no_terminal bs n v Sink long past = sym (get_or_past bs (4 * v) 0 (omega arith))

no_terminal_there : (t : Terminal) → terminal_of no_pixel t ≡ 0
no_terminal_there Source = refl
no_terminal_there Sink = refl

no_residual_there : (d : Direction) → residual_of no_pixel d ≡ 0
no_residual_there Right = refl
no_residual_there Left = refl
no_residual_there Below = refl
no_residual_there Above = refl

pub network_laid : (w h : ℕ) (bs : List ℕ) (pixels : List Pixel) → length bs ≡ 4 * (w * h) → length pixels ≡ w * h → AllLaid w (w * h) bs pixels → of_pixels w pixels ≡ tile_network w h bs
network_laid w h bs pixels told long laid =
    let n = w * h in
    let terminals : (t : Terminal) (v : ℕ) → terminal_of (pixel_at pixels v) t ≡ paid_to t bs v = λ t v. ⊎_elim
    (λ (there : v < n). ap (λ x. terminal_of x t) (laid v there).is ∙ terminal_laid w bs v (pixel_at pixels v).neighbours t)
    (λ (past : n ≤ v). ap (λ x. terminal_of x t) (get_or_past pixels v no_pixel (omega (arith, long))) ∙ no_terminal_there t ∙ no_terminal bs n v t told past)
    (cases_lt v n) in
    let residuals : (d : Direction) (v : ℕ) → residual_of (pixel_at pixels v) d ≡ cond (joined w n d v) (penalty_to w d bs v) 0 = λ d v. ⊎_elim
    (λ (there : v < n). ap (λ x. residual_of x d) (laid v there).is ∙ residual_laid w bs v (pixel_at pixels v).neighbours d ∙ ap (λ b. cond b (penalty_to w d bs v) 0) ((laid v there).known d))
    (λ (past : n ≤ v). ap (λ x. residual_of x d) (get_or_past pixels v no_pixel (omega (arith, long))) ∙ no_residual_there d ∙ sym (ap (λ b. cond b (penalty_to w d bs v) 0) (no_arc w n d v past)))
    (cases_lt v n) in
    λ i. record { graph = grid w (long i); terminal = λ t v. terminals t v i; residual = λ a. residuals (direction_of a) (owner a) i }

pub told_laid : (w n : ℕ) (bs : List ℕ) (pixels : List Pixel) → length pixels ≡ n → AllLaid w n bs pixels → Told w pixels
told_laid w n bs pixels long laid = record {
  small = λ v there. let x = laid v (omega (arith, long)) in (x.fresh.0, x.fresh.1, ap (λ (y : Pixel). length y.residuals) x.is);
  known = λ v there. subst (λ k. (d : Direction) → has (pixel_at pixels v).neighbours d ≡ joined w k d v) (sym long) (laid v (omega (arith, long))).known;
}

pub pairs_laid : (w n : ℕ) (bs : List ℕ) (pixels : List Pixel) → length pixels ≡ n → AllLaid w n bs pixels → SmallPairs (of_pixels w pixels)
pairs_laid w n bs pixels long laid = each_arc w (length pixels) (λ a e. (of_pixels w pixels).residual a + (of_pixels w pixels).residual e.reverse ≤ 510)
    (λ d v there.
    let both = both_joined w (length pixels) d v there in
    let from = (laid v (omega (arith, long, both.pixel))).fresh.2 d in
    let back = (laid (neighbour w d v) (omega (arith, long, both.other))).fresh.2 (opposite d) in
    rw (owner_of_arc d v, direction_of_arc d v, owner_of_arc (opposite d) (neighbour w d v), direction_of_arc (opposite d) (neighbour w d v)) (omega (arith, from, back)))

-- the tile after a lay: what is laid stands in front of its table, and the records behind are as they were
pub laid_on : (s : State) (w h : ℕ) (bs : List ℕ) (table : MutBor (List Pixel)) (new : List Pixel) → Lays w h bs (length s.table.now) → length new ≡ w * h → AllLaid w (w * h) bs new → table.ghost_name ≡ s.table.ghost_name → table.now ≡ new ++ drop (w * h) s.table.now → LaidOn s w h bs (record { table = table; width = w; height = h; net = of_pixels w (take (w * h) table.now) })
laid_on s w h bs table new ok long laid same now =
    let n = w * h in
    let old = s.table.now in
    let few : n ≤ 64 * 64 = mul-le w h 64 64 ok.narrow ok.low in
    let network : of_pixels w new ≡ tile_network w h bs = network_laid w h bs new ok.long long laid in
    record {
      width = refl;
      height = refl;
      network = ap (λ pixels. of_pixels w (take n pixels)) now ∙ ap (of_pixels w) (take_at new (drop n old) n long) ∙ network;
      lawful = subst Lawful network (lawful w new (omega (arith, long)) (told_laid w n bs new long laid) (pairs_laid w n bs new long laid));
      energy = λ X. energy_is_cost w h bs X (omega arith);
      spared = record {
        same_table = same;
        as_long = ap length now ∙ length-append new (drop n old) ∙ omega (arith, long, length-drop n old, ok.room);
        untouched = ap (drop n) now ∙ drop_at new (drop n old) n long;
      };
    }
