-- The cheapest selections: the closed ones where one costs nothing, the two extreme ones among them, and the marks.
use Rattle.std.proofs.Common.{◌≡◌, ℕ, ◌<◌, Bool, true, false, not, refl, ap, arith}
use Rattle.std.proofs.lemmas.Bool.{not-true}
use Rattle.network.specs.declared.mark.Mark.{Mark}
use Rattle.network.specs.declared.mark.Mark.TheVariants.{In, Out, Either}
use Rattle.network.specs.declared.terminal.Terminal.{Terminal}
use Rattle.network.specs.declared.terminal.Terminal.TheVariants.{Source, Sink}
use Rattle.network.specs.Nets.{Net}
use Rattle.network.specs.Cuts.{Selection, cost, Cheapest, Marked}
use Rattle.network.specs.Sides.{side, mark_by}
use Rattle.network.specs.Theorems.{ClosedFree, CheapestClosed, Extremes, ConstantApart}
use Rattle.network.proofs.Closing.{closed_free, free_closed, reached_side, separate_closed}

pub closed_is_free : ClosedFree
closed_is_free v X l = (closed_free v X, free_closed v X l)

pub cheapest_closed : CheapestClosed
cheapest_closed v X Y l free = (
  λ cheapest. free_closed v Y l (omega (arith, cheapest X)),
  λ closed Z. omega (arith, closed_free v Y closed),
)

-- a node is on a terminal's side of every cheapest selection, or two cheapest selections disagree about it
marked : (v : Net) (S : Terminal → Selection) (u : ℕ) (i o : Bool) → S Source u ≡ i → S Sink u ≡ o → ((t : Terminal) → Cheapest v (side t (S t))) → ((X : Selection) (t : Terminal) → Cheapest v X → S t u ≡ true → side t X u ≡ true) → Marked v u (mark_by i o)
marked v S u true o p q cheapest within = λ X c. within X Source c p
marked v S u false true p q cheapest within = λ X c. not-true (X u) (within X Sink c q)
marked v S u false false p q cheapest within = ((side Sink (S Sink), cheapest Sink, ap not q), (S Source, cheapest Source, p))

pub extremes : Extremes
extremes v S l s =
    let free : (t : Terminal) → cost v (side t (S t)) ≡ 0 = λ t. closed_free v (side t (S t)) (separate_closed v S t l s) in
    let cheapest : (t : Terminal) → Cheapest v (side t (S t)) = λ t Y. omega (arith, free t) in
    let within : (X : Selection) (t : Terminal) (u : ℕ) → Cheapest v X → u < v.graph.nodes → S t u ≡ true → side t X u ≡ true = λ X t u c there on. reached_side v X t u ((cheapest_closed v (S Source) X l (free Source)).0 c) ((s.reached t).sound u there on) in
    record {
      free = (S Source, cheapest Source, free Source);
      cheapest = cheapest;
      within = within;
      marks = λ u there. marked v S u (S Source u) (S Sink u) refl refl cheapest (λ X t c. within X t u c there);
    }

same_marks : (v w : Net) → ((X : Selection) → Cheapest w X → Cheapest v X) → ((X : Selection) → Cheapest v X → Cheapest w X) → (u : ℕ) (m : Mark) → Marked w u m → Marked v u m
same_marks v w up down u In h = λ X c. h X (down X c)
same_marks v w up down u Out h = λ X c. h X (down X c)
same_marks v w up down u Either ((X, c, p), (Y, d, q)) = ((X, up X c, p), (Y, up Y d, q))

pub constant_apart : ConstantApart
constant_apart v w c apart =
    let up : (X : Selection) → Cheapest w X → Cheapest v X = λ X h Y. omega (arith, h Y, apart X, apart Y) in
    let down : (X : Selection) → Cheapest v X → Cheapest w X = λ X h Y. omega (arith, h Y, apart X, apart Y) in
    record {
      up = up;
      down = down;
      costs = λ k (X, h, is). (X, up X h, omega (arith, apart X, is));
      marks = same_marks v w up down;
    }
