-- The right answer for a book is the only one.
use Rattle.std.proofs.Common.{◌≡◌, ℕ, ◌+◌, ◌<◌, List, map, length, get_or, Some, None, Option, sym, refl, ap, ◌∙◌, subst, arith}
use Rattle.std.specs.Option.{IsSome, MatchOption}
use lib.ListN.{length-map}
use Rattle.std.proofs.lemmas.List.{ext_get_or, get_or-map}
use Rattle.std.proofs.lemmas.Option.{slice_get-get_or, slice_get_within, get_or_from_slice_get}
use Rattle.network.specs.declared.mark.Mark.{Mark}
use Rattle.network.specs.declared.mark.Mark.TheVariants.{In, Out, Either}
use Rattle.network.specs.Marks.{mark_byte}
use Rattle.network.specs.Nets.{Net, Lawful}
use Rattle.network.specs.Cuts.{CheapestCost, Marked, AllMarked}
use Rattle.network.proofs.Duality.{one_mark}
use Rattle.search.specs.Runs.{MarksOf}
use Rattle.book.specs.Books.{Book, network_of}
use Rattle.book.specs.Plans.{BestPlans, total_earnings}
use Rattle.engine.specs.Answers.{Answer, GreatestNet, Right}

-- a network has one cheapest cost
pub one_cost : (v : Net) (c d : ℕ) → CheapestCost v c → CheapestCost v d → c ≡ d
one_cost v c d (X, least, is) (Y, other, same) = omega (arith, least Y, other X)

-- and one list of marks
one_list_of_marks : (v : Net) (ms ks : List Mark) → Lawful v → AllMarked v ms → AllMarked v ks → ms ≡ ks
one_list_of_marks v ms ks l (long, marked) (wide, also) = ext_get_or In ms ks (omega arith) (λ u there.
    let here = slice_get-get_or ms u In there in
    let inside : u < length ks = omega arith in
    let other = slice_get-get_or ks u In inside in
    one_mark v u (get_or ms u In) (get_or ks u In) l (marked u (get_or ms u In) here) (also u (get_or ks u In) other))

-- what is left of the earnings is the net of the best plans
pub greatest_net : (b : Book) (least net : ℕ) → BestPlans b → CheapestCost (network_of b) least → least + net ≡ total_earnings b → GreatestNet b net
greatest_net b least net best (X, cheapest, is) rest = record {
  plan = (X, best.plans X cheapest, omega (arith, best.costs X (best.plans X cheapest)));
  greatest = λ Y plan. omega (arith, best.costs X (best.plans X cheapest), best.greatest X Y cheapest plan);
}

pub one_right : (b : Book) (a c : Answer) → Lawful (network_of b) → Right b a → Right b c → a ≡ c
one_right b a c l first second =
    let least = one_cost (network_of b) a.least c.least first.worth.least second.worth.least in
    let net : a.net ≡ c.net = omega (arith, first.worth.rest, second.worth.rest) in
    let marks = one_list_of_marks (network_of b) a.marks c.marks l first.marks second.marks in
    let entries = first.worth.entries ∙ sym second.worth.entries in
    let needs = first.worth.needs ∙ sym second.worth.needs in
    λ i. record { counts = record { entries = entries i; needs = needs i }; least = least i; net = net i; marks = marks i }

-- a byte that stands for a mark is read as one
pub is_mark : (byte : ℕ) (r : Option Mark) → MatchOption r ((m : Mark) → mark_byte m ≡ byte → ⊥) (λ m. mark_byte m ≡ byte) → (m : Mark) × (byte ≡ mark_byte m) → IsSome r
is_mark byte (Some m) is h = refl
is_mark byte None never (m, is) = absurd (never m (sym is))

-- no two marks have the same byte
one_byte : (m k : Mark) → mark_byte m ≡ mark_byte k → m ≡ k
one_byte In In is = refl
one_byte In Out is = absurd (omega arith)
one_byte In Either is = absurd (omega arith)
one_byte Out In is = absurd (omega arith)
one_byte Out Out is = refl
one_byte Out Either is = absurd (omega arith)
one_byte Either In is = absurd (omega arith)
one_byte Either Out is = absurd (omega arith)
one_byte Either Either is = refl

-- the marks that the bytes of a finished run stand for
pub all_marked : (v : Net) (bytes : List ℕ) (ms : List Mark) → MarksOf v v.graph.nodes bytes → length bytes ≡ v.graph.nodes → map mark_byte ms ≡ bytes → AllMarked v ms
all_marked v bytes ms marks long are = (
  omega (arith, length-map ms mark_byte, ap length are),
  λ u m at.
      let inside : u < length ms = slice_get_within ms u m at in
      let there : u < v.graph.nodes = omega (arith, length-map ms mark_byte, ap length are) in
      let (k, byte, marked) = marks.mark u there in
      let here : get_or bytes u 0 ≡ mark_byte m = rw (← are) (get_or-map mark_byte ms u m 0 inside ∙ ap mark_byte (get_or_from_slice_get ms u m m at)) in
      subst (Marked v u) (one_byte k m (sym byte ∙ here)) marked,
)

pub stand_for_marks : (v : Net) (bytes : List ℕ) → MarksOf v v.graph.nodes bytes → length bytes ≡ v.graph.nodes → (u : ℕ) → u < length bytes → (m : Mark) × (get_or bytes u 0 ≡ mark_byte m)
stand_for_marks v bytes marks long u there = let (m, byte, _) = marks.mark u (omega arith) in (m, byte)
