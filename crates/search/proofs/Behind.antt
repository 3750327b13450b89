-- The words of a path written behind those of the log.
use Rattle.std.proofs.Common.{◌≡◌, ℕ, ◌+◌, ◌-◌, ◌<◌, ◌≤◌, min, List, [], ◌∷◌, ◌++◌, length, take, drop, set, sym, ap, ◌∙◌, ⊎_elim, arith}
use borrow.Rule.Slice.PartMut.{put_mid}
use Rattle.std.proofs.lemmas.List.{append_assoc, length-append, length-take-le, take-append-drop}
use Rattle.std.proofs.lemmas.Bool.{cases_eq, cases_lt}
use Rattle.std.proofs.lemmas.Bool.Decides.{nat_tests}
use Rattle.network.specs.declared.terminal.Terminal.TheVariants.{Source, Sink}
use Rattle.network.specs.Nets.{Net}
use Rattle.network.specs.Paths.{Augmenting, carried}
use Rattle.network.proofs.Lists.{distinct_one}
use Rattle.trees.specs.Plantings.{ApartBelow}
use Rattle.trees.specs.Climbs.{Written}
use Rattle.trees.proofs.Writing.{three, written_part}
use Rattle.search.specs.Trails.{node_path}

-- what is written over the part from n on stands behind the first n words
pub put_behind : (trail part ys : List ℕ) (n : ℕ) → n ≤ length trail → Written (take (length trail - n) (drop n trail)) part ys → put_mid n (length trail - n) trail part ≡ take n trail ++ (ys ++ drop (n + length ys) trail)
put_behind trail part ys n room w =
    let xs = take n trail in
    let long : n ≡ length xs = sym (length-take-le n trail room) in
    let whole : Written trail trail xs = sym (take-append-drop n trail) ∙ ap (λ (k : ℕ). xs ++ drop k trail) long in
    let last : length (xs ++ ys) ≡ n + length ys = omega (arith, length-append xs ys) in
    written_part trail trail part xs ys n long whole w ∙ append_assoc xs ys (drop (length (xs ++ ys)) trail) ∙ ap (λ (k : ℕ). xs ++ (ys ++ drop k trail)) last

pub set_three : (before : List ℕ) (a b c : ℕ) → 3 ≤ length before → Written before (set (set (set before 0 a) 1 b) 2 c) (a ∷ b ∷ c ∷ [])
set_three before a b c room = let (x, y, z, more, is) = three before room in rw is

-- a node with residuals at both terminals is a path
pub single : (v : Net) (u x : ℕ) → u < v.graph.nodes → 0 < x → x ≡ min (v.terminal Source u) (v.terminal Sink u) → Augmenting v (node_path u x)
single v u x there some least = record {
  there = there;
  chain = tt;
  distinct = distinct_one u;
  positive = (omega arith, (omega arith, tt));
  amount = record {
    among = ⊎_elim
        (λ (less : v.terminal Source u < v.terminal Sink u). (0, omega arith, omega arith))
        (λ (more : v.terminal Sink u ≤ v.terminal Source u). (1, omega arith, omega arith))
        (cases_lt (v.terminal Source u) (v.terminal Sink u));
    least = (omega arith, (omega arith, tt));
  };
}

-- the paths of single nodes, one node further
pub apart_more : (v : Net) (k : ℕ) → ApartBelow v k → (0 < v.terminal Source k → 0 < v.terminal Sink k → ⊥) → ApartBelow v (k + 1)
apart_more v k apart this u below some more = grind (arith, cases_eq u k, apart u, this)

pub apart_passed : (v w : Net) (k x : ℕ) → ApartBelow v k → x ≡ min (v.terminal Source k) (v.terminal Sink k) → w ≡ carried v (node_path k x) → ApartBelow w (k + 1)
apart_passed v w k x apart least is = rw is (apart_more (carried v (node_path k x)) k (λ u below some more. grind (arith, nat_tests, apart u)) (λ some more. grind (arith, nat_tests)))
