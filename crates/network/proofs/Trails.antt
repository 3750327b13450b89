-- Paths as words of a trail: they can be read back in one way only.
use Rattle.std.proofs.Common.{◌≡◌, [], ◌∷◌, ◌++◌, length, take, drop, sym, refl, ap, ◌∙◌}
use Rattle.std.proofs.lemmas.List.{take_at, drop_at}
use Rattle.network.specs.Paths.{trail_words}
use Rattle.network.specs.Theorems.{OneReading}

pub one_reading : OneReading
one_reading [] [] same = refl
one_reading [] (q ∷ qs) same = cc
one_reading (p ∷ ps) [] same = cc
one_reading (p ∷ ps) (q ∷ qs) same =
    let long : length p.arcs ≡ length q.arcs = cc in
    let amount : p.amount ≡ q.amount = cc in
    let first : p.first ≡ q.first = cc in
    let rest : p.arcs ++ trail_words ps ≡ q.arcs ++ trail_words qs = cc in
    let n = length q.arcs in
    let arcs = sym (take_at p.arcs (trail_words ps) n long) ∙ ap (take n) rest ∙ take_at q.arcs (trail_words qs) n refl in
    let more = sym (drop_at p.arcs (trail_words ps) n long) ∙ ap (drop n) rest ∙ drop_at q.arcs (trail_words qs) n refl in
    let one : p ≡ q = λ i. record { amount = amount i; first = first i; arcs = arcs i } in
    cc (one, one_reading ps qs more)
