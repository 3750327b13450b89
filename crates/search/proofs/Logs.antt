-- One path more in the log.
use Rattle.std.proofs.Common.{◌≡◌, ℕ, ◌+◌, ◌^◌, ◌<◌, ◌≤◌, Bool, false, cond, List, [], ◌∷◌, ◌++◌, length, take, drop, Some, None, Option, sym, refl, ap, ◌∙◌, ⊎_elim, arith}
use Rattle.std.proofs.lemmas.List.{append-nil, append_assoc, length-append, length-drop, take_at, take-append-le, drop_at, drop-drop}
use Rattle.std.proofs.lemmas.Bool.{cases_lt}
use Rattle.network.specs.declared.terminal.Terminal.TheVariants.{Source, Sink}
use Rattle.network.specs.Nets.{Ends, Graph, Net, Lawful, taken, shifted}
use Rattle.network.specs.Cuts.{cost, node_cost, arc_cost, leaves}
use Rattle.network.specs.Paths.{Path, Augmenting, shifted_along, carried, Successive, carried_all, gain, path_words, trail_words}
use Rattle.network.specs.Theorems.{Lowered}
use Rattle.network.proofs.Sums.{sum_zero, sum_at_most}
use Rattle.network.proofs.Carrying.{paths_lower, few_paths}
use Rattle.search.specs.declared.report.Log.{Log}
use Rattle.search.specs.Trails.{RoomForEach, Logged, SomeLogged, Further, everything, Bounded}

successive_push : (v : Net) (ps : List Path) (p : Path) → Successive v ps → Augmenting (carried_all v ps) p → Successive v (ps ++ p ∷ [])
successive_push v [] p h new = (new, tt)
successive_push v (q ∷ ps) p (first, h) new = (first, successive_push (carried v q) ps p h new)

carried_push : (v : Net) (ps : List Path) (p : Path) → carried_all v (ps ++ p ∷ []) ≡ carried (carried_all v ps) p
carried_push v [] p = refl
carried_push v (q ∷ ps) p = carried_push (carried v q) ps p

-- carrying out paths leaves the graph
along_graph : (v : Net) (arcs : List ℕ) (x : ℕ) → (shifted_along v arcs x).graph ≡ v.graph
along_graph v [] x = refl
along_graph v (a ∷ more) x = along_graph (shifted v a x) more x

carried_graph : (v : Net) (ps : List Path) → (carried_all v ps).graph ≡ v.graph
carried_graph v [] = refl
carried_graph v (p ∷ ps) = carried_graph (carried v p) ps ∙ along_graph (taken v Source p.first p.amount) p.arcs p.amount

gain_push : (ps : List Path) (p : Path) → gain (ps ++ p ∷ []) ≡ gain ps + p.amount
gain_push [] p = omega arith
gain_push (q ∷ ps) p = omega (arith, gain_push ps p)

words_push : (ps : List Path) (p : Path) → trail_words (ps ++ p ∷ []) ≡ trail_words ps ++ path_words p
words_push [] p = append-nil (path_words p)
words_push (q ∷ ps) p = ap (λ (xs : List ℕ). path_words q ++ xs) (words_push ps p) ∙ sym (append_assoc (path_words q) (trail_words ps) (path_words p))

-- words behind those that stand at the beginning of a trail
behind : (xs ys before trail : List ℕ) (n m : ℕ) → n ≡ length xs → trail ≡ xs ++ drop n before → m ≡ n + length ys → take n trail ++ (ys ++ drop m trail) ≡ (xs ++ ys) ++ drop m before
behind xs ys before trail n m is begins more =
    let k = length ys in
    let rest : drop m trail ≡ drop m before = rw (more, ← drop-drop k n trail, begins, drop_at xs (drop n before) n (sym is), drop-drop k n before) in
    rw (rest, begins, take_at xs (drop n before) n (sym is), append_assoc)

-- room for one path more
room_push : (n size : ℕ) (ps : List Path) (p : Path) → RoomForEach n size ps → length (trail_words ps) + (n + 2) ≤ size → RoomForEach n size (ps ++ p ∷ [])
room_push n size ps p room here k below =
    ⊎_elim
    (λ (before : k < length ps). rw (take-append-le k ps (p ∷ []) (omega arith)) (room k before))
    (λ (last : length ps ≤ k). rw (take_at ps (p ∷ []) k (omega (arith, length-append ps (p ∷ [])))) here)
    (cases_lt k (length ps))

-- a trail is as long as before
pub trail_length : {v w : Net} {before after : List ℕ} {log : Log} {ps : List Path} → Logged v w before after log ps → length after ≡ length before
trail_length {before = before} {log = log} {ps = ps} h =
    omega (arith, ap length h.trail, length-append (trail_words ps) (drop log.words before), length-drop log.words before, h.words, h.fits)

-- and the network has as many nodes
pub logged_nodes : {v w : Net} {before after : List ℕ} {log : Log} → SomeLogged v w before after log → w.graph.nodes ≡ v.graph.nodes
logged_nodes {v = v} (ps, h) = ap (λ (x : Net). x.graph.nodes) h.value ∙ ap (λ (g : Graph). g.nodes) (carried_graph v ps)

pub logged_more : {v w x : Net} {before trail after : List ℕ} {log more : Log} {ps : List Path} {p : Path} → Logged v w before trail log ps → Further w x trail after log more p → Logged v x before after more (ps ++ p ∷ [])
logged_more {v = v} {before = before} {trail = trail} {log = log} {more = more} {ps = ps} {p = p} h new =
    let paths = ap (λ (l : Log). l.paths) new.log in
    let gains = ap (λ (l : Log). l.gain) new.log in
    let words = ap (λ (l : Log). l.words) new.log in
    record {
      successive = successive_push v ps p h.successive (rw (← h.value) new.augmenting);
      room = room_push v.graph.nodes (length before) ps p h.room (omega (arith, new.room, h.words, trail_length h, logged_nodes (ps, h)));
      value = new.value ∙ ap (λ (y : Net). carried y p) h.value ∙ sym (carried_push v ps p);
      paths = omega (arith, paths, h.paths, length-append ps (p ∷ []));
      gain = omega (arith, gains, h.gain, gain_push ps p);
      words = omega (arith, words, h.words, ap length (words_push ps p), length-append (trail_words ps) (path_words p));
      fits = omega (arith, new.fits, trail_length h);
      trail = new.trail ∙ behind (trail_words ps) (path_words p) before trail log.words more.words h.words h.trail words ∙ ap (λ (xs : List ℕ). xs ++ drop more.words before) (sym (words_push ps p));
    }

everything_left : (o : Option Ends) → leaves everything o ≡ false
everything_left None = refl
everything_left (Some e) = refl

-- no selection has to cost more than this, so no gain is larger
pub dear : (v : Net) → Lawful v → cost v everything ≤ 2 ^ 52
dear v l =
    let nodes = sum_at_most v.graph.nodes (2 ^ 40) (node_cost v everything) (l.small Sink) in
    let arcs = sum_zero 32768 (arc_cost v everything) (λ a _. ap (λ (b : Bool). cond b (v.residual a) 0) (everything_left (v.graph.ends a))) in
    omega (arith, l.graph.few_nodes)

pub logged_bounded : {v w : Net} {before after : List ℕ} {log : Log} {ps : List Path} → Lawful v → Logged v w before after log ps → Bounded w log
logged_bounded {v = v} {ps = ps} l h =
    let lower = paths_lower v ps l h.successive in
    let is = ap (λ (x : Net). cost x everything) h.value in
    record {
      few = omega (arith, h.paths, h.gain, few_paths v ps h.successive);
      small = omega (arith, is, lower.costs everything, h.gain, dear v l);
    }

-- the graph stays, and so do the laws
pub logged_lowered : {v w : Net} {before after : List ℕ} {log : Log} {ps : List Path} → Lawful v → Logged v w before after log ps → Lowered v log.gain w
logged_lowered {v = v} {ps = ps} l h = rw (h.gain, h.value) (paths_lower v ps l h.successive)
