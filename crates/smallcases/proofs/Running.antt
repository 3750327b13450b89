-- Runs whose paths are known: those of a network with one path, and those with too short a trail.
use Rattle.std.proofs.Common.{◌≡◌, ℕ, ◌+◌, ◌<◌, ◌≤◌, List, [], ◌∷◌, ◌++◌, length, drop, Ok, Err, refl, ap, ◌∙◌, subst, arith}
use Rattle.network.specs.Nets.{Net}
use Rattle.network.specs.Paths.{Path, Augmenting, carried, carried_all, Successive, gain, trail_words}
use Rattle.search.specs.declared.report.Outcome.{Outcome}
use Rattle.search.specs.declared.report.Outcome.TheVariants.{Finished, Paused}
use Rattle.search.specs.declared.report.Report.{Report}
use Rattle.search.specs.Runs.{Lent, Ran, Stopped}
use Rattle.search.specs.Trails.{RoomForEach}
use Rattle.smallcases.specs.Cases.{EachRun}

-- the report of a run that carried out these paths, and gained g
abbrev report_of : Outcome → ℕ → List Path → Report
report_of o g ps = record { outcome = o; log = record { paths = length ps; gain = g; words = length (trail_words ps) } }

-- a run that is lent a trail of a fitting size ends so, having carried out the paths qs
abbrev CarriesOut : Net → (ℕ → Type 0) → Outcome → List Path → Type 0
CarriesOut v Fits o qs = (before after : Lent) (r : Report) (w : Net) (ps : List Path) → Fits (length before.trail) → Ran v before r w after ps → (r.outcome ≡ o) × (ps ≡ qs)

-- so its report is known, and its trail
each_run : (v : Net) (Fits : ℕ → Type 0) (o : Outcome) (g : ℕ) (qs : List Path) → gain qs ≡ g → CarriesOut v Fits o qs → EachRun v Fits (report_of o g qs) (trail_words qs)
each_run v Fits o g qs all carries before after (Err e) w fits accepted (refusal, _, _) = cc
each_run v Fits o g qs all carries before after (Ok r) w fits accepted (_, ps, ran) =
    let (ended, are) = carries before after r w ps fits ran in
    let log = ran.logged in
    let gained = log.gain ∙ ap gain are ∙ all in
    let report : r ≡ report_of o g ps = λ i. record { outcome = ended i; log = record { paths = log.paths i; gain = gained i; words = log.words i } } in
    let trail = log.trail ∙ ap (λ (k : ℕ). trail_words ps ++ drop k before.trail) log.words in
    (ap Ok (report ∙ ap (report_of o g) are), trail ∙ ap (λ (xs : List Path). trail_words xs ++ drop (length (trail_words xs)) before.trail) are)

-- where too few words are unused, no path is begun
none_begun : (n size : ℕ) (ps : List Path) → size < n + 2 → RoomForEach n size ps → ps ≡ []
none_begun n size [] few room = refl
none_begun n size (p ∷ ps) few room = absurd (omega (arith, room 0 (omega arith)))

-- a trail that is too short for the path that is left
pub pauses_at_once : (v : Net) (words : ℕ) → (p : Path) × Augmenting v p → words < v.graph.nodes + 2 → EachRun v (λ size. size ≡ words) (report_of Paused 0 []) []
pauses_at_once v words (p, h) few = each_run v (λ size. size ≡ words) Paused 0 [] refl (λ before after r w ps size ran.
    let none = none_begun v.graph.nodes (length before.trail) ps (omega arith) ran.logged.room in
    (by r.outcome w before after r.log.words (ran.logged.value ∙ ap (carried_all v) none) ran.stopped, none))
  where
    by : (o : Outcome) (w : Net) (before after : Lent) (used : ℕ) → w ≡ v → Stopped o v w before after used → o ≡ Paused
    by Paused w before after used same stopped = refl
    by Finished w before after used same (no_path, _) = absurd (no_path p (rw same h))

-- no path at all
pub finishes_at_once : (v : Net) → ((p : Path) → Augmenting v p → ⊥) → EachRun v (λ size. Unit {0}) (report_of Finished 0 []) []
finishes_at_once v none = each_run v (λ size. Unit {0}) Finished 0 [] refl (λ before after r w ps size ran. by r.outcome w before after r.log.words ps ran.logged.successive ran.logged.value ran.stopped)
  where
    by : (o : Outcome) (w : Net) (before after : Lent) (used : ℕ) (ps : List Path) → Successive v ps → w ≡ carried_all v ps → Stopped o v w before after used → (o ≡ Finished) × (ps ≡ [])
    by o w before after used (p ∷ ps) (first, _) is stopped = absurd (none p first)
    by Finished w before after used [] successive is stopped = (refl, refl)
    by Paused w before after used [] successive is ((q, left), _, _) = absurd (none q (subst (λ x. Augmenting x q) is left))

-- a trail with room for the only path
pub finishes : (v : Net) (path : Path) → Augmenting v path → ((p : Path) → Augmenting v p → p ≡ path) → ((p : Path) → Augmenting (carried v path) p → ⊥) → EachRun v (λ size. v.graph.nodes + 2 ≤ size) (report_of Finished path.amount (path ∷ [])) (trail_words (path ∷ []))
finishes v path h only last = each_run v (λ size. v.graph.nodes + 2 ≤ size) Finished path.amount (path ∷ []) (omega arith) (λ before after r w ps size ran.
    by r.outcome w before after r.log.words ps size ran.logged.successive ran.logged.value ran.logged.words ran.stopped)
  where
    by : (o : Outcome) (w : Net) (before after : Lent) (used : ℕ) (ps : List Path) → v.graph.nodes + 2 ≤ length before.trail → Successive v ps → w ≡ carried_all v ps → used ≡ length (trail_words ps) → Stopped o v w before after used → (o ≡ Finished) × (ps ≡ path ∷ [])
    by o w before after used (p ∷ q ∷ ps) room (first, (second, _)) is words stopped = absurd (last q (subst (λ x. Augmenting (carried v x) q) (only p first) second))
    by Finished w before after used [] room successive is words (no_path, _) = absurd (no_path path (rw is h))
    by Finished w before after used (p ∷ []) room (first, _) is words stopped = (refl, ap (λ x. x ∷ []) (only p first))
    by Paused w before after used [] room successive is words (_, short, _) = absurd (omega arith)
    by Paused w before after used (p ∷ []) room (first, _) is words ((q, left), _, _) = absurd (last q (subst (λ x. Augmenting x q) (is ∙ ap (carried v) (only p first)) left))
