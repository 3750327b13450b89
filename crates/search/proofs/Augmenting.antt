-- A traced path, read back from its words.
use Rattle.std.proofs.Common.{◌≡◌, ℕ, ◌+◌, ◌-◌, ◌≤◌, List, ◌++◌, length, take, drop, sym, ap, ◌∙◌, arith}
use borrow.Rule.Slice.PartMut.{put_mid}
use Rattle.std.proofs.lemmas.List.{take_at, drop_at, drop-drop, length-take-le}
use Rattle.network.specs.Nets.{Net, Lawful}
use Rattle.network.specs.Paths.{Path, last_node, path_words}
use Rattle.network.proofs.Pigeons.{few_words}
use Rattle.trees.specs.Forests.{Forest}
use Rattle.search.specs.declared.report.Log.{Log}
use Rattle.search.specs.declared.tracing.Traced.{Traced}
use Rattle.search.specs.Trails.{one_more}
use Rattle.search.specs.Tracings.{Tracing}
use Rattle.search.proofs.Behind.{put_behind}

-- it has few words, and its amount is at most what can still be gained
pub traced_few : {v : Net} {f : Forest} {before after : List ℕ} {r : Traced} {p : Path} → Lawful v → Tracing v f before after r p → 3 + r.arcs ≤ v.graph.nodes + 2
traced_few {v = v} {p = p} l t = omega (arith, few_words v p l t.augmenting, ap (λ (x : Traced). x.arcs) t.told)

pub log_traced : {v : Net} {f : Forest} {before after : List ℕ} {r : Traced} {p : Path} {more : Log} (log : Log) → Tracing v f before after r p → more ≡ record { paths = log.paths + 1; gain = log.gain + r.amount; words = log.words + (3 + r.arcs) } → more ≡ one_more log p
log_traced {r = r} {p = p} log t is =
    let words : 3 + r.arcs ≡ length (path_words p) = omega (arith, ap (λ (x : Traced). x.arcs) t.told) in
    is ∙ (λ i. record { paths = log.paths + 1; gain = log.gain + (t.told i).amount; words = log.words + words i })

-- the path's words stand behind those of the log
pub trail_traced : {v : Net} {f : Forest} {after : List ℕ} {r : Traced} {p : Path} {more : Log} (trail : List ℕ) (log : Log) → log.words ≤ length trail → Tracing v f (take (length trail - log.words) (drop log.words trail)) after r p → more ≡ one_more log p → put_mid log.words (length trail - log.words) trail after ≡ take log.words trail ++ (path_words p ++ drop more.words trail)
trail_traced {after = after} {p = p} trail log room t is =
    put_behind trail after (path_words p) log.words room t.written ∙ ap (λ (l : Log). take log.words trail ++ (path_words p ++ drop l.words trail)) (sym is)

-- the path that the words from a place on tell
abbrev pub read_back : Traced → List ℕ → ℕ → Path
read_back r trail from = record { amount = r.amount; first = r.first; arcs = take (from + r.arcs - from) (drop from trail) }

arcs_back : (p : Path) (trail before rest : List ℕ) (n k : ℕ) → n ≤ length before → trail ≡ take n before ++ (path_words p ++ rest) → k ≡ length p.arcs → take (n + 3 + k - (n + 3)) (drop (n + 3) trail) ≡ p.arcs
arcs_back p trail before rest n k room is long =
    let words = path_words p ++ rest in
    let from : drop (n + 3) trail ≡ p.arcs ++ rest = rw (← drop-drop 3 n trail, is, drop_at (take n before) words n (length-take-le n before room)) in
    rw from (take_at p.arcs rest (n + 3 + k - (n + 3)) (omega arith))

pub read_is : {v : Net} {f : Forest} {after : List ℕ} {r : Traced} {p : Path} (trail : List ℕ) (n : ℕ) → n ≤ length trail → Tracing v f (take (length trail - n) (drop n trail)) after r p → read_back r (put_mid n (length trail - n) trail after) (n + 3) ≡ p
read_is {after = after} {r = r} {p = p} trail n room t =
    let arcs = arcs_back p (put_mid n (length trail - n) trail after) trail (drop (n + length (path_words p)) trail) n r.arcs room (put_behind trail after (path_words p) n room t.written) (ap (λ (x : Traced). x.arcs) t.told) in
    λ i. record { amount = (t.told i).amount; first = (t.told i).first; arcs = arcs i }

pub read_last : {v : Net} {f : Forest} {after : List ℕ} {r : Traced} {p : Path} (trail : List ℕ) (n : ℕ) → n ≤ length trail → Tracing v f (take (length trail - n) (drop n trail)) after r p → r.last ≡ last_node v.graph r.first (read_back r (put_mid n (length trail - n) trail after) (n + 3)).arcs
read_last {v = v} trail n room t =
    ap (λ (x : Traced). x.last) t.told ∙ ap (λ (q : Path). last_node v.graph q.first q.arcs) (sym (read_is trail n room t))
