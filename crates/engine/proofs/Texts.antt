-- The lines of entries, written one after another.
use Rattle.std.proofs.Common.{◌≡◌, ℕ, suc, ◌+◌, ◌<◌, List, [], ◌∷◌, ◌++◌, length, take, get_or, sym, ap, ◌∙◌, arith}
use Rattle.std.proofs.lemmas.List.{append_assoc, append-nil, length-take-le, take_more}
use Rattle.network.specs.declared.mark.Mark.{Mark}
use Rattle.engine.specs.Texts.{mark_line, mark_lines}

lines_append : (i : ℕ) (ms : List Mark) (m : Mark) → mark_lines i (ms ++ m ∷ []) ≡ mark_lines i ms ++ mark_line (i + length ms) m
lines_append i [] m = append-nil (mark_line i m) ∙ ap (λ j. mark_line j m) (omega arith)
lines_append i (k ∷ ms) m =
    ap (λ xs. mark_line i k ++ xs) (lines_append (i + 1) ms m ∙ ap (λ j. mark_lines (i + 1) ms ++ mark_line j m) (omega arith)) ∙ sym (append_assoc (mark_line i k) (mark_lines (i + 1) ms) (mark_line (i + suc (length ms)) m))

-- one line more
pub lines_more : (head : List ℕ) (ms : List Mark) (k : ℕ) (m : Mark) → k < length ms → head ++ mark_lines 0 (take (k + 1) ms) ≡ (head ++ mark_lines 0 (take k ms)) ++ mark_line k (get_or ms k m)
lines_more head ms k m inside =
    let long : 0 + length (take k ms) ≡ k = omega (arith, length-take-le k ms (omega arith)) in
    let line = lines_append 0 (take k ms) (get_or ms k m) in
    ap (λ xs. head ++ mark_lines 0 xs) (take_more ms k m inside) ∙ ap (λ xs. head ++ xs) (line ∙ ap (λ j. mark_lines 0 (take k ms) ++ mark_line j (get_or ms k m)) long) ∙ sym (append_assoc head (mark_lines 0 (take k ms)) (mark_line k (get_or ms k m)))
