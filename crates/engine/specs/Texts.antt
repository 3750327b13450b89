-- The words of an answer.
use Rattle.std.specs.Prelude.{ℕ, ◌+◌, List, [], ◌∷◌, ◌++◌, codes, decimal}
use Rattle.network.specs.declared.mark.Mark.{Mark}
use Rattle.network.specs.Marks.{mark_word}
use Rattle.sheet.specs.Texts.{counts_text}
use Rattle.engine.specs.Answers.{Answer}

-- the line of an entry: its number and its mark
abbrev pub mark_line : ℕ → Mark → List ℕ
mark_line i m = decimal i ++ (codes " " ++ (mark_word m ++ codes "\n"))

-- the lines of entries that follow one another, the first of which has the number i
abbrev pub mark_lines : ℕ → List Mark → List ℕ
mark_lines i [] = []
mark_lines i (m ∷ ms) = mark_line i m ++ mark_lines (i + 1) ms

-- how many entries and needs, what the cheapest selections cost, and the net of the best plans
abbrev pub answer_head : Answer → List ℕ
answer_head a = counts_text a.counts ++ (codes "\nleast " ++ (decimal a.least ++ (codes " net " ++ (decimal a.net ++ codes "\n"))))

abbrev pub answer_text : Answer → List ℕ
answer_text a = answer_head a ++ mark_lines 0 a.marks
