-- The words that tell an answer.
use Rattle.std.specs.Prelude.{ℕ, List, ◌++◌, codes, decimal}
use Rattle.sheet.specs.declared.Counts.{Counts}
use Rattle.sheet.specs.declared.refusal.Told.{Told}

abbrev pub counts_text : Counts → List ℕ
counts_text c = codes "entries " ++ (decimal c.entries ++ (codes " needs " ++ decimal c.needs))

abbrev pub told_text : Told → List ℕ
told_text t =
    codes "refused " ++ (decimal t.number ++ (codes " record " ++ (decimal t.«record» ++ (codes " byte " ++ decimal t.byte))))
