-- What a working table means: its records, and the forest that they tell.
use Rattle.std.specs.Prelude.{ℕ, List}
use Rattle.trees.specs.declared.work.Work.{Work}
use Rattle.trees.specs.Forests.{Forest, forest, work_at}
use Rattle.search.specs.declared.table.Table.{Table}

abbrev pub records_of : Table → List Work
records_of t = t.work.now

abbrev pub record_of : Table → ℕ → Work
record_of t u = work_at t.work.now u

abbrev pub forest_of : Table → Forest
forest_of t = forest t.work.now
