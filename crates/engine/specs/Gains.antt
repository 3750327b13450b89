-- What runs that are repeated leave of a network.
use Rattle.std.specs.Prelude.{◌≡◌, ℕ, ◌<◌, ◌≤◌, IfOk, List, length, Ok, Err, Result}
use Rattle.std.specs.declared.alloc.AllocError.{AllocError}
use Rattle.network.specs.Nets.{Net}
use Rattle.network.specs.Cuts.{CheapestCost}
use Rattle.search.specs.declared.refusal.RunRefusal.{RunRefusal}
use Rattle.search.specs.declared.refusal.RunRefusal.TheVariants.{FewMarks}
use Rattle.search.specs.Runs.{Runs, MarksOf, Beyond}
use Rattle.engine.specs.declared.cutting.Cut.{Cut}

-- runs led from v to w, and gained g
abbrev pub Gained : Net → Net → ℕ → Type 0
Gained v w g = (k : ℕ) × Runs v w g k

-- some runs led from v to w; where memory sufficed, the cost that is answered is all that they gained
abbrev pub RunsLed : Net → Net → Result Cut AllocError → Type 0
RunsLed v w r = (g : ℕ) × Gained v w g × IfOk r (λ cut. cut.cost ≡ g)

-- what is answered and left where the network v is cut, and the marks of its nodes are written to bytes: where memory ran out, and
-- where there are fewer bytes than nodes, value and bytes are as they were
abbrev pub CutInto : Net → Net → List ℕ → List ℕ → Result (Result ℕ RunRefusal) AllocError → Type 0
CutInto v w before after (Err _) = (w ≡ v) × (after ≡ before)
CutInto v w before after (Ok (Err x)) = (x ≡ FewMarks) × (length before < v.graph.nodes) × (w ≡ v) × (after ≡ before)
CutInto v w before after (Ok (Ok cost)) = (v.graph.nodes ≤ length before) × CheapestCost v cost × MarksOf v v.graph.nodes after × Beyond v.graph.nodes before after × Gained v w cost
