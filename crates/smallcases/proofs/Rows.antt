-- The test of a row of the table, and that the row holds where it passes.
use Rattle.std.proofs.Common.{◌≡◌, Bool, true, ◌&&◌, refl}
use Rattle.std.proofs.lemmas.Bool.{and_parts}
use Rattle.std.specs.List.{AllByRecursion}
use Rattle.network.specs.Cuts.{sum_below}
use Rattle.smallcases.specs.Cases.{Case, Holds, network, table}
use Rattle.smallcases.proofs.Judging.{judged, judge, judged_cost, judged_marks}
use Rattle.smallcases.proofs.Tests.{all_by_test}
use Rattle.smallcases.proofs.Subjects.{code_bound, sound, few_codes}
use Rattle.smallcases.proofs.Paths.{also_test, also_by_test}

abbrev right_answers : Case → Bool
right_answers c = judged (network c.subject) (code_bound c.subject) c.least c.marks && also_test (network c.subject) (code_bound c.subject) c.least c.besides

abbrev row_test : Case → Bool
row_test c = sound c.subject && right_answers c

row_holds : (c : Case) → row_test c ≡ true → Holds c
row_holds c h =
    let v = network c.subject in
    let k = code_bound c.subject in
    let (in_bounds, right) = and_parts (sound c.subject) (right_answers c) h in
    let (answers, also) = and_parts (judged v k c.least c.marks) (also_test v k c.least c.besides) right in
    let few = few_codes c.subject in_bounds in
    let j = judge v k c.least c.marks few answers in
    record {
      least = judged_cost v c.least c.marks j;
      marks = judged_marks v c.least c.marks j;
      besides = also_by_test v k c.least c.marks c.besides few j also;
    }

-- the whole table, by one computation
pub table_holds : AllByRecursion Holds table
unfolding sum_below
table_holds = all_by_test row_test Holds row_holds table refl
