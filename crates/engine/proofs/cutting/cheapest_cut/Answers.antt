use Rattle.std.proofs.Common.{◌≡◌, length, drop, ◌∙◌, rules}
use Rattle.search.specs.Runs.Runs.{none}
use Rattle.std.proofs.lemmas.List.{take_at}
use Rattle.engine.proofs.Rights.{all_marked, stand_for_marks}
use Rattle.engine.proofs.cutting.cheapest_cut.Goals as goal

pub read_marks-requires : goal.read_marks-requires
read_marks-requires g c =
    let v = g.N.Network.value c.args.net.now in
    let marks = c.cut_into.new.marks in
    let made = rw c.unwrap-cost.ensures at c.in_ok-cut_into.ensures.cut in
    let wide : length marks ≡ c.in_ok-bytes.bytes.len = search rules in
    let long : length marks ≡ v.graph.nodes = search rules in
    let same = c.deref.ensures.value ∙ take_at marks (drop (length marks) c.in_ok-bytes.bytes.items) c.in_ok-bytes.bytes.len wide in
    rw same (stand_for_marks v marks made.2 long)

pub returns-clause-cut : goal.returns-clause-cut
returns-clause-cut g c =
    let v = g.N.Network.value c.args.net.now in
    let marks = c.cut_into.new.marks in
    let made = rw c.unwrap-cost.ensures at c.in_ok-cut_into.ensures.cut in
    let wide : length marks ≡ c.in_ok-bytes.bytes.len = search rules in
    let long : length marks ≡ v.graph.nodes = search rules in
    let same = c.deref.ensures.value ∙ take_at marks (drop (length marks) c.in_ok-bytes.bytes.items) c.in_ok-bytes.bytes.len wide in
    (made.1, all_marked v marks _ made.2 long (c.in_ok-marks.ensures ∙ same))

-- memory ran out before the first run
pub returns-in_err-bytes-clause-runs : goal.returns-in_err-bytes-clause-runs
returns-in_err-bytes-clause-runs g c = (0, (0, none (g.N.Network.lawful c.args.net.now)), search rules)

pub returns-in_err-cut_into-clause-runs : goal.returns-in_err-cut_into-clause-runs
returns-in_err-cut_into-clause-runs g c = (0, rw c.in_err-cut_into.ensures.cut.0 (0, none (g.N.Network.lawful c.args.net.now)), search rules)
