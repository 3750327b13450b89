use Rattle.std.proofs.Common.{◌≡◌, ◌++◌, length, drop, Some, None, Ok, Err, sym, refl, subst, rules}
use Rattle.search.specs.Refusals.{first_refusal}
use Rattle.search.specs.Runs.{Lent, refused, Run, Promise}
use Rattle.search.proofs.Outcomes.{enough, ran}
use Rattle.search.proofs.Promises.{promised}
use Rattle.search.proofs.running.run.Goals as goal

pub returns : goal.returns
returns g c =
    let v = g.N.Network.value c.args.net.now in
    let w = g.N.Network.value c.search.new.net in
    let before : Lent = record { work = c.args.work.now; trail = c.args.trail.now; marks = c.args.marks.now } in
    let m = c.node_count-count.result in
    let after : Lent = record { work = c.search.new.work ++ drop m before.work; trail = c.search.new.trail; marks = c.search.new.marks ++ drop m before.marks } in
    let (ps, logged) = c.search.ensures.logged in
    let none : first_refusal m (length before.work) (length before.marks) ≡ None = search rules in
    let (records, bytes) = enough m (length before.work) (length before.marks) none in
    let long : length c.search.new.work ≡ m = search rules in
    let wide : length c.search.new.marks ≡ m = search rules in
    let yes : refused v.graph.nodes before ≡ None = rw (← c.node_count-count.ensures) none in
    let run : Run v before (Ok c.search.result) w after = (yes, ps, ran v w before c.search.result c.search.new.work c.search.new.trail c.search.new.marks ps m (g.N.Network.lawful c.args.net.now) c.node_count-count.ensures records bytes long wide logged c.search.ensures.ended) in
    record { ran = run; kept = c.search.ensures.kept; refused = tt; promise = promised v before (Ok c.search.result) w after run }

pub returns-in_err-check-clause-promise : goal.returns-in_err-check-clause-promise
returns-in_err-check-clause-promise g c =
    let v = g.N.Network.value c.args.net.now in
    let lent : Lent = record { work = c.args.work.now; trail = c.args.trail.now; marks = c.args.marks.now } in
    let e = c.in_err-check.field-0.0 in
    let some : first_refusal c.node_count-count.result (length lent.work) (length lent.marks) ≡ Some e = search rules in
    let no : refused v.graph.nodes lent ≡ Some e = rw (← c.node_count-count.ensures) some in
    let is : c.from_residual.result ≡ Err e = search rules in
    subst (λ r. Promise v r v lent) (sym is) (promised v lent (Err e) v lent (no, refl, refl))
