use Rattle.std.proofs.Common.{◌≡◌, true, is_ok, ◌∙◌, ◌<◌, length, get_or, subst, arith}
use Rattle.std.proofs.lemmas.List.{take_all}
use Rattle.sheet.specs.Places.{entry_at}
use Rattle.sheet.specs.Readers.{sheet_of}
use Rattle.sheet.proofs.Needs.{length_needs_at}
use Rattle.book.specs.Calls.{Needed}
use Rattle.book.specs.Values.{open_of}
use Rattle.filing.specs.Passes.{Filled, with_needs}
use Rattle.filing.proofs.Needing.{need_there, need_read, enters, needs_more, needed_some}
use Rattle.filing.proofs.loading.enter_needs.Goals as goal
use Rattle.filing.proofs.loading.enter_needs.Goals.{After-need-in-loop-j}

pub unwrap-needed-requires : goal.unwrap-needed-requires
unwrap-needed-requires c =
    let found = c.args.found.now in
    let count = length_needs_at (sheet_of c.args.reader.now) found.needs found.count in
    need_there (entry_at (sheet_of c.args.reader.now) found).needs c.loop-j.j c.need.result (omega (arith, count, c.loop-j-test.true)) c.need.ensures

-- what this turn answered about its need, which was not refused
needed : (c : After-need-in-loop-j) → let ns = (entry_at (sheet_of c.args.reader.now) c.args.found.now).needs in (is_ok c.need-in-loop-j.result ≡ true) × (c.loop-j.j < length ns) × Needed (open_of c.loop-j.book) c.args.found.now.number (get_or ns c.loop-j.j 0) c.need-in-loop-j.result (open_of c.need-in-loop-j.new.self)
needed c =
    let found = c.args.found.now in
    let ns = (entry_at (sheet_of c.args.reader.now) found).needs in
    let inside : c.loop-j.j < length ns = omega (arith, length_needs_at (sheet_of c.args.reader.now) found.needs found.count, c.loop-j-test.true) in
    let read = need_read ns c.loop-j.j c.unwrap-needed.result c.need.result inside c.need.ensures c.unwrap-needed.ensures in
    let told : Needed (open_of c.loop-j.book) found.number (get_or ns c.loop-j.j 0) c.need-in-loop-j.result (open_of c.need-in-loop-j.new.self) = rw read c.need-in-loop-j.ensures in
    (enters (open_of c.args.book.now) (open_of c.loop-j.book) (open_of c.need-in-loop-j.new.self) found.number c.loop-j.j ns c.need-in-loop-j.result c.requires c.loop-j.invariant inside told, inside, told)

pub known-requires : goal.known-requires
known-requires c = c.is_ok.ensures.value ∙ (needed (goal.at.known-requires c).After-need-in-loop-j).0

pub loop-j-preserved : goal.loop-j-preserved
loop-j-preserved c =
    let ns = (entry_at (sheet_of c.args.reader.now) c.args.found.now).needs in
    let (ok, inside, told) = needed (goal.at.loop-j-preserved c).After-need-in-loop-j in
    needs_more (open_of c.args.book.now).book (open_of c.args.book.now) (open_of c.loop-j.book) (open_of c.need-in-loop-j.new.self) c.args.found.now.number c.loop-j.j ns c.loop-j.invariant inside (needed_some _ _ _ _ _ ok told)

pub returns : goal.returns
returns c =
    let found = c.args.found.now in
    let ns = (entry_at (sheet_of c.args.reader.now) found).needs in
    let count = length_needs_at (sheet_of c.args.reader.now) found.needs found.count in
    subst (λ xs. Filled (with_needs (open_of c.args.book.now).book found.number xs) (open_of c.args.book.now) (open_of c.loop-j.book)) (take_all c.loop-j.j ns (omega (arith, count, c.loop-j-test.false))) c.loop-j.invariant
