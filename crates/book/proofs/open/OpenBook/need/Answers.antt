use Rattle.std.proofs.Common.{rules, arith}
use Rattle.book.proofs.Needings.{need_asked, countable, after_need, entries_long}
use Rattle.book.proofs.open.OpenBook.need.Goals as goal

pub returns-in_err-check : goal.returns-in_err-check
returns-in_err-check c = let same = need_asked c.args.self.now c.args.entry c.args.needed c.records.ensures c.unused.ensures.value in search rules

pub write_need-requires-clause-countable : goal.write_need-requires-clause-countable
write_need-requires-clause-countable c = let b = c.args.self.now in countable b c.args.entry (omega (arith, c.in_ok-check.ensures.accepted.there, entries_long b c.records.ensures))

pub write_need-requires-clause-needed_countable : goal.write_need-requires-clause-needed_countable
write_need-requires-clause-needed_countable c = let b = c.args.self.now in countable b c.args.needed (omega (arith, c.in_ok-check.ensures.accepted.needed_there, entries_long b c.records.ensures))

pub invariant_of-held : goal.invariant_of-held
invariant_of-held c =
    let new = (after_need c.args.self.now c.args.entry c.args.needed c.records.ensures c.unused.ensures.value c.in_ok-check.ensures.accepted c.in_ok-check.ensures.refusal c.write_need.ensures).fine in
    record { few = new.few; room = new.room; amounts = new.kept.amounts; heads = new.kept.heads }

pub invariant_of-self : goal.invariant_of-self
invariant_of-self c =
    let new = (after_need c.args.self.now c.args.entry c.args.needed c.records.ensures c.unused.ensures.value c.in_ok-check.ensures.accepted c.in_ok-check.ensures.refusal c.write_need.ensures).fine.kept in
    record { unsent = new.unsent; noted = new.noted; four = new.four; counted = new.counted; others = new.others; once = new.once; arcs = new.arcs }

pub returns : goal.returns
returns c = (after_need c.args.self.now c.args.entry c.args.needed c.records.ensures c.unused.ensures.value c.in_ok-check.ensures.accepted c.in_ok-check.ensures.refusal c.write_need.ensures).needed
