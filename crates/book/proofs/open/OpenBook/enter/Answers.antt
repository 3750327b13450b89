use Rattle.book.proofs.Enterings.{after_entry}
use Rattle.book.proofs.open.OpenBook.enter.Goals as goal

pub invariant_of-held : goal.invariant_of-held
invariant_of-held c =
    let new = (after_entry c.args.self.now c.args.earning c.args.cost c.entry_count.ensures c.unused.ensures.value c.in_ok-check.ensures.accepted c.in_ok-check.ensures.refusal c.entry.ensures).fine in
    record { few = new.few; room = new.room; amounts = new.kept.amounts; heads = new.kept.heads }

pub invariant_of-self : goal.invariant_of-self
invariant_of-self c =
    let new = (after_entry c.args.self.now c.args.earning c.args.cost c.entry_count.ensures c.unused.ensures.value c.in_ok-check.ensures.accepted c.in_ok-check.ensures.refusal c.entry.ensures).fine.kept in
    record { unsent = new.unsent; noted = new.noted; four = new.four; counted = new.counted; others = new.others; once = new.once; arcs = new.arcs }

pub returns : goal.returns
returns c = (after_entry c.args.self.now c.args.earning c.args.cost c.entry_count.ensures c.unused.ensures.value c.in_ok-check.ensures.accepted c.in_ok-check.ensures.refusal c.entry.ensures).entered
