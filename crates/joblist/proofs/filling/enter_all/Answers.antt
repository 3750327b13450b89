use Rattle.std.proofs.Common.{◌<◌, map, length, subst, arith}
use Rattle.std.proofs.lemmas.List.{length-map}
use Rattle.book.specs.Calls.{Entered}
use Rattle.book.specs.Values.{open_of}
use Rattle.joblist.specs.Entries.{no_entry}
use Rattle.joblist.proofs.Lists.{value_at}
use Rattle.joblist.proofs.EntryByEntry.{enters, entered_more}
use Rattle.joblist.specs.Passes.{value_of}
use Rattle.joblist.proofs.filling.enter_all.Goals as goal

pub unwrap-requires : goal.unwrap-requires
unwrap-requires c =
    let u = c.loop-entry.entry-index in
    let inside : u < length (map value_of c.args.entries.now) = omega (arith, length-map c.args.entries.now value_of) in
    let here = value_at value_of c.args.entries.now u c.entry-item.result no_entry (omega arith) c.entry-item.is in
    enters (map value_of c.args.entries.now) u (open_of c.args.book.now) (open_of c.loop-entry.book) (open_of c.enter.new.self) (value_of c.entry-item.result) c.enter.result c.requires.sound c.requires.room c.loop-entry.invariant inside here c.enter.ensures

pub loop-entry-preserved : goal.loop-entry-preserved
loop-entry-preserved c =
    let u = c.loop-entry.entry-index in
    let inside : u < length (map value_of c.args.entries.now) = omega (arith, length-map c.args.entries.now value_of) in
    let here = value_at value_of c.args.entries.now u c.entry-item.result no_entry (omega arith) c.entry-item.is in
    let entered = subst (λ answer. Entered (open_of c.loop-entry.book) c.entry-item.result.earning c.entry-item.result.cost answer (open_of c.enter.new.self)) c.unwrap.ensures c.enter.ensures in
    entered_more (map value_of c.args.entries.now) u c.unwrap.result (open_of c.args.book.now) (open_of c.loop-entry.book) (open_of c.enter.new.self) (value_of c.entry-item.result) c.loop-entry.invariant inside here entered
