use Rattle.std.proofs.Common.{◌≡◌, ◌≤◌, length, take, vec_items, Ok, IfOk, sym, ◌∙◌, subst, arith}
use Rattle.book.specs.Values.{open_of}
use Rattle.filing.specs.Sheets.{sheet_of}
use Rattle.filing.specs.Writes.{Written, LoadsBack}
use Rattle.joblist.proofs.Writing.{is_written, front, front_held}
use Rattle.joblist.proofs.drafting.write_sheet.Goals as goal
use Rattle.joblist.proofs.drafting.write_sheet.Goals.{After-truncate}

pub unwrap-length-requires : goal.unwrap-length-requires
unwrap-length-requires c =
    let room : length (sheet_of (open_of c.args.book.now).book) ≤ length c.deref_mut.result.now = omega (arith, c.write.ensures.short, c.deref_mut.ensures.len, c.in_ok-sheet.ensures.len) in
    is_written (open_of c.args.book.now).book c.deref_mut.result.now c.write.new.buffer c.write.result room c.write.ensures.written

-- the sheet is written
written : (c : After-truncate) → Written (open_of c.args.book.now).book c.deref_mut.result.now (Ok c.unwrap-length.result) c.write.new.buffer
written c = subst (λ answer. Written (open_of c.args.book.now).book c.deref_mut.result.now answer c.write.new.buffer) c.unwrap-length.ensures c.write.ensures.written

-- the vector then holds the front of the buffer
held : (c : After-truncate) → vec_items c.truncate.new.self ≡ take c.unwrap-length.result c.write.new.buffer
held c = c.truncate.ensures.items ∙ front_held c.unwrap-length.result c.in_ok-sheet.sheet.len c.deref_mut.result.now c.write.new.buffer _ (open_of c.args.book.now).book (written c) (sym c.deref_mut.ensures.len)

pub returns-clause-whole : goal.returns-clause-whole
returns-clause-whole c =
    let whole = front (open_of c.args.book.now).book c.deref_mut.result.now c.write.new.buffer c.unwrap-length.result (written c) in
    held c ∙ whole

pub returns-clause-back : goal.returns-clause-back
returns-clause-back c =
    let back = subst (λ answer. IfOk answer (λ n. LoadsBack (open_of c.args.book.now).book (take n c.write.new.buffer))) c.unwrap-length.ensures c.write.ensures.back in
    subst (LoadsBack (open_of c.args.book.now).book) (sym (held c)) back
