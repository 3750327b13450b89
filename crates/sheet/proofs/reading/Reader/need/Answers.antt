use Rattle.std.proofs.Common.{rules}
use Rattle.sheet.specs.Readers.{sheet_of}
use Rattle.sheet.proofs.Needs.{slice_get_needs_at}
use Rattle.sheet.proofs.reading.Reader.need.Goals as goal

pub returns : goal.returns
returns c = search (rules, slice_get_needs_at (sheet_of c.args.self.now) c.args.found.now.needs c.args.found.now.count c.args.j)
