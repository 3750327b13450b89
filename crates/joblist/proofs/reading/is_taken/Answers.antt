use Rattle.std.proofs.Common.{sym, ◌∙◌, rules}
use borrow.Author.Tests.{tests}
use Rattle.std.specs.Str.{bytes_eq}
use Rattle.std.proofs.lemmas.Iterator.{YieldsList-from_slice}
use Rattle.std.proofs.lemmas.Iterator.Search.{any_from_yields_List}
use Rattle.joblist.specs.declared.entry.Entry.{Entry}
use Rattle.joblist.proofs.Lists.{list_any_map}
use Rattle.joblist.specs.Passes.{value_of}
use Rattle.joblist.proofs.reading.is_taken.Goals as goal

pub returns : goal.returns
returns c = any_from_yields_List (λ (e : Entry). bytes_eq e.name.now c.args.name.now) _ _ _ c.any.ensures.ran (YieldsList-from_slice c.args.entries.now cc) (λ x b q k. search (rules, tests)) ∙ sym (list_any_map _ value_of c.args.entries.now)
