use Rattle.std.proofs.Common.{refl, ◌∙◌, rules}
use borrow.Author.Tests.{tests}
use Rattle.std.specs.Str.{bytes_eq}
use Rattle.std.proofs.lemmas.Iterator.{YieldsList-from_slice}
use Rattle.std.proofs.lemmas.Iterator.Search.{position_from_yields_List}
use Rattle.std.proofs.lemmas.List.{length-map}
use Rattle.joblist.specs.declared.entry.Entry.{Entry}
use Rattle.joblist.proofs.Lists.{position_map}
use Rattle.joblist.specs.Passes.{value_of}
use Rattle.joblist.proofs.filling.place_of.Goals as goal

pub returns : goal.returns
returns c =
    let found = position_from_yields_List (λ (e : Entry). bytes_eq e.name.now c.args.name.now) _ _ c.position.result c.position.ensures.ran (YieldsList-from_slice c.args.entries.now cc) (λ x b q k. search (rules, tests)) in
    found ∙ rw (position_map (λ e. bytes_eq e.name c.args.name.now) value_of c.args.entries.now, length-map c.args.entries.now value_of) refl
