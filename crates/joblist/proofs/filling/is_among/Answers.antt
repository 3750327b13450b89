use Rattle.std.proofs.Common.{Bor, List, ℕ, sym, ◌∙◌, rules}
use borrow.Author.Tests.{tests}
use Rattle.std.specs.Str.{bytes_eq}
use Rattle.std.proofs.lemmas.Iterator.{YieldsList-from_slice}
use Rattle.std.proofs.lemmas.Iterator.Search.{any_from_yields_List}
use Rattle.joblist.proofs.Lists.{list_any_map}
use Rattle.joblist.proofs.filling.is_among.Goals as goal

pub returns : goal.returns
returns c = any_from_yields_List (λ (other : Bor (List ℕ)). bytes_eq other.now c.args.name.now) _ _ _ c.any.ensures.ran (YieldsList-from_slice c.args.names.now cc) (λ x b q k. search (rules, tests)) ∙ sym (list_any_map _ (λ other. other.now) c.args.names.now)
