use Rattle.std.proofs.Common.{◌≡◌, ◌<◌, map, length, get_or, vec_items, sym, ap, ◌∙◌, subst, arith}
use Rattle.std.proofs.lemmas.List.{length-map}
use Rattle.std.proofs.lemmas.Result.{err_from_is_err_and}
use Rattle.book.specs.Calls.{Needed}
use Rattle.book.specs.Values.{open_of}
use Rattle.joblist.specs.Entries.{no_entry}
use Rattle.joblist.proofs.Lists.{value_at}
use Rattle.joblist.proofs.NameByName.{names_none, fault_found, number_found, name_enters, name_entered, name_refused}
use Rattle.joblist.proofs.filling.enter_needs.Goals as goal
use Rattle.joblist.specs.Passes.{value_of}
use Rattle.joblist.proofs.filling.enter_needs.Goals.{After-find}

-- the names that the code holds are the entry's
names : (c : After-find) → (get_or (map value_of c.args.entries.now) c.args.number no_entry).needs ≡ map (λ name. name.now) c.as_slice-names.result.now
names c =
    let entry = c.index-entries-number.result in
    let inside : c.args.number < length c.args.entries.now = omega (arith, c.requires.there, length-map c.args.entries.now value_of) in
    ap (λ e. e.needs) (value_at value_of c.args.entries.now c.args.number entry no_entry inside c.index-entries-number.is) ∙ ap (map (λ name. name.now)) (ap (λ e. vec_items e.needs) c.index-entries-number.is ∙ sym c.as_slice-names.ensures.value)

pub loop-place-init : goal.loop-place-init
loop-place-init c = names_none (map value_of c.args.entries.now) c.args.number (open_of c.args.book.now)

pub returns-in_err-needed : goal.returns-in_err-needed
returns-in_err-needed c =
    let es = map value_of c.args.entries.now in
    let are = names (goal.at.returns-in_err-needed c).After-find in
    let inside : c.loop-place.place < length (get_or es c.args.number no_entry).needs = omega (arith, ap length are, length-map c.as_slice-names.result.now (λ name. name.now)) in
    let found = c.in_err-needed.ensures.fault ∙ fault_found es c.args.number c.as_slice-names.result.now c.loop-place.place _ are (omega arith) in
    let given = err_from_is_err_and c.from_residual.result c.from_residual.ensures.1 in
    rw (given.1, given.2) (name_refused es c.args.number c.loop-place.place (open_of c.args.book.now) (open_of c.loop-place.book) c.in_err-needed.field-0.0 c.loop-place.invariant inside (sym found))

pub unwrap-requires : goal.unwrap-requires
unwrap-requires c =
    let es = map value_of c.args.entries.now in
    let are = names (goal.at.unwrap-requires c).After-find in
    let inside : c.loop-place.place < length (get_or es c.args.number no_entry).needs = omega (arith, ap length are, length-map c.as_slice-names.result.now (λ name. name.now)) in
    let none = sym (c.in_ok-needed.ensures.fault ∙ fault_found es c.args.number c.as_slice-names.result.now c.loop-place.place _ are (omega arith)) in
    let number = c.in_ok-needed.ensures.number ∙ number_found es c.args.number c.as_slice-names.result.now c.loop-place.place _ are (omega arith) in
    name_enters es c.args.number c.loop-place.place c.in_ok-needed.needed (open_of c.args.book.now) (open_of c.loop-place.book) (open_of c.need.new.self) c.need.result c.requires c.loop-place.invariant inside none number c.need.ensures

pub loop-place-preserved : goal.loop-place-preserved
loop-place-preserved c =
    let es = map value_of c.args.entries.now in
    let are = names (goal.at.loop-place-preserved c).After-find in
    let inside : c.loop-place.place < length (get_or es c.args.number no_entry).needs = omega (arith, ap length are, length-map c.as_slice-names.result.now (λ name. name.now)) in
    let none = sym (c.in_ok-needed.ensures.fault ∙ fault_found es c.args.number c.as_slice-names.result.now c.loop-place.place _ are (omega arith)) in
    let number = c.in_ok-needed.ensures.number ∙ number_found es c.args.number c.as_slice-names.result.now c.loop-place.place _ are (omega arith) in
    let needed = subst (λ answer. Needed (open_of c.loop-place.book) c.args.number c.in_ok-needed.needed answer (open_of c.need.new.self)) c.unwrap.ensures c.need.ensures in
    name_entered es c.args.number c.loop-place.place c.in_ok-needed.needed (open_of c.args.book.now) (open_of c.loop-place.book) (open_of c.need.new.self) c.loop-place.invariant inside none number needed
