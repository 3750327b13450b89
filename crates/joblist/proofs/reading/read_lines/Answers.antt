use Rattle.std.proofs.Common.{◌≡◌, ◌==◌, ◌+◌, ◌<◌, ℕ, List, [], ◌∷◌, ◌++◌, map, length, get_or, vec_items, Ok, Err, inl, of_calls, rules, refl, sym, ap, ◌∙◌, arith}
use borrow.Author.Tests.{tests}
use Rattle.std.proofs.lemmas.Iterator.Consumers.{YieldsList-at, YieldsList-from_enumerate, YieldsList-turn, YieldsList-end}
use Rattle.std.proofs.lemmas.Iterator.Splits.{YieldsList-from_slice_split}
use Rattle.std.proofs.lemmas.List.{length_push, map-append}
use Rattle.joblist.specs.Lines.{words_of, says}
use Rattle.joblist.proofs.LineByLine.{parts, parts_none, part_skipped, part_read, part_refused, parts_all, line_read_at, parts_read_at, few_left}
use Rattle.joblist.proofs.reading.read_lines.Goals as goal
use Rattle.joblist.specs.Passes.{value_of}
use Rattle.joblist.proofs.reading.read_lines.Goals.{In-Some, After-says}

-- the part that this turn is about, and where it stands
abbrev part : In-Some → ℕ × List ℕ
part c = (c.in-Some.place, c.in-Some.line.now)

turn : (c : In-Some) → (length c.loop-place.yielded < length (parts c.args.text.now)) × (part c ≡ get_or (parts c.args.text.now) (length c.loop-place.yielded) (part c))
turn c = YieldsList-turn (YieldsList-at c.into_iter-place-iterator.ensures.into_iter_gives (YieldsList-from_enumerate (YieldsList-at c.enumerate-place-items.ensures.source (YieldsList-from_slice_split _ (λ b. b == 10) c.args.text.now c.split.ensures.rest c.split.ensures.done c.split.ensures.closure (λ x b q k. search (rules, tests)))) c.enumerate-place-items.ensures.count)) c.loop-place.yielded c.loop-place.place-iterator c.loop-place.yielded_by c.next.result c.next.new.self (c.in-Some.place, c.in-Some.line) c.in-Some.is c.next.ensures.steps

-- it is one more
next : (c : In-Some) → length c.loop-place.yielded + 1 ≡ length (c.loop-place.yielded ++ (c.in-Some.place, c.in-Some.line) ∷ [])
next c = sym (length_push c.loop-place.yielded (c.in-Some.place, c.in-Some.line))

-- whether it says something is what the code asks of its words
speaks : (c : After-says) → says (words_of c.in-Some.line.now) ≡ c.says.result
speaks c = ap says (sym (ap (map (λ word. word.now)) c.deref.ensures.value ∙ c.in_ok-words.ensures)) ∙ sym c.says.ensures

pub loop-place-init : goal.loop-place-init
loop-place-init c =
    let gives = c.into_iter-place-iterator.ensures.into_iter_gives in
    let count : c.into_iter-place-iterator.result.count ≡ 0 = cc in
    let rest : c.into_iter-place-iterator.result.iter.rest.now ≡ c.args.text.now = cc in (
      (search of_calls, tt, inl (few_left c.into_iter-place-iterator.result.count c.into_iter-place-iterator.result.iter.done c.into_iter-place-iterator.result.iter.rest.now c.args.text.now count rest c.requires)),
      tt,
      parts_read_at c.args.text.now 0 0 [] _ refl (ap (map value_of) (sym c.new-entries.ensures.items)) (parts_none c.args.text.now),
    )

pub loop-place-preserved-then-not-says : goal.loop-place-preserved-then-not-says
loop-place-preserved-then-not-says c =
    let this = (goal.at.loop-place-preserved-then-not-says c).In-Some in
    let silent = speaks (goal.at.loop-place-preserved-then-not-says c).After-says ∙ c.if-not-says.true in (
      search of_calls,
      tt,
      parts_read_at c.args.text.now (length c.loop-place.yielded + 1) _ _ _ (next this) refl (part_skipped c.args.text.now (length c.loop-place.yielded) _ (part this) c.loop-place.invariant.2 (turn this).0 (turn this).1 silent),
    )

pub returns-in-Err : goal.returns-in-Err
returns-in-Err c =
    let this = (goal.at.returns-in-Err c).In-Some in
    let told = speaks (goal.at.returns-in-Err c).After-says ∙ c.if-not-says.false in
    let read = line_read_at _ (map value_of (vec_items c.loop-place.entries)) (c.in-Some.place + 1) _ (words_of c.in-Some.line.now) c.in_ok-entry.field-0 (Err c.in-Err.fault) (ap (map value_of) c.deref-in-loop-place.ensures.value) (ap (map (λ word. word.now)) c.deref-in-loop-place-2.ensures.value ∙ c.in_ok-words.ensures) c.in-Err.is c.in_ok-entry.ensures in
    part_refused c.args.text.now (length c.loop-place.yielded) _ (part this) c.in-Err.fault c.loop-place.invariant.2 (turn this).0 (turn this).1 told read

pub loop-place-preserved : goal.loop-place-preserved
loop-place-preserved c =
    let this = (goal.at.loop-place-preserved c).In-Some in
    let told = speaks (goal.at.loop-place-preserved c).After-says ∙ c.if-not-says.false in
    let read = line_read_at _ (map value_of (vec_items c.loop-place.entries)) (c.in-Some.place + 1) _ (words_of c.in-Some.line.now) c.in_ok-entry.field-0 (Ok c.in-Ok.entry) (ap (map value_of) c.deref-in-loop-place.ensures.value) (ap (map (λ word. word.now)) c.deref-in-loop-place-2.ensures.value ∙ c.in_ok-words.ensures) c.in-Ok.is c.in_ok-entry.ensures in
    let pushed : map value_of (vec_items c.loop-place.entries) ++ value_of c.in-Ok.entry ∷ [] ≡ map value_of (vec_items c.push.new.self) = sym (map-append value_of (vec_items c.loop-place.entries) (c.in-Ok.entry ∷ [])) ∙ ap (map value_of) (sym c.in_ok-push-in-Ok.ensures.items) in (
      search of_calls,
      tt,
      parts_read_at c.args.text.now (length c.loop-place.yielded + 1) _ _ _ (next this) pushed (part_read c.args.text.now (length c.loop-place.yielded) _ (part this) c.in-Ok.entry c.loop-place.invariant.2 (turn this).0 (turn this).1 told read),
    )

pub returns : goal.returns
returns c =
    let end = YieldsList-end (YieldsList-at c.into_iter-place-iterator.ensures.into_iter_gives (YieldsList-from_enumerate (YieldsList-at c.enumerate-place-items.ensures.source (YieldsList-from_slice_split _ (λ b. b == 10) c.args.text.now c.split.ensures.rest c.split.ensures.done c.split.ensures.closure (λ x b q k. search (rules, tests)))) c.enumerate-place-items.ensures.count)) c.loop-place.yielded c.loop-place.place-iterator c.loop-place.yielded_by c.next.result c.next.new.self c.in-None.is c.next.ensures.steps in
    parts_all c.args.text.now (length c.loop-place.yielded) _ c.loop-place.invariant.2 (omega (arith, end.1))
