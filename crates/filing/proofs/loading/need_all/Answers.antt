use Rattle.std.proofs.Common.{Some, None, sym, ◌∙◌, subst}
use Rattle.sheet.specs.Places.{entry_at, HandedOut}
use Rattle.sheet.specs.Readers.{cursor}
use Rattle.sheet.proofs.Turns.{turn_falls}
use Rattle.book.specs.Values.{open_of}
use Rattle.filing.specs.Passes.{Filled, with_needs, NeedsFit}
use Rattle.filing.proofs.Standing.{handed}
use Rattle.filing.proofs.Needing.{NeedsRead, needs_none, next_fits, needs_turn, needs_all}
use Rattle.filing.proofs.loading.need_all.Goals as goal
use Rattle.filing.proofs.loading.need_all.Goals.{In-Some}

-- the record that this turn was handed
turn : (c : In-Some) → HandedOut c.args.sheet.now (cursor c.loop-found.reader) (cursor c.next_sound.new.self) c.in-Some.found
turn c =
    let fits = c.requires.fits in
    let (same, read) = c.loop-found.invariant in
    handed c.args.sheet.now _ fits.entries (cursor c.loop-found.reader) (cursor c.next_sound.new.self) _ (Some c.in-Some.found) same c.in-Some.is fits.sheet (read fits.entries fits.sheet).standing c.next_sound.ensures.handed

pub loop-found-init : goal.loop-found-init
loop-found-init c = (
  c.new-reader.ensures.sheet,
  λ es x. subst (λ from. NeedsRead c.args.sheet.now es from (open_of c.args.book.now) (open_of c.args.book.now)) (sym c.new-reader.ensures.cursor) (needs_none c.args.sheet.now es (open_of c.args.book.now) x (c.requires.entered es x)),
)

pub enter_needs-requires : goal.enter_needs-requires
enter_needs-requires c =
    let fits = c.requires.fits in
    let same = c.next_sound.ensures.sheet ∙ c.loop-found.invariant.0 in
    subst (λ bs. NeedsFit (open_of c.loop-found.book) c.in-Some.found.number (entry_at bs c.in-Some.found).needs) (sym same) (next_fits c.args.sheet.now fits.entries (cursor c.loop-found.reader) (cursor c.next_sound.new.self) (open_of c.args.book.now) (open_of c.loop-found.book) c.in-Some.found fits.sheet fits.room (c.loop-found.invariant.1 fits.entries fits.sheet) (turn (goal.at.enter_needs-requires c).In-Some))

pub loop-found-smaller : goal.loop-found-smaller
loop-found-smaller c = turn_falls _ _ _ _ (turn (goal.at.loop-found-smaller c).In-Some)

pub loop-found-preserved : goal.loop-found-preserved
loop-found-preserved c =
    let same = c.next_sound.ensures.sheet ∙ c.loop-found.invariant.0 in
    let entered = subst (λ bs. Filled (with_needs (open_of c.loop-found.book).book c.in-Some.found.number (entry_at bs c.in-Some.found).needs) (open_of c.loop-found.book) (open_of c.enter_needs.new.book)) same c.enter_needs.ensures in
    (same, λ es x. needs_turn c.args.sheet.now es (cursor c.loop-found.reader) (cursor c.next_sound.new.self) (open_of c.args.book.now) (open_of c.loop-found.book) (open_of c.enter_needs.new.book) c.in-Some.found x (c.loop-found.invariant.1 es x) (turn (goal.at.loop-found-preserved c).In-Some) entered)

pub returns : goal.returns
returns c = λ es x.
    let (same, read) = c.loop-found.invariant in
    let end = handed c.args.sheet.now _ es (cursor c.loop-found.reader) (cursor c.next_sound.new.self) _ None same c.in_default.is x (read es x).standing c.next_sound.ensures.handed in
    needs_all c.args.sheet.now es (cursor c.loop-found.reader) (cursor c.next_sound.new.self) _ _ (c.loop-found.invariant.1 es x) end
