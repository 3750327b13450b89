use Rattle.std.proofs.Common.{◌≡◌, true, Some, None, is_ok, sym, refl, ◌∙◌, subst}
use Rattle.sheet.specs.Places.{HandedOut, amount, entry_at}
use Rattle.sheet.specs.Readers.{cursor}
use Rattle.sheet.proofs.Turns.{turn_falls}
use Rattle.book.specs.Calls.{Entered}
use Rattle.book.specs.Values.{open_of}
use Rattle.filing.proofs.Standing.{handed}
use Rattle.filing.proofs.Entering.{EntriesRead, entries_none, enters, entered_at, entries_more, entries_all, entered_some}
use Rattle.filing.proofs.loading.enter_all.Goals as goal
use Rattle.filing.proofs.loading.enter_all.Goals.{In-Some, After-enter-entered}

-- the record that this turn was handed
turn : (c : In-Some) → HandedOut c.args.sheet.now (cursor c.loop-found.reader) (cursor c.next_sound.new.self) c.in-Some.found
turn c =
    let fits = c.requires.fits in
    let (same, read) = c.loop-found.invariant in
    handed c.args.sheet.now _ fits.entries (cursor c.loop-found.reader) (cursor c.next_sound.new.self) _ (Some c.in-Some.found) same c.in-Some.is fits.sheet (read fits.entries fits.sheet).standing c.next_sound.ensures.handed

pub loop-found-init : goal.loop-found-init
loop-found-init c = (
  c.new-reader.ensures.sheet,
  λ es x. subst (λ from. EntriesRead c.args.sheet.now es from (open_of c.args.book.now) (open_of c.args.book.now)) (sym c.new-reader.ensures.cursor) (entries_none c.args.sheet.now es (open_of c.args.book.now) x c.requires.new),
)

-- what this turn answered about its entry
entered : (c : After-enter-entered) → Entered (open_of c.loop-found.book) (amount (entry_at c.args.sheet.now c.in-Some.found).earning) (amount (entry_at c.args.sheet.now c.in-Some.found).cost) c.enter-entered.result (open_of c.enter-entered.new.self)
entered c = entered_at c.args.sheet.now _ (open_of c.loop-found.book) (open_of c.enter-entered.new.self) c.in-Some.found _ _ c.enter-entered.result c.enter-entered.result (c.next_sound.ensures.sheet ∙ c.loop-found.invariant.0) c.earning.ensures c.cost.ensures refl c.enter-entered.ensures

-- it was not refused
accepted : (c : After-enter-entered) → HandedOut c.args.sheet.now (cursor c.loop-found.reader) (cursor c.next_sound.new.self) c.in-Some.found → is_ok c.enter-entered.result ≡ true
accepted c out =
    let fits = c.requires.fits in
    let read = c.loop-found.invariant.1 fits.entries fits.sheet in
    enters c.args.sheet.now fits.entries _ _ (open_of c.args.book.now) (open_of c.loop-found.book) (open_of c.enter-entered.new.self) c.in-Some.found c.enter-entered.result fits.sheet fits.room read out (entered c)

pub known-requires : goal.known-requires
known-requires c = c.is_ok.ensures.value ∙ accepted (goal.at.known-requires c).After-enter-entered (turn (goal.at.known-requires c).In-Some)

pub loop-found-smaller : goal.loop-found-smaller
loop-found-smaller c = turn_falls _ _ _ _ (turn (goal.at.loop-found-smaller c).In-Some)

pub loop-found-preserved : goal.loop-found-preserved
loop-found-preserved c =
    let at = goal.at.loop-found-preserved c in
    let some = entered_some _ _ _ _ _ (accepted at.After-enter-entered (turn at.In-Some)) (entered at.After-enter-entered) in
    (c.next_sound.ensures.sheet ∙ c.loop-found.invariant.0, λ es x. entries_more c.args.sheet.now es _ _ (open_of c.args.book.now) (open_of c.loop-found.book) (open_of c.enter-entered.new.self) c.in-Some.found some.0 x (c.loop-found.invariant.1 es x) (turn at.In-Some) some.1)

pub returns : goal.returns
returns c = λ es x.
    let (same, read) = c.loop-found.invariant in
    let end = handed c.args.sheet.now _ es (cursor c.loop-found.reader) (cursor c.next_sound.new.self) _ None same c.in_default.is x (read es x).standing c.next_sound.ensures.handed in
    entries_all c.args.sheet.now es (cursor c.loop-found.reader) (cursor c.next_sound.new.self) _ _ (c.loop-found.invariant.1 es x) end
