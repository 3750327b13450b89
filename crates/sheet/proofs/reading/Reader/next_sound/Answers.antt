use Rattle.std.proofs.Common.{◌+◌, None, Some, Ok, refl}
use Rattle.sheet.specs.Places.{Cursor}
use Rattle.sheet.specs.Readers.{sheet_of, cursor}
use Rattle.sheet.proofs.Turns.{in_turn}
use Rattle.sheet.proofs.reading.Reader.next_sound.Goals as goal

pub returns-then-self-clause-in_turn : goal.returns-then-self-clause-in_turn
returns-then-self-clause-in_turn c =
    let s = c.args.self.now in
    in_turn (sheet_of s) (cursor s) (cursor s) (Ok None) (c.if-self.true, refl)

pub returns-clause-in_turn : goal.returns-clause-in_turn
returns-clause-in_turn c = λ e tail sound whole.
    let s = c.args.self.now in
    let found = c.sound_record_at-found.result in
    let to : Cursor = record { at = found.end; number = s.number + 1 } in
    in_turn (sheet_of s) (cursor s) to (Ok (Some found)) (c.sound_record_at-found.ensures.sound (record { entry = e; tail = tail; sound = sound; whole = whole })) e tail sound whole
