use Rattle.std.proofs.Common.{◌≡◌, map, take, vec_items}
use Rattle.network.specs.Marks.{mark_byte}
use Rattle.engine.proofs.cutting.read_marks.Given as goal

abbrev pub invariant-loop-byte : goal.invariant-loop-byte
invariant-loop-byte l = map mark_byte (vec_items l.marks) ≡ take l.byte-index l.fn.bytes
