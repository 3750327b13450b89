use Rattle.engine.proofs.Rights.{is_mark}
use Rattle.engine.proofs.cutting.read_marks.Goals as goal

pub unwrap-requires : goal.unwrap-requires
unwrap-requires c = is_mark _ c.of.result c.of.ensures (c.requires c.loop-byte.byte-index c.loop-byte-test.true)
