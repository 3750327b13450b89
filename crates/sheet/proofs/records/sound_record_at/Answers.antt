use Rattle.std.proofs.Common.{◌∙◌, ap}
use Rattle.sheet.specs.Layout.{laid}
use Rattle.sheet.proofs.Maps.{announced_so}
use Rattle.sheet.proofs.Questions.{laid_sound, sound_out}
use Rattle.sheet.proofs.records.sound_record_at.Goals as goal

pub returns-clause-laid : goal.returns-clause-laid
returns-clause-laid c = c.layout.ensures ∙ ap (laid _ _ _) (c.unwrap_or.ensures ∙ announced_so _ _ c.need_count.ensures)

pub returns-clause-sound : goal.returns-clause-sound
returns-clause-sound c =
    λ ahead. sound_out _ _ _ _ (laid_sound _ _ _ _ _ (λ k. (c.type_inv.sheet k).fits) c.requires c.need_count.ensures (c.layout.ensures ∙ ap (laid _ _ _) c.unwrap_or.ensures) ahead) ahead
