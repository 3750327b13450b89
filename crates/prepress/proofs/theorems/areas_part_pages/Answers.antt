use Rattle.prepress.proofs.Areas.{areas_part_pages}
use Rattle.prepress.proofs.theorems.areas_part_pages.Goals as goal

pub returns : goal.returns
returns c = areas_part_pages
