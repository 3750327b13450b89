-- The refusals of a network, by the number of the question whose answer is no.
use Rattle.std.specs.Prelude.{ℕ}
use Rattle.network.specs.declared.refusal.NetworkRefusal.{NetworkRefusal}
use Rattle.network.specs.declared.refusal.NetworkRefusal.TheVariants.{NoNode, NoArc, AboveResidual}

abbrev pub question : NetworkRefusal → ℕ
question NoNode = 27
question NoArc = 28
question AboveResidual = 29
