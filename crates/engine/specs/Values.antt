-- What an answer says.
use Rattle.std.specs.Prelude.{Ok, Err, Result, vec_items}
use Rattle.engine.specs.declared.answer.Plan.{Plan}
use Rattle.engine.specs.declared.refusal.PlanRefusal.{PlanRefusal}
use Rattle.engine.specs.Answers.{Answer}

abbrev pub answer_of : Plan → Answer
answer_of p = record { counts = p.counts; least = p.least; net = p.net; marks = vec_items p.marks }

abbrev pub result_of : Result Plan PlanRefusal → Result Answer PlanRefusal
result_of (Ok p) = Ok (answer_of p)
result_of (Err x) = Err x
