use Rattle.engine.proofs.Histories.{book_promised}
use Rattle.engine.proofs.books.SealedBookRunnable.run.Goals as goal

pub returns-clause-promise : goal.returns-clause-promise
returns-clause-promise c = book_promised _ _ _ _ c.run.ensures.promise
