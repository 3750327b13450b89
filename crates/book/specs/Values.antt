-- What an open book and a sealed one are, that a sealed book keeps the laws of a network, and what else it keeps. Assumes nothing.
use Rattle.std.specs.Prelude.{List, refl}
use Rattle.std.proofs.Common.{◌∙◌, arith}
use Rattle.network.specs.Keeping.{Keeping}
use Rattle.network.specs.Nets.{Net, Lawful}
use Rattle.book.specs.declared.open.OpenBook.{OpenBook}
use Rattle.book.specs.declared.record.Record.{Record}
use Rattle.book.specs.declared.sealed.SealedBook.{SealedBook}
use Rattle.book.specs.Calls.{Open, Shut, StillSealed}
use Rattle.book.specs.Tables.{Columns, columns, book_in, network_in}
use Rattle.book.specs.Laws.{lawful, spared_then}

abbrev pub open_of : OpenBook → Open
open_of b = record { table = b.held.table; book = book_in (columns b.held.table.now b.held.entries b.held.needs) b.held.entries b.held.needs }

-- the table of a sealed book, what it tells, and its value as a network
abbrev pub sealed_table : SealedBook → List Record
sealed_table b = b.held.table.now

abbrev pub sealed_columns : SealedBook → Columns
sealed_columns b = columns (sealed_table b) b.held.entries b.held.needs

abbrev pub sealed_value : SealedBook → Net
sealed_value b = network_in (sealed_columns b) b.held.entries b.held.needs

pub sealed_lawful : (b : SealedBook) → Lawful (sealed_value b)
sealed_lawful b = lawful (sealed_columns b) b.held.entries b.held.needs b.held.few b.bound b.held.amounts b.held.heads b.pairs

abbrev pub sealed_of : SealedBook → Shut
sealed_of b = record { table = b.held.table; entries = b.held.entries; needs = b.held.needs; net = sealed_value b }

abbrev pub sealed_keeps : SealedBook → SealedBook → Type 0
sealed_keeps x y = StillSealed (sealed_of x) (sealed_of y)

pub sealed_keeping : Keeping sealed_keeps
sealed_keeping = record {
  same = λ x. record { entries = refl; needs = refl; spared = record { same_table = refl; untouched = (refl, λ k unused. refl) } };
  then = λ x y z first second. record {
    entries = second.entries ∙ first.entries;
    needs = second.needs ∙ first.needs;
    spared = spared_then (omega (arith, first.entries)) (omega (arith, first.needs)) first.spared (rw (first.entries, first.needs) at second.spared);
  };
}
