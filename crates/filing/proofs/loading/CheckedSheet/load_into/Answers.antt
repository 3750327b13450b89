use Rattle.std.proofs.Common.{◌≡◌, [], Ok, Err, refl, subst, arith}
use Rattle.std.proofs.lemmas.List.{nil_from_length}
use Rattle.std.proofs.lemmas.Result.{err_from_is_err_and}
use Rattle.sheet.specs.Answers.{Answers}
use Rattle.book.specs.Values.{open_of}
use Rattle.book.proofs.Enterings.{no_entries}
use Rattle.filing.specs.Loads.{Loaded}
use Rattle.filing.specs.declared.refusal.LoadRefusal.TheVariants.{Sheet, ShortTable}
use Rattle.filing.proofs.Ones.{loads_one}
use Rattle.filing.proofs.Wholes.{few_counts, too_short, fitting, fitting_then, all_loaded}
use Rattle.filing.proofs.loading.CheckedSheet.load_into.Goals as goal
use Rattle.filing.proofs.loading.CheckedSheet.load_into.Goals.{After-self, In_ok-counts}

-- the book has no entries
none : (c : After-self) → (open_of c.args.book.now).book.entries ≡ []
none c = nil_from_length _ (omega (arith, c.entry_count.ensures, c.if-entry_count-gt0.false))

-- the sheet was accepted with these counts
read : (c : In_ok-counts) → Answers c.self.inside.sheet.now (Ok c.in_ok-counts.counts)
read c = subst (Answers c.self.inside.sheet.now) c.in_ok-counts.was c.self.invariant.answers

pub returns-in_err-counts-clause-only : goal.returns-in_err-counts-clause-only
returns-in_err-counts-clause-only c =
    let s = open_of c.args.book.now in
    let given = err_from_is_err_and c.from_residual.result c.from_residual.ensures.1 in
    let empty = none (goal.at.returns-in_err-counts-clause-only c).After-self in
    let refused = subst (Answers c.self.inside.sheet.now) c.in_err-counts.was c.self.invariant.answers in
    let loaded = subst (λ bs. Loaded s bs (Err (Sheet c.in_err-counts.field-0.0)) s) c.self.view_is (empty, refused, refl) in
    rw (given.1, given.2) (λ r t h. loads_one s c.args.self.now r (Err (Sheet c.in_err-counts.field-0.0)) t s h loaded)

pub overflow_mul-counts : goal.overflow_mul-counts
overflow_mul-counts c = let few = few_counts c.self.inside.sheet.now c.in_ok-counts.counts (read (goal.at.overflow_mul-counts c).In_ok-counts) in omega (arith, few)

pub overflow_add-counts : goal.overflow_add-counts
overflow_add-counts c = let few = few_counts c.self.inside.sheet.now c.in_ok-counts.counts (read (goal.at.overflow_add-counts c).In_ok-counts) in omega (arith, few)

pub returns-then-record_count-counts-clause-loaded : goal.returns-then-record_count-counts-clause-loaded
returns-then-record_count-counts-clause-loaded c =
    let s = open_of c.args.book.now in
    let at = goal.at.returns-then-record_count-counts-clause-loaded c in
    let short = too_short s c.self.inside.sheet.now c.in_ok-counts.counts c.record_count.result (read at.In_ok-counts) c.record_count.ensures (omega arith) in
    subst (λ bs. Loaded s bs (Err ShortTable) s) c.self.view_is (none at.After-self, short, refl)

pub returns-then-record_count-counts-clause-only : goal.returns-then-record_count-counts-clause-only
returns-then-record_count-counts-clause-only c =
    let s = open_of c.args.book.now in
    λ r t h. loads_one s c.args.self.now r (Err ShortTable) t s h (returns-then-record_count-counts-clause-loaded c)

pub enter_all-requires-clause-fits : goal.enter_all-requires-clause-fits
enter_all-requires-clause-fits c = fitting (open_of c.args.book.now) c.self.inside.sheet.now c.in_ok-counts.counts c.record_count.result (read (goal.at.enter_all-requires-clause-fits c).In_ok-counts) c.record_count.ensures (omega arith)

pub enter_all-requires-clause-new : goal.enter_all-requires-clause-new
enter_all-requires-clause-new c = no_entries c.args.book.now (omega (arith, c.entry_count.ensures, c.if-entry_count-gt0.false))

pub need_all-requires-clause-fits : goal.need_all-requires-clause-fits
need_all-requires-clause-fits c =
    let s = open_of c.args.book.now in
    let fits = fitting s c.self.inside.sheet.now c.in_ok-counts.counts c.record_count.result (read (goal.at.need_all-requires-clause-fits c).In_ok-counts) c.record_count.ensures (omega arith) in
    fitting_then s (open_of c.enter_all.new.book) c.self.inside.sheet.now fits c.enter_all.ensures

pub returns-clause-loaded : goal.returns-clause-loaded
returns-clause-loaded c =
    let s = open_of c.args.book.now in
    let t = open_of c.need_all.new.book in
    let at = goal.at.returns-clause-loaded c in
    let fits = fitting s c.self.inside.sheet.now c.in_ok-counts.counts c.record_count.result (read at.In_ok-counts) c.record_count.ensures (omega arith) in
    let loaded = all_loaded s (open_of c.enter_all.new.book) t c.self.inside.sheet.now c.in_ok-counts.counts (read at.In_ok-counts) fits c.enter_all.ensures c.need_all.ensures in
    subst (λ bs. Loaded s bs (Ok c.in_ok-counts.counts) t) c.self.view_is (none at.After-self, loaded)

pub returns-clause-only : goal.returns-clause-only
returns-clause-only c =
    let s = open_of c.args.book.now in
    let t = open_of c.need_all.new.book in
    λ r u h. loads_one s c.args.self.now r (Ok c.in_ok-counts.counts) u t h (returns-clause-loaded c)
