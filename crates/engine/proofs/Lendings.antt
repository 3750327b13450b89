-- A sheet that was read is loaded into a table that is as long as it asks for, and planned.
use Rattle.std.proofs.Common.{◌≡◌, ℕ, ◌+◌, ◌*◌, ◌≤◌, List, length, Ok, Err, Result, sym, refl, ap, ◌∙◌, subst, arith}
use Rattle.std.specs.Result.{IsOk}
use lib.ListN.{length-map}
use Rattle.network.specs.Nets.{Net}
use Rattle.search.specs.Runs.{MarksOf, Beyond}
use Rattle.sheet.specs.declared.Counts.{Counts}
use Rattle.sheet.specs.Answers.{Answers}
use Rattle.book.specs.Books.{Book, empty, network_of}
use Rattle.book.specs.Calls.{Open}
use Rattle.book.specs.Plans.{BestPlans, total_earnings}
use Rattle.filing.specs.declared.refusal.LoadRefusal.{LoadRefusal}
use Rattle.filing.specs.declared.refusal.LoadRefusal.TheVariants.{HasEntries, Sheet, ShortTable}
use Rattle.filing.specs.Books.{amounts_of, book_of}
use Rattle.filing.specs.Loads.{Loaded}
use Rattle.filing.proofs.Ones.{no_list}
use Rattle.filing.proofs.Wholes.{fitting}
use Rattle.sheet.proofs.Sheets.{one_list}
use Rattle.engine.specs.Gains.{CutInto}
use Rattle.engine.specs.Lendings.{PlanInto}
use Rattle.engine.proofs.Ones.{worth_of}

pub loads : (bs : List ℕ) (s t : Open) (c : Counts) (r : Result Counts LoadRefusal) → Answers bs (Ok c) → s.book ≡ empty → length s.table.now ≡ c.entries + 2 * c.needs → Loaded s bs r t → IsOk r
loads bs s t c (Ok d) read new size h = refl
loads bs s t c (Err HasEntries) read new size (some, _) = absurd (omega (arith, some, ap (λ (b : Book). length b.entries) new))
loads bs s t c (Err (Sheet x)) (es, sheet, _) new size (_, refused, _) = absurd (no_list bs x es refused sheet)
loads bs s t c (Err ShortTable) read new size (_, over, _) =
    let fits = fitting s bs c (length s.table.now) read refl (omega (arith, size)) in
    let same = one_list bs over.entries fits.entries over.sheet fits.sheet in
    absurd (omega (arith, over.short, subst (λ es. Rattle.book.specs.Calls.used (book_of es) ≤ length s.table.now) (sym same) fits.room))

-- what the cheapest selections of v tell of a book that was loaded, whose network it is
pub planned_into : (bs before after : List ℕ) (s t : Open) (v x : Net) (c : Counts) (least net : ℕ) → Loaded s bs (Ok c) t → v ≡ network_of t.book → BestPlans t.book → least + net ≡ total_earnings t.book → CutInto v x before after (Ok (Ok least)) → PlanInto bs before after (Ok (Ok (record { counts = c; least = least; net = net })))
planned_into bs before after s t v x c least net (_, loaded) is best rest (room, cheapest, marks, beyond, _) =
    let es = loaded.entries in
    let whose : v ≡ network_of (book_of es) = is ∙ ap network_of loaded.book in
    let many : v.graph.nodes ≡ length es = ap (λ (w : Net). w.graph.nodes) whose ∙ length-map es amounts_of in
    let marked : MarksOf (network_of (book_of es)) (length es) after = subst (λ n. MarksOf (network_of (book_of es)) n after) many (subst (λ w. MarksOf w v.graph.nodes after) whose marks) in
    (es, loaded.sheet, worth_of bs s t v c least net loaded is best cheapest rest, marked, subst (λ n. Beyond n before after) many beyond)
