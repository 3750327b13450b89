-- An input has one answer, since a sheet has one and a book has one.
use Rattle.std.proofs.Common.{◌≡◌, ℕ, ◌+◌, ◌<◌, ◌≤◌, List, length, Ok, Err, Result, sym, refl, ap, ◌∙◌, subst, arith}
use lib.ListN.{length-map}
use Rattle.network.specs.declared.mark.Mark.{Mark}
use Rattle.network.specs.Nets.{Net, Lawful}
use Rattle.network.specs.Cuts.{CheapestCost, AllMarked}
use Rattle.book.specs.Books.{Book, empty, network_of}
use Rattle.book.specs.Calls.{Open, used}
use Rattle.book.specs.Plans.{BestPlans, total_earnings}
use Rattle.sheet.specs.declared.Counts.{Counts}
use Rattle.sheet.specs.declared.refusal.SheetRefusal.{SheetRefusal}
use Rattle.sheet.specs.Format.{Entry}
use Rattle.sheet.specs.Answers.{SheetOf, Answers}
use Rattle.sheet.proofs.Sheets.{one_list, one_answer}
use Rattle.filing.proofs.Ones.{no_list}
use Rattle.filing.proofs.Needing.{length_needs}
use Rattle.filing.specs.declared.refusal.LoadRefusal.{LoadRefusal}
use Rattle.filing.specs.declared.refusal.LoadRefusal.TheVariants.{HasEntries, Sheet, ShortTable}
use Rattle.filing.specs.Books.{amounts_of, book_of}
use Rattle.filing.specs.Loads.{Loaded, AllLoaded}
use Rattle.engine.specs.declared.refusal.PlanRefusal.{PlanRefusal}
use Rattle.engine.specs.declared.refusal.PlanRefusal.TheVariants.{TooLong, Load}
use Rattle.engine.specs.Answers.{Answer, GreatestNet, Worth, Right}
use Rattle.engine.specs.Plans.{Planned, ThePlan}
use Rattle.engine.proofs.Rights.{one_right, greatest_net}

refused_sheet : (bs : List ℕ) (x : SheetRefusal) → length bs ≤ 8192 → Answers bs (Err x) → (s : Result Answer PlanRefusal) → Planned bs s → s ≡ Err (Load (Sheet x))
refused_sheet bs x short refused (Ok a) (_, es, sheet, _, _) = absurd (no_list bs x es refused sheet)
refused_sheet bs x short refused (Err TooLong) long = absurd (omega arith)
refused_sheet bs x short refused (Err (Load HasEntries)) (_, never) = absurd never
refused_sheet bs x short refused (Err (Load (Sheet y))) (_, other) = let same = one_answer bs (Err x) (Err y) refused other in cc
refused_sheet bs x short refused (Err (Load ShortTable)) (_, over) = absurd (no_list bs x over.0 refused over.1)

short_table : (bs : List ℕ) (es : List Entry) → length bs ≤ 8192 → SheetOf bs es → 2048 < used (book_of es) → (s : Result Answer PlanRefusal) → Planned bs s → s ≡ Err (Load ShortTable)
short_table bs es short sheet over (Ok a) (_, ds, other, room, _) = let same = one_list bs es ds sheet other in absurd (omega (arith, ap (λ xs. used (book_of xs)) same))
short_table bs es short sheet over (Err TooLong) long = absurd (omega arith)
short_table bs es short sheet over (Err (Load HasEntries)) (_, never) = absurd never
short_table bs es short sheet over (Err (Load (Sheet x))) (_, refused) = absurd (no_list bs x es refused sheet)
short_table bs es short sheet over (Err (Load ShortTable)) h = refl

planned : (bs : List ℕ) (es : List Entry) (a : Answer) → length bs ≤ 8192 → SheetOf bs es → used (book_of es) ≤ 2048 → Lawful (network_of (book_of es)) → Right (book_of es) a → (s : Result Answer PlanRefusal) → Planned bs s → s ≡ Ok a
planned bs es a short sheet room l right (Ok c) (_, ds, other, _, also) =
    let same = one_list bs ds es other sheet in
    ap Ok (one_right (book_of es) c a l (subst (λ xs. Right (book_of xs) c) same also) right)
planned bs es a short sheet room l right (Err TooLong) long = absurd (omega arith)
planned bs es a short sheet room l right (Err (Load HasEntries)) (_, never) = absurd never
planned bs es a short sheet room l right (Err (Load (Sheet x))) (_, refused) = absurd (no_list bs x es refused sheet)
planned bs es a short sheet room l right (Err (Load ShortTable)) (_, over) = let same = one_list bs es over.0 sheet over.1 in absurd (omega (arith, over.2, ap (λ xs. used (book_of xs)) same))

-- the answer to one that is not loaded, into the new book s over 2,048 records
pub the_refusal : (bs : List ℕ) (s t : Open) (x : LoadRefusal) → length bs ≤ 8192 → s.book ≡ empty → length s.table.now ≡ 2048 → Loaded s bs (Err x) t → ThePlan bs (Err (Load x))
the_refusal bs s t HasEntries short new size (some, _) = absurd (omega (arith, some, ap (λ (b : Book). length b.entries) new))
the_refusal bs s t (Sheet x) short new size (_, refused, _) = record { answers = (short, refused); only = refused_sheet bs x short refused }
the_refusal bs s t ShortTable short new size (_, over, _) =
    let more : 2048 < used (book_of over.entries) = omega (arith, over.short) in
    record { answers = (short, (over.entries, over.sheet, more)); only = short_table bs over.entries short over.sheet more }

-- what the cheapest selections of v tell of a book that was loaded, whose network it is
pub worth_of : (bs : List ℕ) (s t : Open) (v : Net) (c : Counts) (least net : ℕ) (loaded : AllLoaded s bs c t) → v ≡ network_of t.book → BestPlans t.book → CheapestCost v least → least + net ≡ total_earnings t.book → Worth (book_of loaded.entries) c least net
worth_of bs s t v c least net loaded is best cheapest rest =
    let es = loaded.entries in
    let left : least + net ≡ total_earnings (book_of es) = rw loaded.book at rest in
    record {
      entries = ap (λ (k : Counts). k.entries) loaded.are ∙ sym (length-map es amounts_of);
      needs = ap (λ (k : Counts). k.needs) loaded.are ∙ sym (length_needs 0 es);
      least = subst (λ w. CheapestCost w least) (is ∙ ap network_of loaded.book) cheapest;
      rest = left;
      net = subst (λ b. GreatestNet b net) loaded.book (greatest_net t.book least net best (subst (λ w. CheapestCost w least) is cheapest) rest);
    }

-- the answer to one that is: what the cheapest selections of v tell, the network of its book
pub the_plan : (bs : List ℕ) (s t : Open) (v : Net) (c : Counts) (least net : ℕ) (marks : List Mark) → length bs ≤ 8192 → length s.table.now ≡ 2048 → Loaded s bs (Ok c) t → v ≡ network_of t.book → Lawful (network_of t.book) → BestPlans t.book → CheapestCost v least → least + net ≡ total_earnings t.book → AllMarked v marks → ThePlan bs (Ok (record { counts = c; least = least; net = net; marks = marks }))
the_plan bs s t v c least net marks short size (_, loaded) is lawful best cheapest rest marked =
    let es = loaded.entries in
    let room : used (book_of es) ≤ 2048 = omega (arith, loaded.room) in
    let right : Right (book_of es) (record { counts = c; least = least; net = net; marks = marks }) = record {
      worth = worth_of bs s t v c least net loaded is best cheapest rest;
      marks = subst (λ w. AllMarked w marks) (is ∙ ap network_of loaded.book) marked;
    } in
    record {
      answers = (short, es, loaded.sheet, room, right);
      only = planned bs es _ short loaded.sheet room (subst (λ b. Lawful (network_of b)) loaded.book lawful) right;
    }
