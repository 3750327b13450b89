-- A load has one answer, and leaves one book.
use Rattle.std.proofs.Common.{◌≡◌, ℕ, ◌<◌, List, [], length, Ok, Err, Result, sym, refl, ap, ◌∙◌, subst, arith}
use Rattle.std.specs.Result.{is_ok}
use Rattle.std.proofs.lemmas.Bool.{false≢true}
use Rattle.sheet.specs.declared.Counts.{Counts}
use Rattle.sheet.specs.declared.refusal.SheetRefusal.{SheetRefusal}
use Rattle.sheet.specs.Format.{Entry}
use Rattle.sheet.specs.Sound.{counts}
use Rattle.sheet.specs.Answers.{SheetOf, Answers}
use Rattle.sheet.proofs.Sheets.{one_list, one_answer}
use Rattle.book.specs.Calls.{Open, used}
use Rattle.filing.specs.declared.refusal.LoadRefusal.{LoadRefusal}
use Rattle.filing.specs.declared.refusal.LoadRefusal.TheVariants.{HasEntries, Sheet, ShortTable}
use Rattle.filing.specs.Books.{book_of}
use Rattle.filing.specs.Loads.{TooShort, AllLoaded, Loaded}

-- a sheet's answer as a load's
abbrev passed : Result Counts SheetRefusal → Result Counts LoadRefusal
passed (Ok c) = Ok c
passed (Err x) = Err (Sheet x)

-- a book that has entries is not one that has none
never_both : (s : Open) → 0 < length s.book.entries → s.book.entries ≡ [] → ⊥
never_both s some none = omega (arith, some, ap length none)

-- a sheet that is refused stands for no list
pub no_list : (bs : List ℕ) (x : SheetRefusal) (es : List Entry) → Answers bs (Err x) → SheetOf bs es → ⊥
no_list bs x es a sheet = false≢true (ap is_ok (one_answer bs (Err x) (Ok (counts es)) a (es, sheet, refl)))

-- there is room for a sheet's book, or there is not
never_short : (s t : Open) (bs : List ℕ) (c : Counts) → TooShort s bs → AllLoaded s bs c t → ⊥
never_short s t bs c h k = omega (arith, k.room, subst (λ es. length s.table.now < used (book_of es)) (one_list bs h.entries k.entries h.sheet k.sheet) h.short)

same_loaded : (s t u : Open) (bs : List ℕ) (c d : Counts) → AllLoaded s bs c t → AllLoaded s bs d u → (c ≡ d) × (t.book ≡ u.book)
same_loaded s t u bs c d h k =
    let same = one_list bs h.entries k.entries h.sheet k.sheet in
    (h.are ∙ ap counts same ∙ sym k.are, h.book ∙ ap book_of same ∙ sym k.book)

-- what is loaded, and left, is settled
pub loads_one : (s : Open) (bs : List ℕ) (r q : Result Counts LoadRefusal) (t u : Open) → Loaded s bs r t → Loaded s bs q u → (r ≡ q) × (t.book ≡ u.book)
loads_one s bs (Err HasEntries) (Err HasEntries) t u h k = (refl, ap (λ (o : Open). o.book) (h.1 ∙ sym k.1))
loads_one s bs (Err HasEntries) (Err (Sheet y)) t u h k = absurd (never_both s h.0 k.0)
loads_one s bs (Err HasEntries) (Err ShortTable) t u h k = absurd (never_both s h.0 k.0)
loads_one s bs (Err HasEntries) (Ok d) t u h k = absurd (never_both s h.0 k.0)
loads_one s bs (Err (Sheet x)) (Err HasEntries) t u h k = absurd (never_both s k.0 h.0)
loads_one s bs (Err (Sheet x)) (Err (Sheet y)) t u (none, answers, left) (none_too, answers_too, left_too) = (ap passed (one_answer bs (Err x) (Err y) answers answers_too), ap (λ (o : Open). o.book) (left ∙ sym left_too))
loads_one s bs (Err (Sheet x)) (Err ShortTable) t u (none, answers, left) (none_too, short, left_too) = absurd (no_list bs x short.entries answers short.sheet)
loads_one s bs (Err (Sheet x)) (Ok d) t u (none, answers, left) (none_too, all_loaded) = absurd (no_list bs x all_loaded.entries answers all_loaded.sheet)
loads_one s bs (Err ShortTable) (Err HasEntries) t u h k = absurd (never_both s k.0 h.0)
loads_one s bs (Err ShortTable) (Err (Sheet y)) t u (none, short, left) (none_too, answers, left_too) = absurd (no_list bs y short.entries answers short.sheet)
loads_one s bs (Err ShortTable) (Err ShortTable) t u (none, short, left) (none_too, short_too, left_too) = (refl, ap (λ (o : Open). o.book) (left ∙ sym left_too))
loads_one s bs (Err ShortTable) (Ok d) t u (none, short, left) (none_too, all_loaded) = absurd (never_short s u bs d short all_loaded)
loads_one s bs (Ok c) (Err HasEntries) t u h k = absurd (never_both s k.0 h.0)
loads_one s bs (Ok c) (Err (Sheet y)) t u (none, all_loaded) (none_too, answers, left) = absurd (no_list bs y all_loaded.entries answers all_loaded.sheet)
loads_one s bs (Ok c) (Err ShortTable) t u (none, all_loaded) (none_too, short, left) = absurd (never_short s t bs c short all_loaded)
loads_one s bs (Ok c) (Ok d) t u (none, all_loaded) (none_too, all_too) = let same = same_loaded s t u bs c d all_loaded all_too in (ap Ok same.0, same.1)
