-- The names of an accepted job list.
use Rattle.std.proofs.Common.{◌≡◌, ℕ, suc, ◌<◌, ◌≤◌, Bool, true, false, cond, nat_lt, List, [], ◌∷◌, map, length, get_or, take, Some, None, Ok, Err, Option, Result, sym, refl, ap, ◌∙◌, subst, ⊎_elim, arith}
use Rattle.std.specs.List.{AllByRecursion}
use Rattle.std.specs.Str.{bytes_eq}
use Rattle.std.proofs.lemmas.Bool.{cases_lt, false≢true}
use Rattle.std.proofs.lemmas.List.{get_or-map, get_or-take, length-map, length-take-le}
use Rattle.std.proofs.lemmas.List.Folds.{list_any_at}
use Rattle.std.proofs.lemmas.Slice.Eq.{bytes_eq-Decides}
use Rattle.book.specs.Books.{Book}
use Rattle.joblist.specs.declared.refusal.JobRefusal.{JobRefusal}
use Rattle.joblist.specs.declared.refusal.JobRefusal.TheVariants.{TooLong}
use Rattle.joblist.specs.Lines.{Line, lines_of}
use Rattle.joblist.specs.Entries.{Entry, no_line, no_entry, entry_of}
use Rattle.joblist.specs.Faults.{number_of}
use Rattle.joblist.specs.JobLists.{first_below, line_refusal, name_fault, needs_refusal, book_of, unless, book_of_entries, book_of_lines, book_of_text}
use Rattle.joblist.specs.Names.{name_of, WellNamed}
use Rattle.joblist.proofs.Firsts.{first_each}
use Rattle.joblist.proofs.Soundness.{no_fault, line_passed}
use Rattle.joblist.proofs.NeedNumbers.{needs_told}
use Rattle.joblist.proofs.Numbering.{named, fine}
use Rattle.joblist.proofs.NameByName.{fault_at}

-- What an accepted text is.

not_refused : (b : Bool) (x : JobRefusal) (r : Result Book JobRefusal) (c : Book) → cond b (Err x) r ≡ Ok c → r ≡ Ok c
not_refused true x r c never = let no : ◌≡◌ {A = ℕ} 0 1 = cc in absurd (omega arith)
not_refused false x r c is = is

-- where a book is answered, nothing refused it
not_unless : (o : Option JobRefusal) (r : Result Book JobRefusal) (c : Book) → unless o r ≡ Ok c → (o ≡ None) × (r ≡ Ok c)
not_unless None r c is = (refl, is)
not_unless (Some x) r c never = let no : ◌≡◌ {A = ℕ} 0 1 = cc in absurd (omega arith)

same_book : (b c : Book) → ◌≡◌ {A = Result Book JobRefusal} (Ok b) (Ok c) → b ≡ c
same_book b c is = cc

-- Its names are distinct.

name_told : (ls : List Line) (u : ℕ) → u < length ls → get_or (map entry_of ls) u no_entry ≡ entry_of (get_or ls u no_line)
name_told ls u inside = get_or-map entry_of ls u no_line no_entry inside

never_again : (ls : List Line) (u v : ℕ) → first_below (length ls) (line_refusal ls) ≡ None → u < v → v < length ls → name_of (map entry_of ls) u ≡ name_of (map entry_of ls) v → ⊥
never_again ls u v none earlier inside same =
    let l = get_or ls v no_line in
    let before = take v ls in
    let within : u < length before = omega (arith, length-take-le v ls (omega arith)) in
    let there : u < length (map entry_of before) = omega (arith, length-map before entry_of) in
    let first : get_or (map entry_of before) u no_entry ≡ get_or (map entry_of ls) u no_entry = name_told before u within ∙ (ap entry_of (get_or-take v ls u no_line earlier) ∙ sym (name_told ls u (omega arith))) in
    let name : (get_or (map entry_of before) u no_entry).name ≡ (entry_of l).name = ap (λ (e : Entry). e.name) first ∙ (same ∙ ap (λ (e : Entry). e.name) (name_told ls v inside)) in
    let taken = list_any_at (λ (e : Entry). bytes_eq e.name (entry_of l).name) (map entry_of before) u no_entry there ((bytes_eq-Decides (get_or (map entry_of before) u no_entry).name (entry_of l).name).1 name) in
    false≢true (sym (line_passed ls v none inside).new ∙ taken)

distinct : (ls : List Line) (u v : ℕ) → first_below (length ls) (line_refusal ls) ≡ None → u < length ls → v < length ls → name_of (map entry_of ls) u ≡ name_of (map entry_of ls) v → u ≡ v
distinct ls u v none first second same = ⊎_elim
    (λ (earlier : u < v). absurd (never_again ls u v none earlier second same))
    (λ (not_earlier : v ≤ u). ⊎_elim
    (λ (later : v < u). absurd (never_again ls v u none later first (sym same)))
    (λ (not_later : u ≤ v). omega arith)
    (cases_lt v u))
    (cases_lt u v)

-- What an entry needs.

-- each name has an entry
known : (es : List Entry) (u k : ℕ) → first_below (length es) (needs_refusal es) ≡ None → u < length es → k < length (get_or es u no_entry).needs → number_of es (get_or (get_or es u no_entry).needs k []) < length es
known es u k none inside there =
    let names = (get_or es u no_entry).needs in
    let all = no_fault (get_or es u no_entry).line (name_fault es u) (first_each (needs_refusal es) (length es) u none inside) in
    (fine es u (take k names) (get_or names k []) (first_each (fault_at es u) (length names) k all there)).known

-- and the names of these entries are the names of the line
names_back : (es : List Entry) (names : List (List ℕ)) → ((k : ℕ) → k < length names → number_of es (get_or names k []) < length es) → map (name_of es) (map (number_of es) names) ≡ names
names_back es [] there = refl
names_back es (name ∷ names) there =
    let rest = map (name_of es) (map (number_of es) names) in
    ap (λ first. first ∷ rest) (named es name (there 0 (omega arith))) ∙ ap (λ more. name ∷ more) (names_back es names (λ k inside. there (suc k) (omega arith)))

all_there : (es : List Entry) (names : List (List ℕ)) → ((k : ℕ) → k < length names → number_of es (get_or names k []) < length es) → AllByRecursion (λ w. w < length es) (map (number_of es) names)
all_there es [] there = tt
all_there es (name ∷ names) there = (there 0 (omega arith), all_there es names (λ k inside. there (suc k) (omega arith)))

well_told : (ls : List Line) → first_below (length ls) (line_refusal ls) ≡ None → first_below (length (map entry_of ls)) (needs_refusal (map entry_of ls)) ≡ None → WellNamed (map entry_of ls) (book_of (map entry_of ls))
well_told ls lines needs =
    let es = map entry_of ls in
    let long = length-map ls entry_of in
    record {
      distinct = λ u v first second same. distinct ls u v lines (omega arith) (omega arith) same;
      there = λ u inside. subst (AllByRecursion (λ w. w < length es)) (sym (needs_told es u inside)) (all_there es (get_or es u no_entry).needs (λ k there. known es u k needs inside there));
      named = λ u inside. ap (map (name_of es)) (needs_told es u inside) ∙ names_back es (get_or es u no_entry).needs (λ k there. known es u k needs inside there);
    }

pub well_named : (text : List ℕ) (b : Book) → book_of_text text ≡ Ok b → WellNamed (map entry_of (lines_of text)) b
well_named text b told =
    let ls = lines_of text in
    let es = map entry_of ls in
    let lines = not_unless (first_below (length ls) (line_refusal ls)) (book_of_entries es) b (not_refused (nat_lt 1048576 (length text)) TooLong (book_of_lines ls) b told) in
    let needs = not_unless (first_below (length es) (needs_refusal es)) (Ok (book_of es)) b lines.1 in
    let is : book_of es ≡ b = same_book (book_of es) b needs.1 in
    subst (WellNamed es) is (well_told ls lines.0 needs.0)
