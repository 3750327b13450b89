-- The third pass for one entry: what it needs, name by name.
use Rattle.std.proofs.Common.{◌≡◌, Bor, ℕ, suc, ◌+◌, ◌<◌, ◌≤◌, true, List, [], map, length, get_or, take, Some, None, Ok, Option, Result, sym, refl, ap, ◌∙◌, subst, arith}
use Rattle.std.specs.Result.{is_ok}
use Rattle.std.proofs.lemmas.List.{append-nil, get_or-map, length-append, length-map, length-take-le, take-map}
use Rattle.book.specs.declared.refusal.NeedRefusal.{NeedRefusal}
use Rattle.book.specs.Accepted.{Needs}
use Rattle.book.specs.Books.{Book, needs_of}
use Rattle.book.specs.Calls.{Open, unused, need_refused, Needed}
use Rattle.book.proofs.Keeping.{needs_of_both}
use Rattle.filing.specs.Books.{needs_by, needs_from}
use Rattle.filing.specs.Passes.{Filled, with_needs}
use Rattle.filing.proofs.Filling.{filled_none}
use Rattle.filing.proofs.NeedLists.{needs_of_own, length_by, needs_of_before}
use Rattle.filing.proofs.Needing.{no_refusal, needed_ok, needs_more}
use Rattle.joblist.specs.declared.refusal.Fault.{Fault}
use Rattle.joblist.specs.Entries.{Entry, no_entry}
use Rattle.joblist.specs.Faults.{number_of, need_fault}
use Rattle.joblist.specs.JobLists.{first_below, name_fault, numbers}
use Rattle.joblist.specs.Passes.{NeedsFit, numbers_of}
use Rattle.joblist.proofs.Firsts.{first_none, first_next, first_stays}
use Rattle.joblist.proofs.NeedNumbers.{needs_few_before}
use Rattle.joblist.proofs.Numbering.{fresh, fine}

-- the fault of name number k that entry number u needs
abbrev pub fault_at : List Entry → ℕ → ℕ → Option Fault
fault_at es u k = let names = (get_or es u no_entry).needs in need_fault es u (take k names) (get_or names k [])

-- the first n names that entry number u needs are entered
pub record NamesEntered (es : List Entry) (u n : ℕ) (s t : Open) : Type 0 where
  pub passed : first_below n (fault_at es u) ≡ None
  pub filled : Filled (with_needs s.book u (take n (numbers_of es u))) s t

pub names_none : (es : List Entry) (u : ℕ) (s : Open) → NamesEntered es u 0 s s
names_none es u s = record {
  passed = first_none (fault_at es u);
  filled = subst (λ ns. Filled (record { entries = s.book.entries; needs = ns }) s s) (sym (append-nil s.book.needs)) (filled_none s);
}

-- the book then has the same entries, and entry u needs the first k of its names
entries_kept : (es : List Entry) (u k : ℕ) (s t : Open) → NeedsFit es u s → NamesEntered es u k s t → length t.book.entries ≡ length es
entries_kept es u k s t fits entered = ap (λ (b : Book). length b.entries) entered.filled.book ∙ (ap (λ (b : Book). length b.entries) fits.book ∙ length-map es (λ e. e.amounts))

needs_kept : (es : List Entry) (u k : ℕ) (s t : Open) → NeedsFit es u s → NamesEntered es u k s t → needs_of u t.book.needs ≡ take k (numbers_of es u)
needs_kept es u k s t fits entered =
    let ns = numbers_of es u in
    let own : needs_of u s.book.needs ≡ [] = ap (λ (b : Book). needs_of u b.needs) fits.book ∙ needs_of_before u 0 (take u (map (numbers es) es)) (omega (arith, length-take-le u (map (numbers es) es) (omega (arith, length-map es (numbers es), fits.there)))) in
    ap (λ (b : Book). needs_of u b.needs) entered.filled.book ∙ (needs_of_both u s.book.needs (needs_by u (take k ns)) ∙ rw (own, needs_of_own u (take k ns)) refl)

-- the book has room for it
room_left : (es : List Entry) (u k : ℕ) (s t : Open) → NeedsFit es u s → NamesEntered es u k s t → k < length (get_or es u no_entry).needs → 2 ≤ unused t
room_left es u k s t fits entered inside =
    let long = length-take-le k (numbers_of es u) (omega (arith, length-map (get_or es u no_entry).needs (number_of es))) in
    let entries : length t.book.entries ≡ length es = entries_kept es u k s t fits entered in
    let needs : length t.book.needs ≡ length (needs_from 0 (take u (map (numbers es) es))) + length (take k (numbers_of es u)) = ap (λ (b : Book). length b.needs) entered.filled.book ∙ omega (arith, length-append s.book.needs (needs_by u (take k (numbers_of es u))), length_by u (take k (numbers_of es u)), ap (λ (b : Book). length b.needs) fits.book) in
    let before = needs_few_before es u fits.sound fits.there in
    let four = fits.sound.needs u fits.there in
    omega (arith, fits.room, fits.there, fits.sound.few, entered.filled.spared.untouched.0)

-- so no question of the book refuses it
passes : (es : List Entry) (u k : ℕ) (s t : Open) → NeedsFit es u s → NamesEntered es u k s t → k < length (get_or es u no_entry).needs → fault_at es u k ≡ None → need_refused t u (get_or (numbers_of es u) k 0) ≡ None
passes es u k s t fits entered inside none =
    let names = (get_or es u no_entry).needs in
    let name = get_or names k [] in
    let f = fine es u (take k names) name none in
    let number : get_or (numbers_of es u) k 0 ≡ number_of es name = get_or-map (number_of es) names k [] 0 inside in
    let entries : length t.book.entries ≡ length es = entries_kept es u k s t fits entered in
    let needs : Needs u (number_of es name) (take k (numbers_of es u)) (length t.book.entries) (unused t) = record {
      there = omega (arith, fits.there);
      needed_there = omega (arith, f.known);
      others = f.other;
      fresh = rw (take-map (number_of es) k names) (fresh es (take k names) name f.known f.new);
      few = omega (arith, length-take-le k (numbers_of es u) (omega (arith, length-map names (number_of es))), fits.sound.needs u fits.there);
      room = room_left es u k s t fits entered inside;
    } in
    rw (needs_kept es u k s t fits entered, number) (no_refusal u (number_of es name) (take k (numbers_of es u)) (length t.book.entries) (unused t) needs)

-- What is found of the names that the code holds is found of the entry's.

names_at : (es : List Entry) (u : ℕ) (names : List (Bor (List ℕ))) (k : ℕ) (d : Bor (List ℕ)) → (get_or es u no_entry).needs ≡ map (λ name. name.now) names → k < length names → (map (λ name. name.now) (take k names) ≡ take k (get_or es u no_entry).needs) × ((get_or names k d).now ≡ get_or (get_or es u no_entry).needs k [])
names_at es u names k d are inside = (
  sym (ap (take k) are ∙ take-map (λ (name : Bor (List ℕ)). name.now) k names),
  sym (ap (λ ws. get_or ws k []) are ∙ get_or-map (λ (name : Bor (List ℕ)). name.now) names k d [] inside),
)

pub fault_found : (es : List Entry) (u : ℕ) (names : List (Bor (List ℕ))) (k : ℕ) (d : Bor (List ℕ)) → (get_or es u no_entry).needs ≡ map (λ name. name.now) names → k < length names → need_fault es u (map (λ name. name.now) (take k names)) (get_or names k d).now ≡ fault_at es u k
fault_found es u names k d are inside =
    let same = names_at es u names k d are inside in
    ap (λ ws. need_fault es u ws (get_or names k d).now) same.0 ∙ ap (need_fault es u (take k (get_or es u no_entry).needs)) same.1

pub number_found : (es : List Entry) (u : ℕ) (names : List (Bor (List ℕ))) (k : ℕ) (d : Bor (List ℕ)) → (get_or es u no_entry).needs ≡ map (λ name. name.now) names → k < length names → number_of es (get_or names k d).now ≡ get_or (numbers_of es u) k 0
number_found es u names k d are inside =
    let there : k < length (get_or es u no_entry).needs = omega (arith, ap length are, length-map names (λ (name : Bor (List ℕ)). name.now)) in
    ap (number_of es) (names_at es u names k d are inside).1 ∙ sym (get_or-map (number_of es) (get_or es u no_entry).needs k [] 0 there)

-- A name that is found is entered, and the next one's turn comes; one with a fault is told.

pub name_enters : (es : List Entry) (u k w : ℕ) (s t v : Open) (a : Result (Unit {0}) NeedRefusal) → NeedsFit es u s → NamesEntered es u k s t → k < length (get_or es u no_entry).needs → fault_at es u k ≡ None → w ≡ get_or (numbers_of es u) k 0 → Needed t u w a v → is_ok a ≡ true
name_enters es u k w s t v a fits entered inside none is = needed_ok t v u w a (subst (λ n. need_refused t u n ≡ None) (sym is) (passes es u k s t fits entered inside none))

pub name_entered : (es : List Entry) (u k w : ℕ) (s t v : Open) → NamesEntered es u k s t → k < length (get_or es u no_entry).needs → fault_at es u k ≡ None → w ≡ get_or (numbers_of es u) k 0 → Needed t u w (Ok tt) v → NamesEntered es u (k + 1) s v
name_entered es u k w s t v entered inside none is needed =
    let more : suc k ≡ k + 1 = omega arith in
    record {
      passed = ap (λ n. first_below n (fault_at es u)) (sym more) ∙ (first_next (fault_at es u) k entered.passed ∙ none);
      filled = needs_more s.book s t v u k (numbers_of es u) entered.filled (omega (arith, length-map (get_or es u no_entry).needs (number_of es))) (subst (λ n. Needed t u n (Ok tt) v) is needed);
    }

pub name_refused : (es : List Entry) (u k : ℕ) (s t : Open) (f : Fault) → NamesEntered es u k s t → k < length (get_or es u no_entry).needs → fault_at es u k ≡ Some f → name_fault es u ≡ Some f
name_refused es u k s t f entered inside is = first_stays (fault_at es u) (suc k) (length (get_or es u no_entry).needs) f (omega arith) (first_next (fault_at es u) k entered.passed ∙ is)
