-- Lines that pass by themselves tell entries that a book takes.
use Rattle.std.proofs.Common.{◌≡◌, ℕ, ◌<◌, ◌≤◌, Bool, true, false, cond, not, ◌&&◌, nat_le, nat_lt, List, map, length, drop, take, get_or, vec_items, Vec, Some, None, Ok, Option, Result, sym, refl, ap, ◌∙◌, subst, ⊎_elim, arith}
use Rattle.std.specs.Char.{is_ascii_digit}
use Rattle.std.specs.List.{list_all}
use Rattle.std.specs.Str.Parse.{digits_value}
use Rattle.std.proofs.lemmas.Bool.{and_parts, cases_lt, not-true}
use Rattle.std.proofs.lemmas.Bool.Decides.{nat_tests}
use Rattle.std.proofs.lemmas.List.{get_or-map, length-map, length-take-le}
use Rattle.std.specs.declared.alloc.Global.{Global}
use Rattle.joblist.specs.declared.entry.Entry.{Entry as TheEntry}
use Rattle.joblist.specs.declared.refusal.Fault.{Fault}
use Rattle.joblist.specs.declared.refusal.Fault.TheVariants.{NoEntry, AmountRange, NameTaken, TooMany, ManyNeeds}
use Rattle.joblist.specs.declared.refusal.JobRefusal.{JobRefusal}
use Rattle.joblist.specs.Amounts.{is_amount}
use Rattle.joblist.specs.Lines.{Line}
use Rattle.joblist.specs.Entries.{Entry, no_line, no_entry, word, is_job, is_set_up, first_need, first_amount, last_amount, entry_of}
use Rattle.joblist.specs.Faults.{tells_entry, is_taken, line_fault}
use Rattle.joblist.specs.JobLists.{first_below, at_line, line_refusal}
use Rattle.joblist.specs.Passes.{value_of, entries_of, LinesRead, Small, Sound}
use Rattle.joblist.proofs.Firsts.{asked, first_each}

-- no question refused this line
pub record Passed (before : List Entry) (words : List (List ℕ)) : Type 0 where
  pub first : digits_value 10 (first_amount words) ≤ 1000000
  pub last : digits_value 10 (last_amount words) ≤ 1000000
  pub new : is_taken before (word words 1) ≡ false
  pub few : length before < 4096
  pub needs : length (drop (first_need words) words) ≤ 4

is_small : (word : List ℕ) → is_amount word ≡ true → digits_value 10 word ≤ 1000000
is_small word is = let small = (and_parts (list_all is_ascii_digit word) (nat_le (digits_value 10 word) 1000000) is).1 in grind (arith, nat_tests)

passed : (before : List Entry) (words : List (List ℕ)) → line_fault before words ≡ None → Passed before words
passed before words none =
    let first = asked (tells_entry words) NoEntry _ none in
    let second = asked (is_amount (first_amount words) && is_amount (last_amount words)) AmountRange _ first.1 in
    let third = asked (not (is_taken before (word words 1))) NameTaken _ second.1 in
    let fourth = asked (nat_lt (length before) 4096) TooMany _ third.1 in
    let fifth = asked (nat_le (length (drop (first_need words) words)) 4) ManyNeeds None fourth.1 in
    let both = and_parts (is_amount (first_amount words)) (is_amount (last_amount words)) second.0 in
    let room = fourth.0 in
    let four = fifth.0 in
    record { first = is_small (first_amount words) both.0; last = is_small (last_amount words) both.1; new = not-true (is_taken before (word words 1)) third.0; few = grind (arith, nat_tests); needs = grind (arith, nat_tests) }

-- a line without a refusal has no fault
pub no_fault : (n : ℕ) (o : Option Fault) → at_line n o ≡ None → o ≡ None
no_fault n None h = refl
no_fault n (Some f) h = let never : ◌≡◌ {A = ℕ} 0 1 = cc in absurd (omega arith)

pub line_passed : (ls : List Line) (k : ℕ) → first_below (length ls) (line_refusal ls) ≡ None → k < length ls → Passed (map entry_of (take k ls)) (get_or ls k no_line).words
line_passed ls k none inside = passed _ _ (no_fault (get_or ls k no_line).number _ (first_each (line_refusal ls) (length ls) k none inside))

not_above : (b : Bool) (x : ℕ) → x ≤ 1000000 → cond b 0 x ≤ 1000000
not_above true x few = omega arith
not_above false x few = few

pub sound : (ls : List Line) → first_below (length ls) (line_refusal ls) ≡ None → Sound (map entry_of ls)
sound ls none = record {
  few = ⊎_elim
      (λ (more : 4096 < length ls). absurd (omega (arith, (line_passed ls 4096 none more).few, length-map (take 4096 ls) entry_of, length-take-le 4096 ls (omega arith))))
      (λ (few : length ls ≤ 4096). omega (arith, length-map ls entry_of))
      (cases_lt 4096 (length ls));
  small = λ u there.
      let inside : u < length ls = omega (arith, length-map ls entry_of) in
      let l = get_or ls u no_line in
      let passes = line_passed ls u none inside in
      subst Small (sym (get_or-map entry_of ls u no_line no_entry inside)) (record {
        earning = not_above (is_set_up l.words) (digits_value 10 (first_amount l.words)) passes.first;
        cost = not_above (is_job l.words) (digits_value 10 (last_amount l.words)) passes.last;
      });
  needs = λ u there.
      let inside : u < length ls = omega (arith, length-map ls entry_of) in
      subst (λ (e : Entry). length e.needs ≤ 4) (sym (get_or-map entry_of ls u no_line no_entry inside)) (line_passed ls u none inside).needs;
}

-- so lines that were read tell such entries
pub sound_read : (ls : List Line) (r : Result (Vec TheEntry Global) JobRefusal) (es : Vec TheEntry Global) (held : List TheEntry) → LinesRead ls (entries_of r) → r ≡ Ok es → held ≡ vec_items es → Sound (map value_of held)
sound_read ls r es held read is same =
    let whole = subst (λ o. LinesRead ls (entries_of o)) is read in
    subst Sound (sym (ap (map value_of) same ∙ whole.1)) (sound ls whole.0)
