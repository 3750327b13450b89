-- Names and the numbers of their entries.
use Rattle.std.proofs.Common.{◌≡◌, nat_lt, not, ℕ, ◌<◌, false, ◌==◌, List, [], ◌∷◌, map, length, get_or, None, sym, refl, ap, ◌∙◌, arith}
use Rattle.std.specs.Str.{bytes_eq}
use Rattle.std.proofs.lemmas.Bool.{ne_eqb, false≢true, not-true, or_parts}
use Rattle.std.proofs.lemmas.Bool.Decides.{nat_tests}
use Rattle.std.proofs.lemmas.List.Sums.{passes_at_first}
use Rattle.std.proofs.lemmas.Slice.Eq.{bytes_eq-Decides}
use Rattle.book.specs.Refusals.{among}
use Rattle.joblist.specs.declared.refusal.Fault.TheVariants.{Unknown, Itself, Repeated}
use Rattle.joblist.specs.Entries.{Entry, no_entry}
use Rattle.joblist.specs.Faults.{is_among, number_of, need_fault}
use Rattle.joblist.proofs.Firsts.{asked}

-- a name whose number is there is that entry's
pub named : (es : List Entry) (name : List ℕ) → number_of es name < length es → (get_or es (number_of es name) no_entry).name ≡ name
named es name there = (bytes_eq-Decides (get_or es (number_of es name) no_entry).name name).0 (passes_at_first (λ e. bytes_eq e.name name) es no_entry there)

-- so two names with one number are one name
one_name : (es : List Entry) (v w : List ℕ) → number_of es w < length es → number_of es v ≡ number_of es w → v ≡ w
one_name es v w there same = sym (named es v (omega arith)) ∙ (ap (λ n. (get_or es n no_entry).name) same ∙ named es w there)

-- and a name that is new has a number that is new
pub fresh : (es : List Entry) (names : List (List ℕ)) (name : List ℕ) → number_of es name < length es → is_among names name ≡ false → among (number_of es name) (map (number_of es) names) ≡ false
fresh es [] name there new = refl
fresh es (v ∷ names) name there new =
    let others = or_parts (bytes_eq v name) (is_among names name) new in
    let differs : number_of es v ≡ number_of es name → ⊥ = λ same. false≢true (sym others.0 ∙ (bytes_eq-Decides v name).1 (one_name es v name there same)) in
    rw (ne_eqb (number_of es v) (number_of es name) differs) (fresh es names name there others.1)

-- what a name without a fault is
pub record Fine (es : List Entry) (u : ℕ) (before : List (List ℕ)) (name : List ℕ) : Type 0 where
  pub known : number_of es name < length es
  pub other : u ≡ number_of es name → ⊥
  pub new : is_among before name ≡ false

pub fine : (es : List Entry) (u : ℕ) (before : List (List ℕ)) (name : List ℕ) → need_fault es u before name ≡ None → Fine es u before name
fine es u before name none =
    let first = asked (nat_lt (number_of es name) (length es)) Unknown _ none in
    let second = asked (not (number_of es name == u)) Itself _ first.1 in
    let third = asked (not (is_among before name)) Repeated None second.1 in
    let there = first.0 in
    let other = not-true (number_of es name == u) second.0 in
    record { known = grind (arith, nat_tests); other = λ is. grind (arith, nat_tests); new = not-true (is_among before name) third.0 }
