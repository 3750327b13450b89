-- The numbers of what entries need, entry by entry.
use Rattle.std.proofs.Common.{◌≡◌, ℕ, suc, ◌+◌, ◌*◌, ◌<◌, ◌≤◌, List, [], ◌∷◌, ◌++◌, map, length, get_or, take, ap, ◌∙◌, arith}
use Rattle.std.proofs.lemmas.List.{get_or-map, get_or-take, length-append, length-map, length-take-le}
use Rattle.filing.specs.Books.{needs_by, needs_from}
use Rattle.filing.proofs.NeedLists.{length_by, needs_own, needs_from_next}
use Rattle.book.specs.Books.{needs_of}
use Rattle.joblist.specs.Entries.{Entry, no_entry}
use Rattle.joblist.specs.Faults.{number_of}
use Rattle.joblist.specs.JobLists.{numbers}
use Rattle.joblist.specs.Passes.{Sound, numbers_of}

-- what entry number u needs is at its place
numbers_at : (es : List Entry) (u : ℕ) → u < length es → get_or (map (numbers es) es) u [] ≡ numbers_of es u
numbers_at es u there = get_or-map (numbers es) es u no_entry [] there

pub needs_told : (es : List Entry) (u : ℕ) → u < length es → needs_of u (needs_from 0 (map (numbers es) es)) ≡ numbers_of es u
needs_told es u there = needs_own u 0 u (map (numbers es) es) (omega arith) (omega (arith, length-map es (numbers es))) ∙ numbers_at es u there

-- those of one entry more
pub needs_next : (es : List Entry) (k : ℕ) → k < length es → needs_from 0 (take (k + 1) (map (numbers es) es)) ≡ needs_from 0 (take k (map (numbers es) es)) ++ needs_by k (numbers_of es k)
needs_next es k inside = needs_from_next k (map (numbers es) es) (omega (arith, length-map es (numbers es))) ∙ ap (λ ns. needs_from 0 (take k (map (numbers es) es)) ++ needs_by k ns) (numbers_at es k inside)

-- where each has at most four, all have so many at most
needs_few : (i : ℕ) (all : List (List ℕ)) → ((k : ℕ) → k < length all → length (get_or all k []) ≤ 4) → length (needs_from i all) ≤ 4 * length all
needs_few i [] four = omega arith
needs_few i (ns ∷ rest) four = omega (arith, length-append (needs_by i ns) (needs_from (suc i) rest), length_by i ns, four 0 (omega arith), needs_few (suc i) rest (λ k inside. four (suc k) (omega arith)))

pub needs_few_before : (es : List Entry) (u : ℕ) → Sound es → u < length es → length (needs_from 0 (take u (map (numbers es) es))) ≤ 4 * u
needs_few_before es u sound there =
    let all = map (numbers es) es in
    let long = length-map es (numbers es) in
    let first = length-take-le u all (omega arith) in
    omega (
      arith,
      first,
      needs_few 0 (take u all) (λ k inside.
          let here : k < length es = omega (arith, there) in
          let at : get_or (take u all) k [] ≡ numbers_of es k = get_or-take u all k [] (omega arith) ∙ numbers_at es k here in
          omega (arith, ap length at, length-map (get_or es k no_entry).needs (number_of es), sound.needs k here)),
    )
