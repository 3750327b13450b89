-- What entries need, as lists of needs: which of them are of one entry, and how many there are.
use Rattle.std.proofs.Common.{◌≡◌, ℕ, zero, suc, ◌+◌, ◌<◌, ◌≤◌, List, [], ◌∷◌, ◌++◌, length, get_or, take, sym, refl, ap, ◌∙◌, subst, add-zero, arith}
use Rattle.std.proofs.lemmas.Bool.{eq-eqb, ne_eqb}
use Rattle.std.proofs.lemmas.List.{append_assoc, append-nil, get_or-map, length-append, length-map}
use Rattle.sheet.specs.Format.{Entry}
use Rattle.book.specs.Books.{needs_of}
use Rattle.book.proofs.Keeping.{needs_of_both}
use Rattle.filing.specs.Books.{needs_by, needs_from, all_needs}
use Rattle.filing.proofs.Standing.{no_entry}

pub needs_of_own : (u : ℕ) (ns : List ℕ) → needs_of u (needs_by u ns) ≡ ns
needs_of_own u [] = refl
needs_of_own u (w ∷ ns) = rw (eq-eqb u u refl) (ap (λ xs. w ∷ xs) (needs_of_own u ns))

needs_of_other : (u v : ℕ) (ns : List ℕ) → (v ≡ u → ⊥) → needs_of u (needs_by v ns) ≡ []
needs_of_other u v [] other = refl
needs_of_other u v (w ∷ ns) other = rw (ne_eqb v u other) (needs_of_other u v ns other)

pub length_by : (u : ℕ) (ns : List ℕ) → length (needs_by u ns) ≡ length ns
length_by u [] = refl
length_by u (w ∷ ns) = ap suc (length_by u ns)

-- the needs of the first entry, and of those behind it
needs_apart : (u i : ℕ) (ns : List ℕ) (rest : List (List ℕ)) → (i ≡ u → ⊥) → needs_of u (needs_from i (ns ∷ rest)) ≡ needs_of u (needs_from (suc i) rest)
needs_apart u i ns rest other = needs_of_both u (needs_by i ns) (needs_from (suc i) rest) ∙ rw (needs_of_other u i ns other) refl

-- a later entry needs none of them
pub needs_of_before : (u i : ℕ) (all : List (List ℕ)) → i + length all ≤ u → needs_of u (needs_from i all) ≡ []
needs_of_before u i [] below = refl
needs_of_before u i (ns ∷ rest) below = needs_apart u i ns rest (λ is. omega arith) ∙ needs_of_before u (suc i) rest (omega arith)

-- nor does one before the first
needs_of_behind : (u i : ℕ) (all : List (List ℕ)) → u < i → needs_of u (needs_from i all) ≡ []
needs_of_behind u i [] above = refl
needs_of_behind u i (ns ∷ rest) above = needs_apart u i ns rest (λ is. omega arith) ∙ needs_of_behind u (suc i) rest (omega arith)

-- and each of the entries has its own
pub needs_own : (u i k : ℕ) (all : List (List ℕ)) → u ≡ i + k → k < length all → needs_of u (needs_from i all) ≡ get_or all k []
needs_own u i k [] is inside = absurd (omega arith)
needs_own u i zero (ns ∷ rest) is inside =
    let here : i ≡ u = omega (arith, is) in
    let own : needs_of u (needs_by i ns) ≡ ns = subst (λ j. needs_of u (needs_by j ns) ≡ ns) (sym here) (needs_of_own u ns) in
    needs_of_both u (needs_by i ns) (needs_from (suc i) rest) ∙ rw (own, needs_of_behind u (suc i) rest (omega arith)) (append-nil ns)
needs_own u i (suc k) (ns ∷ rest) is inside = needs_apart u i ns rest (λ same. omega (arith, is)) ∙ needs_own u (suc i) k rest (omega (arith, is)) (omega arith)

-- the needs of one entry more
pub needs_from_more : (i k : ℕ) (all : List (List ℕ)) → k < length all → needs_from i (take (suc k) all) ≡ needs_from i (take k all) ++ needs_by (i + k) (get_or all k [])
needs_from_more i k [] more = absurd (omega arith)
needs_from_more i zero (ns ∷ rest) more = append-nil (needs_by i ns) ∙ ap (λ n. needs_by n ns) (sym (add-zero i))
needs_from_more i (suc k) (ns ∷ rest) more =
    let later : suc i + k ≡ i + suc k = omega arith in
    ap (λ l. needs_by i ns ++ l) (needs_from_more (suc i) k rest (omega arith) ∙ ap (λ n. needs_from (suc i) (take k rest) ++ needs_by n (get_or rest k [])) later) ∙ sym (append_assoc (needs_by i ns) (needs_from (suc i) (take k rest)) (needs_by (i + suc k) (get_or rest k [])))

pub needs_from_next : (k : ℕ) (all : List (List ℕ)) → k < length all → needs_from 0 (take (k + 1) all) ≡ needs_from 0 (take k all) ++ needs_by k (get_or all k [])
needs_from_next k all more =
    let first : k + 1 ≡ suc k = omega arith in
    let number : 0 + k ≡ k = omega arith in
    ap (λ n. needs_from 0 (take n all)) first ∙ needs_from_more 0 k all more ∙ ap (λ n. needs_from 0 (take k all) ++ needs_by n (get_or all k [])) number

-- there are no more of the first k than of all
pub needs_from_few : (i k : ℕ) (all : List (List ℕ)) → length (needs_from i (take k all)) ≤ length (needs_from i all)
needs_from_few i zero all = omega arith
needs_from_few i (suc k) [] = omega arith
needs_from_few i (suc k) (ns ∷ rest) = omega (arith, length-append (needs_by i ns) (needs_from (suc i) (take k rest)), length-append (needs_by i ns) (needs_from (suc i) rest), needs_from_few (suc i) k rest)

pub all_needs_length : (es : List Entry) → length (all_needs es) ≡ length es
all_needs_length es = length-map es needs_of_entry
  where
    needs_of_entry : Entry → List ℕ
    needs_of_entry e = e.needs

-- what an entry of a list needs
pub all_needs_at : (es : List Entry) (k : ℕ) → k < length es → get_or (all_needs es) k [] ≡ (get_or es k no_entry).needs
all_needs_at es k inside = get_or-map needs_of_entry es k no_entry [] inside
  where
    needs_of_entry : Entry → List ℕ
    needs_of_entry e = e.needs
