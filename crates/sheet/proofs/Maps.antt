-- The bits of a bit map.
use Rattle.std.proofs.Common.{◌≡◌, ℕ, zero, suc, ◌+◌, ◌-◌, ◌*◌, ◌/◌, ◌%◌, ◌^◌, ◌<◌, ◌≤◌, ◌⊎◌, List, [], ◌∷◌, Some, None, Option, length, slice_index_or, refl, sym, subst, zero-add, inl, inr, ⊎_elim, arith, pow_mono}
use Rattle.std.specs.Option.{MatchOption, unwrap_or}
use lib.Bits.{bit_and}
use Rattle.std.proofs.lemmas.Nat.{and_mask, shr-shr, div-add-mod'}
use Rattle.std.proofs.lemmas.Bool.{cases_lt}
use Rattle.std.proofs.lemmas.Bool.Decides.{nat_tests}
use Rattle.sheet.specs.Layout.{announced}

pub need_bits : (m : ℕ) → bit_and (m / 4) 15 ≡ m / 4 % 16
need_bits m = and_mask (m / 4) 4

-- a map without high bits is its two amount bits and its need bits
pub map_parts : (m : ℕ) → m < 64 → m % 2 + 2 * (m / 2 % 2) + 4 * (m / 4 % 16) ≡ m
map_parts m low =
    let high : m / 4 % 16 ≡ m / 4 = omega arith in
    let half : m / 2 * 2 + m % 2 ≡ m = div-add-mod' m 2 in
    let quarter : m / 2 / 2 * 2 + m / 2 % 2 ≡ m / 2 = div-add-mod' (m / 2) 2 in
    let shifts : m / 2 / 2 ≡ m / 4 = shr-shr m 1 1 in
    rw (high, ← shifts) (sums m (m / 2) (m / 2 / 2) (m % 2) (m / 2 % 2) half quarter)
  where
    sums : (m h q a b : ℕ) → h * 2 + a ≡ m → q * 2 + b ≡ h → a + 2 * b + 4 * q ≡ m
    sums m h q a b x y = omega arith

-- the need bits that leave no gap are those of at most four needs
pub few_needs : (m k : ℕ) → m / 4 % 16 ≡ 2 ^ k - 1 → k ≤ 4
few_needs m k same =
    ⊎_elim (λ (l : k < 5). omega arith) (λ (l : 5 ≤ k). let p = pow_mono l in absurd (omega arith)) (cases_lt k 5)

-- a run of k bits from the lowest up is one of five numbers
pub runs : (k : ℕ) → k ≤ 4 → (2 ^ k - 1 ≡ 0) ⊎ ((2 ^ k - 1 ≡ 1) ⊎ ((2 ^ k - 1 ≡ 3) ⊎ ((2 ^ k - 1 ≡ 7) ⊎ (2 ^ k - 1 ≡ 15))))
runs zero h = inl refl
runs (suc zero) h = inr (inl refl)
runs (suc (suc zero)) h = inr (inr (inl refl))
runs (suc (suc (suc zero))) h = inr (inr (inr (inl refl)))
runs (suc (suc (suc (suc zero)))) h = inr (inr (inr (inr refl)))
runs (suc (suc (suc (suc (suc k))))) h = absurd (omega arith)

-- a pattern of four bits that is a run is one of these
run_of : (b k : ℕ) → b < 16 → b ≡ 2 ^ k - 1 → (b ≡ 0) ⊎ ((b ≡ 1) ⊎ ((b ≡ 3) ⊎ ((b ≡ 7) ⊎ (b ≡ 15))))
run_of b k small same = subst (λ n. (n ≡ 0) ⊎ ((n ≡ 1) ⊎ ((n ≡ 3) ⊎ ((n ≡ 7) ⊎ (n ≡ 15))))) (sym same) (runs k (few_needs (4 * b) k (omega arith)))

-- how many needs the need bits b announce, or none where they leave a gap
abbrev pub Announces : ℕ → Option ℕ → Type 0
Announces b o = MatchOption o (((k : ℕ) × (b ≡ 2 ^ k - 1)) → ⊥) (λ k. (k ≤ 4) × (b ≡ 2 ^ k - 1))

-- what is in a table from pattern b on is how many needs that pattern and the next ones announce
abbrev AllAnnounce : ℕ → List (Option ℕ) → Type 0
AllAnnounce b [] = Unit {0}
AllAnnounce b (o ∷ os) = Announces b o × AllAnnounce (suc b) os

announced_at : (b j : ℕ) (os : List (Option ℕ)) → AllAnnounce b os → j < length os → Announces (b + j) (slice_index_or os j None)
announced_at b j [] all inside = absurd (omega arith)
announced_at b zero (o ∷ os) all inside = subst (λ n. Announces n o) (omega arith) all.0
announced_at b (suc j) (o ∷ os) all inside = subst (λ n. Announces n (slice_index_or os j None)) (omega arith) (announced_at (suc b) j os all.1 (omega arith))

-- the reader's table
abbrev pub need_counts : List (Option ℕ)
need_counts = Some 0 ∷ Some 1 ∷ None ∷ Some 2 ∷ None ∷ None ∷ None ∷ Some 3 ∷ None ∷ None ∷ None ∷ None ∷ None ∷ None ∷ None ∷ Some 4 ∷ []

all_announce : AllAnnounce 0 need_counts
all_announce =
    ((omega arith, refl), ((omega arith, refl), (λ r. absurd (omega (arith, run_of 2 r.0 (omega arith) r.1)), ((omega arith, refl), (λ r. absurd (omega (arith, run_of 4 r.0 (omega arith) r.1)), (λ r. absurd (omega (arith, run_of 5 r.0 (omega arith) r.1)), (λ r. absurd (omega (arith, run_of 6 r.0 (omega arith) r.1)), ((omega arith, refl), (λ r. absurd (omega (arith, run_of 8 r.0 (omega arith) r.1)), (λ r. absurd (omega (arith, run_of 9 r.0 (omega arith) r.1)), (λ r. absurd (omega (arith, run_of 10 r.0 (omega arith) r.1)), (λ r. absurd (omega (arith, run_of 11 r.0 (omega arith) r.1)), (λ r. absurd (omega (arith, run_of 12 r.0 (omega arith) r.1)), (λ r. absurd (omega (arith, run_of 13 r.0 (omega arith) r.1)), (λ r. absurd (omega (arith, run_of 14 r.0 (omega arith) r.1)), ((omega arith, refl), tt))))))))))))))))

pub announces : (b : ℕ) → b < 16 → Announces b (slice_index_or need_counts b None)
announces b small = subst (λ n. Announces n (slice_index_or need_counts b None)) (zero-add b) (announced_at 0 b need_counts all_announce small)

-- where they leave no gap, they announce some
pub announces_run : (b : ℕ) (o : Option ℕ) → Announces b o → (k : ℕ) × (b ≡ 2 ^ k - 1) → (unwrap_or o 0 ≤ 4) × (b ≡ 2 ^ unwrap_or o 0 - 1)
announces_run b None gap run = absurd (gap run)
announces_run b (Some k) is run = is

-- what they announce, or 0, is told by cases
pub announced_so : (m : ℕ) (o : Option ℕ) → Announces (m / 4 % 16) o → unwrap_or o 0 ≡ announced m
announced_so m None gap =
    let one : m / 4 % 16 ≡ 1 → ⊥ = λ is. gap (1, is) in
    let three : m / 4 % 16 ≡ 3 → ⊥ = λ is. gap (2, is) in
    let seven : m / 4 % 16 ≡ 7 → ⊥ = λ is. gap (3, is) in
    let all : m / 4 % 16 ≡ 15 → ⊥ = λ is. gap (4, is) in
    grind (arith, nat_tests, one, three, seven, all)
announced_so m (Some zero) (few, is) = grind (arith, nat_tests, is)
announced_so m (Some (suc zero)) (few, is) = grind (arith, nat_tests, is)
announced_so m (Some (suc (suc zero))) (few, is) = grind (arith, nat_tests, is)
announced_so m (Some (suc (suc (suc zero)))) (few, is) = grind (arith, nat_tests, is)
announced_so m (Some (suc (suc (suc (suc zero))))) (few, is) = grind (arith, nat_tests, is)
announced_so m (Some (suc (suc (suc (suc (suc k)))))) (few, is) = absurd (omega arith)
