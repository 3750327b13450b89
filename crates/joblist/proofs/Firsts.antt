-- The first of many, and questions that are put one after another.
use Rattle.std.proofs.Common.{◌≡◌, Bool, true, false, cond, ℕ, zero, suc, ◌+◌, ◌<◌, ◌≤◌, ◌-◌, Some, None, Option, refl, sym, subst, ⊎_elim, arith}
use Rattle.std.specs.Option.{option_or}
use Rattle.std.proofs.lemmas.Bool.{cases_lt}
use Rattle.joblist.specs.declared.refusal.Fault.{Fault}
use Rattle.joblist.specs.JobLists.{first_below}

-- there is none below 0
pub first_none : {A : Type 0} (f : ℕ → Option A) → first_below 0 f ≡ None
unfolding first_below
first_none f = refl

-- where there is none below n, the first below n + 1 is f n
pub first_next : {A : Type 0} (f : ℕ → Option A) (n : ℕ) → first_below n f ≡ None → first_below (suc n) f ≡ f n
unfolding first_below
first_next f n none = rw none refl

-- where there is a first, it stays the first
first_further : {A : Type 0} (f : ℕ → Option A) (n k : ℕ) (x : A) → first_below n f ≡ Some x → first_below (n + k) f ≡ Some x
unfolding first_below
first_further f n zero x is = let e : n + zero ≡ n = omega arith in subst (λ m. first_below m f ≡ Some x) (sym e) is
first_further f n (suc k) x is =
    let e : suc (n + k) ≡ n + suc k = omega arith in
    subst (λ m. first_below m f ≡ Some x) e (rw (first_further f n k x is) refl)

pub first_stays : {A : Type 0} (f : ℕ → Option A) (n m : ℕ) (x : A) → n ≤ m → first_below n f ≡ Some x → first_below m f ≡ Some x
first_stays f n m x le is = let e : n + (m - n) ≡ m = omega arith in subst (λ k. first_below k f ≡ Some x) e (first_further f n (m - n) x is)

-- where no answer is no, the first is yes, and so are the others
pub asked : (answer : Bool) (f : Fault) (o : Option Fault) → cond answer o (Some f) ≡ None → (answer ≡ true) × (o ≡ None)
asked true f o none = (refl, none)
asked false f o never = let no : ◌≡◌ {A = ℕ} 0 1 = cc in absurd (omega arith)

-- where there is none below n, none of them is there
neither_first : {A : Type 0} (o p : Option A) → option_or o p ≡ None → (o ≡ None) × (p ≡ None)
neither_first None p none = (refl, none)
neither_first (Some x) p never = let no : ◌≡◌ {A = ℕ} 0 1 = cc in absurd (omega arith)

pub first_each : {A : Type 0} (f : ℕ → Option A) (n k : ℕ) → first_below n f ≡ None → k < n → f k ≡ None
unfolding first_below
first_each f zero k none below = absurd (omega arith)
first_each f (suc n) k none below =
    let both = neither_first (first_below n f) (f n) none in
    ⊎_elim
    (λ (earlier : k < n). first_each f n k both.0 earlier)
    (λ (last : n ≤ k). let is : n ≡ k = omega arith in subst (λ j. f j ≡ None) is both.1)
    (cases_lt k n)
