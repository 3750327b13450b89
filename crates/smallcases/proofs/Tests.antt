-- What a computed test of each element of a list says.
use Rattle.std.proofs.Common.{◌≡◌, Bool, true, List, [], ◌∷◌}
use Rattle.std.proofs.lemmas.Bool.{and_parts}
use Rattle.std.specs.List.{AllByRecursion, list_all}

-- where every element passes, what the test means holds of every element
pub all_by_test : {A : Type 0} (p : A → Bool) (P : A → Type 0) → ((x : A) → p x ≡ true → P x) → (xs : List A) → list_all p xs ≡ true → AllByRecursion P xs
all_by_test p P means [] h = tt
all_by_test p P means (x ∷ xs) h = let (first, others) = and_parts (p x) (list_all p xs) h in (means x first, all_by_test p P means xs others)
