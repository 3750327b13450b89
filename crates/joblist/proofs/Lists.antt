-- Tests and places in a list of values that are read from another.
use Rattle.std.proofs.Common.{◌≡◌, Bool, ℕ, ◌<◌, ◌||◌, List, [], ◌∷◌, map, length, get_or, refl, sym, ap, ◌∙◌}
use Rattle.std.specs.List.{list_any, position_or_len}
use Rattle.std.proofs.lemmas.List.{get_or-map}

pub list_any_map : {X Y : Type 0} (p : Y → Bool) (h : X → Y) (xs : List X) → list_any p (map h xs) ≡ list_any (λ x. p (h x)) xs
list_any_map p h [] = refl
list_any_map p h (x ∷ xs) = ap (λ b. p (h x) || b) (list_any_map p h xs)

pub position_map : {X Y : Type 0} (p : Y → Bool) (h : X → Y) (xs : List X) → position_or_len p (map h xs) ≡ position_or_len (λ x. p (h x)) xs
position_map p h [] = refl
position_map p h (x ∷ xs) = rw (position_map p h xs) refl

-- what is read at a place
pub value_at : {X Y : Type 0} (h : X → Y) (xs : List X) (i : ℕ) (x : X) (d : Y) → i < length xs → x ≡ get_or xs i x → get_or (map h xs) i d ≡ h x
value_at h xs i x d inside is = get_or-map h xs i x d inside ∙ ap h (sym is)
