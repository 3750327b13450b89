-- The table that tells the directions at a pixel's places.
use Rattle.std.proofs.Common.{◌≡◌, ℕ, zero, suc, ◌^◌, ◌/◌, ◌%◌, ◌<◌, List, [], ◌∷◌, filter, map, None, Option, ap, ◌∙◌, refl, arith, slice_index_or, nat_eq}
use Rattle.std.proofs.lemmas.List.FromFn.{get_or-map-range_with_len}
use Rattle.std.specs.List.{slice_get, range_with_len}
use Rattle.tile.specs.declared.direction.Direction.{Direction}
use Rattle.tile.specs.declared.direction.Direction.TheVariants.{Right, Left, Below, Above}
use Rattle.tile.specs.declared.neighbours.Neighbours.{Neighbours}
use Rattle.tile.specs.Grids.{directions}
use Rattle.tile.specs.Pixels.{has}

-- what stands at the first four places of a list
abbrev pub four : List Direction → List (Option Direction)
four xs = slice_get xs 0 ∷ slice_get xs 1 ∷ slice_get xs 2 ∷ slice_get xs 3 ∷ []

-- the directions whose bits stand
abbrev pub of_bits : ℕ → List Direction
of_bits b = filter (has (record { bits = b })) directions

-- the table: each row has the directions of its bits
abbrev pub rows : List (List (Option Direction))
rows = map (λ b. four (of_bits b)) (range_with_len 0 16)

four_at : (xs : List Direction) (k : ℕ) → k < 4 → slice_index_or (four xs) k None ≡ slice_get xs k
four_at xs zero inside = refl
four_at xs (suc zero) inside = refl
four_at xs (suc (suc zero)) inside = refl
four_at xs (suc (suc (suc zero))) inside = refl
four_at xs (suc (suc (suc (suc k)))) inside = absurd (omega arith)

-- the bits past the four say nothing
has_low : (x : Neighbours) (d : Direction) → has (record { bits = x.bits % 16 }) d ≡ has x d
has_low x Right = ap (λ n. nat_eq n 1) {x = x.bits % 16 / 2 ^ 0 % 2} {y = x.bits / 2 ^ 0 % 2} (omega arith)
has_low x Left = ap (λ n. nat_eq n 1) {x = x.bits % 16 / 2 ^ 1 % 2} {y = x.bits / 2 ^ 1 % 2} (omega arith)
has_low x Below = ap (λ n. nat_eq n 1) {x = x.bits % 16 / 2 ^ 2 % 2} {y = x.bits / 2 ^ 2 % 2} (omega arith)
has_low x Above = ap (λ n. nat_eq n 1) {x = x.bits % 16 / 2 ^ 3 % 2} {y = x.bits / 2 ^ 3 % 2} (omega arith)

of_low : (x : Neighbours) → of_bits (x.bits % 16) ≡ filter (has x) directions
of_low x = rw (has_low x Right, has_low x Left, has_low x Below, has_low x Above) refl

pub at_tells : (x : Neighbours) (k : ℕ) → k < 4 → slice_index_or (slice_index_or rows (x.bits % 16) []) k None ≡ slice_get (filter (has x) directions) k
at_tells x k inside =
    let b = x.bits % 16 in
    ap (λ row. slice_index_or row k None) (get_or-map-range_with_len (λ b. four (of_bits b)) 0 16 b b [] (omega arith) (omega arith))
    ∙ four_at (of_bits b) k inside
    ∙ ap (λ xs. slice_get xs k) (of_low x)
