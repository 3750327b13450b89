-- Lists that are written over the beginning of others.
use Rattle.std.proofs.Common.{◌≡◌, ℕ, ◌+◌, ◌-◌, ◌<◌, ◌≤◌, List, [], ◌∷◌, ◌++◌, length, take, drop, set, sym, refl, ap, ◌∙◌, arith}
use borrow.Rule.Slice.PartMut.{put_mid}
use Rattle.std.proofs.lemmas.List.{append_assoc, append-nil, length-append, length-drop, length_push, set_at, drop_more, take_at, drop_at, drop-drop, drop_all, take_rest}
use Rattle.trees.specs.Climbs.{Written}

-- one number more
pub written_push : (before after xs : List ℕ) (k a : ℕ) → k ≡ length xs → k < length before → Written before after xs → Written before (set after k a) (xs ++ a ∷ [])
written_push before after xs k a is room w =
    let inside : length xs < length before = omega arith in
    rw (w, drop_more before (length xs) 0 inside, set_at xs _ _ a k (sym is), append_assoc, length_push)

-- what is written over the part from k on goes on where xs ends
pub written_part : (before after part xs ys : List ℕ) (k : ℕ) → k ≡ length xs → Written before after xs → Written (take (length after - k) (drop k after)) part ys → Written before (put_mid k (length after - k) after part) (xs ++ ys)
written_part before after part xs ys k is w u =
    let old = drop (length xs) before in
    let front : take k after ≡ xs = ap (take k) w ∙ take_at xs old k (sym is) in
    let back : drop k after ≡ old = ap (drop k) w ∙ drop_at xs old k (sym is) in
    let whole : take (length after - k) (drop k after) ≡ old = take_rest after k ∙ back in
    let end : drop (length after - k) (drop k after) ≡ [] = drop_all (length after - k) (drop k after) (omega (arith, length-drop k after)) in
    let new : part ≡ ys ++ drop (length ys) old = u ∙ ap (λ zs. ys ++ drop (length ys) zs) whole in
    rw (front, end, append-nil, new, append_assoc, length-append, drop-drop (length ys) (length xs) before)

-- three words, and xs written over the part from 3 on
three_kept : (a b c : ℕ) (more part xs : List ℕ) → Written (take (length (a ∷ b ∷ c ∷ more) - 3) more) part xs → Written (a ∷ b ∷ c ∷ more) (put_mid 3 (length (a ∷ b ∷ c ∷ more) - 3) (a ∷ b ∷ c ∷ more) part) (a ∷ b ∷ c ∷ xs)
three_kept a b c more part xs w = written_part (a ∷ b ∷ c ∷ more) (a ∷ b ∷ c ∷ more) part (a ∷ b ∷ c ∷ []) xs 3 refl refl w

-- the first three words
pub three : (xs : List ℕ) → 3 ≤ length xs → (a b c : ℕ) × (more : List ℕ) × (xs ≡ a ∷ b ∷ c ∷ more)
three [] room = absurd (omega arith)
three (a ∷ []) room = absurd (omega arith)
three (a ∷ b ∷ []) room = absurd (omega arith)
three (a ∷ b ∷ c ∷ more) room = (a, b, c, more, refl)

-- other words in their place, with xs written behind them
pub three_words : (before part after xs : List ℕ) (k x u : ℕ) → 3 ≤ length before → Written (take (length before - 3) (drop 3 before)) part xs → Written (put_mid 3 (length before - 3) before part) after (k ∷ x ∷ u ∷ []) → Written before after (k ∷ x ∷ u ∷ xs)
three_words before part after xs k x u room w head =
    let (a, b, c, more, is) = three before room in
    rw is ((rw is at head) ∙ ap (λ ys. k ∷ x ∷ u ∷ drop 3 ys) (three_kept a b c more part xs (rw is at w)))

-- what is written over the part from 3 on is read there
pub read_after_three : (before part xs : List ℕ) (k : ℕ) → 3 ≤ length before → k ≡ length xs → Written (take (length before - 3) (drop 3 before)) part xs → take (3 + k - 3) (drop 3 (put_mid 3 (length before - 3) before part)) ≡ xs
read_after_three before part xs k room is w =
    let (a, b, c, more, whole) = three before room in
    rw whole (ap (λ ys. take (3 + k - 3) (drop 3 ys)) (three_kept a b c more part xs (rw whole at w)) ∙ take_at xs (drop (length xs) more) (3 + k - 3) (omega arith))
