-- White space and remarks, read byte by byte.
use Rattle.std.proofs.Common.{◌≡◌, Bool, true, false, ℕ, ◌+◌, ◌<◌, ◌≤◌, List, [], ◌∷◌, length, drop, get_or, cond, refl, ◌∙◌, sym, arith}
use Rattle.std.proofs.lemmas.List.{at_drop_more, at_drop_all, drop_more}
use Rattle.netpbm.specs.Blanks.{is_blank, remark_after, after_blanks}

-- what follows a blank byte, and one that is none
pub blanks-yes : (r : Bool) (b : ℕ) (bs : List ℕ) → is_blank r b ≡ true → after_blanks r (b ∷ bs) ≡ after_blanks (remark_after r b) bs
unfolding after_blanks
blanks-yes r b bs blank = rw blank refl

pub blanks-no : (r : Bool) (b : ℕ) (bs : List ℕ) → is_blank r b ≡ false → after_blanks r (b ∷ bs) ≡ b ∷ bs
unfolding after_blanks
blanks-no r b bs other = rw other refl

-- the same at a place of a text
pub blank_more : (bs : List ℕ) (i : ℕ) (r : Bool) → i < length bs → is_blank r (get_or bs i 0) ≡ true → after_blanks r (drop i bs) ≡ after_blanks (remark_after r (get_or bs i 0)) (drop (i + 1) bs)
blank_more bs i r inside blank = at_drop_more (after_blanks r) bs i 0 inside ∙ blanks-yes r (get_or bs i 0) (drop (i + 1) bs) blank

pub blanks_end : (bs : List ℕ) (i : ℕ) (r : Bool) → i < length bs → is_blank r (get_or bs i 0) ≡ false → after_blanks r (drop i bs) ≡ drop i bs
blanks_end bs i r inside other = at_drop_more (after_blanks r) bs i 0 inside ∙ (blanks-no r (get_or bs i 0) (drop (i + 1) bs) other ∙ sym (drop_more bs i 0 inside))

-- and at its end
pub blanks_over : (bs : List ℕ) (i : ℕ) (r : Bool) → length bs ≤ i → after_blanks r (drop i bs) ≡ []
unfolding after_blanks
blanks_over bs i r over = at_drop_all (after_blanks r) bs i over

-- it is no longer than the text
pub length-blanks-le : (r : Bool) (bs : List ℕ) → length (after_blanks r bs) ≤ length bs
unfolding after_blanks
length-blanks-le r [] = omega arith
length-blanks-le r (b ∷ bs) = elim (is_blank r b) as (λ v. length (cond v (after_blanks (remark_after r b) bs) (b ∷ bs)) ≤ length (b ∷ bs)) [ true ↦ omega (arith, length-blanks-le (remark_after r b) bs) | false ↦ omega arith ]
