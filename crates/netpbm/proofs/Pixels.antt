-- The text of a page of lines and tones, pixel by pixel.
use Rattle.std.proofs.Common.{◌≡◌, Bool, ℕ, zero, suc, ◌+◌, List, ◌++◌, sym, ap, ◌∙◌, append_assoc, append-nil, arith}
use Rattle.std.specs.List.{flat_map, range_with_len}
use Rattle.netpbm.specs.Bitmaps.{is_black, breaks_line, pixel_text, pixels_text}

-- one number more
pub flat_map-range : (f : ℕ → List ℕ) (a n j : ℕ) → a + n ≡ j → flat_map f (range_with_len a (suc n)) ≡ flat_map f (range_with_len a n) ++ f j
flat_map-range f a zero j is = append-nil (f a) ∙ ap f (omega arith)
flat_map-range f a (suc n) j is = ap (λ xs. f a ++ xs) (flat_map-range f (a + 1) n j (omega arith)) ∙ sym (append_assoc (f a) (flat_map f (range_with_len (a + 1) n)) (f j))

-- one pixel more
pub raster-more : (width : ℕ) (black : List Bool) (k : ℕ) → pixels_text width black (k + 1) ≡ pixels_text width black k ++ pixel_text (is_black black k) (breaks_line width k)
raster-more width black k =
    let one : k + 1 ≡ suc k = omega arith in
    ap (λ n. pixels_text width black n) one ∙ flat_map-range (λ j. pixel_text (is_black black j) (breaks_line width j)) 0 k k (omega arith)

-- a text that the pixels so far follow
pub text_more : (head text after : List ℕ) (width : ℕ) (black : List Bool) (k : ℕ) → text ≡ head ++ pixels_text width black k → after ≡ text ++ pixel_text (is_black black k) (breaks_line width k) → after ≡ head ++ pixels_text width black (k + 1)
text_more head text after width black k is next = next ∙ (ap (λ t. t ++ pixel_text (is_black black k) (breaks_line width k)) is ∙ (append_assoc head (pixels_text width black k) (pixel_text (is_black black k) (breaks_line width k)) ∙ ap (λ t. head ++ t) (sym (raster-more width black k))))
