-- A page of lines and tones as the text of a plain PBM file: 1 for black, 0 for white.
use Rattle.std.specs.Prelude.{ℕ, ◌+◌, ◌*◌, ◌%◌, Bool, false, cond, ◌||◌, ◌==◌, List, [], ◌∷◌, ◌++◌, codes, decimal, slice_index_or, ◌≡◌, ◌≤◌, true, not, map, filter, length, slice_index}
use Rattle.std.specs.List.{flat_map, range_with_len, AllByRecursion, slice_split}
use Rattle.netpbm.specs.Images.{Image}
use Rattle.netpbm.specs.Blanks.{is_space}
use Rattle.netpbm.specs.Layouts.{IsGap}

-- whether pixel k is black; one that the list does not tell is white
abbrev pub is_black : List Bool → ℕ → Bool
is_black black k = slice_index_or black k false

-- whether a line of the file ends behind pixel k, in rows of this width: behind each 64 pixels of a row, and at its end
abbrev pub breaks_line : ℕ → ℕ → Bool
breaks_line width k = let column = k % width + 1 in column == width || column % 64 == 0

-- a pixel's digit
abbrev pub digit : Bool → ℕ
digit dark = cond dark 49 48

-- and the line feed behind it, if there is one
abbrev pub pixel_text : Bool → Bool → List ℕ
pixel_text dark ends = digit dark ∷ cond ends (codes "\n") []

-- the first n pixels, in rows of this width
abbrev pub pixels_text : ℕ → List Bool → ℕ → List ℕ
pixels_text width black n = flat_map (λ k. pixel_text (is_black black k) (breaks_line width k)) (range_with_len 0 n)

-- what stands before them: the form, a remark, and the sides
abbrev pub head_text : Image → ℕ → ℕ → List ℕ
head_text i tiles energy =
    codes "P1\n# " ++ (decimal tiles ++ (codes " tiles, energy " ++ (decimal energy ++ (codes "\n" ++ (decimal i.width ++ (codes " " ++ (decimal i.height ++ codes "\n")))))))

-- the file of a split of this image into so many tiles, which costs this energy
abbrev pub pbm_text : Image → List Bool → ℕ → ℕ → List ℕ
pbm_text i black tiles energy = head_text i tiles energy ++ pixels_text i.width black (i.width * i.height)

-- no line of a text is longer than 70 bytes
abbrev pub ShortLines : List ℕ → Type 0
ShortLines bs = AllByRecursion (λ line. length line ≤ 70) (slice_split (λ b. b == 10) bs)

-- bs is a plain PBM file of these pixels: P1, the width w and the height h behind gaps, and behind white space a digit for each pixel
pub record IsPlainPbm (bs : List ℕ) (w h : ℕ) (pixels : List Bool) : Type 0 where
  pub before_width : List ℕ
  pub before_height : List ℕ
  pub raster : List ℕ
  pub first_gap : IsGap before_width
  pub second_gap : IsGap before_height
  pub whole : bs ≡ codes "P1" ++ (before_width ++ (decimal w ++ (before_height ++ (decimal h ++ raster))))
  pub parted : is_space (slice_index raster 0) ≡ true
  pub digits : filter (λ b. not (is_space b)) raster ≡ map digit pixels
  pub short : ShortLines bs

-- the pixels of an image, in their order
abbrev pub pixels_of : Image → List Bool → List Bool
pixels_of i black = map (is_black black) (range_with_len 0 (i.width * i.height))
