-- Files that are laid out from an image, and read as it.
use Rattle.std.proofs.Common.{◌≡◌, true, ℕ, ◌*◌, ◌≤◌, List, [], ◌∷◌, ◌++◌, map, length, take, Some, Ok, refl, sym, ap, ◌∙◌, append_assoc, arith, drop, ⊎_elim}
use Rattle.std.specs.List.{AllByRecursion, prefix_len, flat_map}
use Rattle.std.specs.Option.{option_map_or}
use Rattle.std.proofs.Math.Seq.{take-append_seam}
use Rattle.std.proofs.lemmas.Bool.Decides.{nat_tests}
use Rattle.netpbm.specs.declared.header.Form.{Form}
use Rattle.netpbm.specs.declared.header.Form.TheVariants.{Raw, Plain}
use Rattle.netpbm.specs.Blanks.{is_space}
use Rattle.netpbm.specs.Numerals.{Numeral, digit_count, number_read, number_to}
use Rattle.netpbm.specs.Headers.{form_of, raster_behind, header_read}
use Rattle.netpbm.specs.Images.{Image, and_then, numbers, values, greys_of, image_read, image_behind}
use Rattle.netpbm.specs.Layouts.{Word, word_bytes, AllTell, Layout, file_bytes, IsImage, IsHeader, IsRawFile, IsPlainFile, IsFile, brightened}
use Rattle.netpbm.proofs.Heads.{parts_read}
use Rattle.netpbm.proofs.Samples.{low, scaled, greys-whole}
use Rattle.netpbm.proofs.Gaps.{word-read, word-within, word-no_digit, space-no_digit}

-- the header of a file is read
header_laid : (l : Layout) (form : Form) (a b : ℕ) (m : ℕ) (i : Image) (raster : List ℕ) → IsHeader l m i → l.form ≡ a ∷ b ∷ [] → form_of (a ∷ b ∷ []) ≡ Some form → digit_count l.rest ≡ 0 → raster_behind form l.rest ≡ Some raster → header_read (file_bytes l) ≡ Ok (record { form = form; width = i.width; height = i.height; largest = m; raster = raster })
header_laid l form a b m i raster header bytes form_is stop raster_is =
    let behind_height = word_bytes l.largest ++ l.rest in
    let behind_width = word_bytes l.height ++ behind_height in
    let within = header.image.within in
    parts_read (file_bytes l) (record { form = form; width = i.width; height = i.height; largest = m; raster = raster }) (record {
      width_rest = behind_width;
      height_rest = behind_height;
      largest_rest = l.rest;
      form = ap (λ front. form_of (front ++ (word_bytes l.width ++ behind_width))) bytes ∙ form_is;
      width = ap (λ front. number_to 16384 (drop 2 (front ++ (word_bytes l.width ++ behind_width)))) bytes ∙ word-within 16384 l.width i.width behind_width header.width within.some_columns within.few_columns (word-no_digit l.height i.height behind_height header.height);
      height = word-within 16384 l.height i.height behind_height header.height within.some_rows within.few_rows (word-no_digit l.largest m l.rest header.largest);
      largest = word-within 255 l.largest m l.rest header.largest header.image.some_largest header.image.few_largest stop;
      raster = raster_is;
    })

-- values that are not above m
all_low : (m : ℕ) (vs : List ℕ) → AllByRecursion (λ v. v ≤ m) vs → prefix_len (low m) vs ≡ length vs
all_low m [] few = refl
all_low m (v ∷ vs) (here, more) = rw (one m v here) (omega (arith, all_low m vs more))
  where
    one : (m v : ℕ) → v ≤ m → low m v ≡ true
    one m v few = grind (arith, nat_tests)

-- a file whose header is read, and whose values are those of an image
image_laid : (bs raster : List ℕ) (form : Form) (m : ℕ) (i : Image) → IsImage m i → header_read bs ≡ Ok (record { form = form; width = i.width; height = i.height; largest = m; raster = raster }) → values form (i.width * i.height) raster ≡ i.greys → image_read bs ≡ Ok (brightened m i)
image_laid bs raster form m i image header are =
    let greys : greys_of (i.width * i.height) m (values form (i.width * i.height) raster) ≡ Ok (map (scaled m) i.greys) = ap (greys_of (i.width * i.height) m) are ∙ greys-whole (i.width * i.height) m i.greys (all_low m i.greys image.values) image.within.whole in
    ap (λ r. and_then r image_behind) header ∙ ap (λ r. and_then r (λ gs. Ok (record { width = i.width; height = i.height; greys = gs }))) greys

-- what follows the header of a raw file
space-stops : (s : ℕ) (bs : List ℕ) → is_space s ≡ true → digit_count (s ∷ bs) ≡ 0
space-stops s bs is = rw (space-no_digit s is) refl

space-behind : (s : ℕ) (bs : List ℕ) → is_space s ≡ true → raster_behind Raw (s ∷ bs) ≡ Some bs
space-behind s bs is = rw is refl

-- a raw file
raw_laid : (l : Layout) (m : ℕ) (i : Image) → IsRawFile l m i → image_read (file_bytes l) ≡ Ok (brightened m i)
raw_laid l m i file =
    let raster = i.greys ++ file.others in
    let header = header_laid l Raw 80 53 m i raster file.header file.form refl (ap digit_count file.raster ∙ space-stops file.space raster file.white) (ap (raster_behind Raw) file.raster ∙ space-behind file.space raster file.white) in
    image_laid (file_bytes l) raster Raw m i file.header.image header (ap (λ n. take n raster) (sym file.header.image.within.whole) ∙ take-append_seam i.greys file.others)

-- the raster of a plain file
words-no_digit : (words : List Word) (vs others : List ℕ) → AllTell words vs → digit_count others ≡ 0 → digit_count (flat_map word_bytes words ++ others) ≡ 0
words-no_digit [] vs others told stop = stop
words-no_digit (w ∷ ws) [] others told stop = absurd told
words-no_digit (w ∷ ws) (v ∷ vs) others (tells, told) stop = ap digit_count (append_assoc (word_bytes w) (flat_map word_bytes ws) others) ∙ word-no_digit w v (flat_map word_bytes ws ++ others) tells

numbers_laid : (words : List Word) (vs others : List ℕ) → AllTell words vs → digit_count others ≡ 0 → numbers (length vs) (flat_map word_bytes words ++ others) ≡ vs
unfolding numbers
numbers_laid words [] others told stop = refl
numbers_laid [] (v ∷ vs) others told stop = absurd told
numbers_laid (w ∷ ws) (v ∷ vs) others (tells, told) stop =
    let behind = flat_map word_bytes ws ++ others in
    let first = ap number_read (append_assoc (word_bytes w) (flat_map word_bytes ws) others) ∙ word-read w v behind tells (words-no_digit ws vs others told stop) in
    ap (λ o. option_map_or (λ (n : Numeral). n.value ∷ numbers (length vs) n.rest) o []) first ∙ ap (λ ns. v ∷ ns) (numbers_laid ws vs others told stop)

-- a plain file
plain_laid : (l : Layout) (m : ℕ) (i : Image) → IsPlainFile l m i → image_read (file_bytes l) ≡ Ok (brightened m i)
plain_laid l m i file =
    let raster = flat_map word_bytes file.words ++ file.others in
    let image = file.header.image in
    let header = header_laid l Plain 80 50 m i raster file.header file.form refl (ap digit_count file.raster ∙ words-no_digit file.words i.greys file.others file.told file.ended) (ap Some file.raster) in
    image_laid (file_bytes l) raster Plain m i image header (ap (λ n. numbers n raster) (sym image.within.whole) ∙ numbers_laid file.words i.greys file.others file.told file.ended)

-- what is read of a file is its image
pub file_read : (bs : List ℕ) (m : ℕ) (i : Image) → IsFile bs m i → image_read bs ≡ Ok (brightened m i)
file_read bs m i file = ap image_read file.whole ∙ ⊎_elim (raw_laid file.layout m i) (plain_laid file.layout m i) file.form
