-- How an image may stand in a PGM file, and what is promised of one that is read.
use Rattle.std.specs.Prelude.{◌≡◌, ℕ, ◌*◌, ◌/◌, ◌<◌, ◌≤◌, true, false, List, [], ◌∷◌, ◌++◌, map, length, codes, decimal, Ok, Result, IfOk, ◌⊎◌, ⊤}
use Rattle.std.specs.Char.{is_ascii_digit}
use Rattle.std.specs.List.{AllByRecursion, list_all, flat_map}
use Rattle.std.specs.Str.Parse.{digits_value}
use Rattle.netpbm.specs.declared.refusal.ImageRefusal.{ImageRefusal}
use Rattle.netpbm.specs.Blanks.{is_space, ends_line}
use Rattle.netpbm.specs.Numerals.{digit_count}
use Rattle.netpbm.specs.Images.{Image, WithinLimits}

-- white space, and remarks, each from # to the end of its line
pub data IsBlank : List ℕ → Type 0 where
  nothing : IsBlank []
  space : {b : ℕ} {bs : List ℕ} → is_space b ≡ true → IsBlank bs → IsBlank (b ∷ bs)
  remark : (text : List ℕ) (e : ℕ) (bs : List ℕ) → AllByRecursion (λ b. ends_line b ≡ false) text → ends_line e ≡ true → IsBlank bs → IsBlank (35 ∷ (text ++ (e ∷ bs)))

-- what parts numbers: some of it
pub record IsGap (bs : List ℕ) : Type 0 where
  pub blank : IsBlank bs
  pub some : 0 < length bs

-- a number as it stands in a file: a gap, and its digits
pub record Word : Type 0 where
  pub gap : List ℕ
  pub digits : List ℕ

abbrev pub word_bytes : Word → List ℕ
word_bytes w = w.gap ++ w.digits

-- it tells n; zeros may stand in front
pub record Tells (w : Word) (n : ℕ) : Type 0 where
  pub apart : IsGap w.gap
  pub some : 0 < length w.digits
  pub decimal : list_all is_ascii_digit w.digits ≡ true
  pub value : digits_value 10 w.digits ≡ n

-- these tell the numbers, one each
abbrev pub AllTell : List Word → List ℕ → Type 0
AllTell [] [] = ⊤
AllTell (w ∷ ws) (n ∷ ns) = Tells w n × AllTell ws ns
AllTell [] (n ∷ ns) = ⊥
AllTell (w ∷ ws) [] = ⊥

-- a header's form, its three numbers, and what stands behind it
pub record Layout : Type 0 where
  pub form : List ℕ
  pub width : Word
  pub height : Word
  pub largest : Word
  pub rest : List ℕ

abbrev pub file_bytes : Layout → List ℕ
file_bytes l = l.form ++ (word_bytes l.width ++ (word_bytes l.height ++ (word_bytes l.largest ++ l.rest)))

-- an image within limits whose values are not above m
pub record IsImage (m : ℕ) (i : Image) : Type 0 where
  pub within : WithinLimits i
  pub some_largest : 1 ≤ m
  pub few_largest : m ≤ 255
  pub values : AllByRecursion (λ v. v ≤ m) i.greys

-- l is the layout of a file with such an image, where m stands for white
pub record IsHeader (l : Layout) (m : ℕ) (i : Image) : Type 0 where
  pub image : IsImage m i
  pub width : Tells l.width i.width
  pub height : Tells l.height i.height
  pub largest : Tells l.largest m

-- as a raw file: a white space byte, a byte for each value, and any others
pub record IsRawFile (l : Layout) (m : ℕ) (i : Image) : Type 0 where
  pub header : IsHeader l m i
  pub form : l.form ≡ codes "P5"
  pub space : ℕ
  pub others : List ℕ
  pub white : is_space space ≡ true
  pub raster : l.rest ≡ space ∷ (i.greys ++ others)

-- as a plain file: a number for each value, and any bytes that do not go on with a digit
pub record IsPlainFile (l : Layout) (m : ℕ) (i : Image) : Type 0 where
  pub header : IsHeader l m i
  pub form : l.form ≡ codes "P2"
  pub words : List Word
  pub others : List ℕ
  pub told : AllTell words i.greys
  pub ended : digit_count others ≡ 0
  pub raster : l.rest ≡ flat_map word_bytes words ++ others

-- the bytes are those of a file with these values
pub record IsFile (bs : List ℕ) (m : ℕ) (i : Image) : Type 0 where
  pub layout : Layout
  pub whole : bs ≡ file_bytes layout
  pub form : IsRawFile layout m i ⊎ IsPlainFile layout m i

-- the image that they stand for, since m stands for white
abbrev pub brightened : ℕ → Image → Image
brightened m i = record { width = i.width; height = i.height; greys = map (λ v. v * 255 / m) i.greys }

-- the bytes are those of a file, which is this image
pub record IsFileOf (bs : List ℕ) (j : Image) : Type 0 where
  pub largest : ℕ
  pub values : Image
  pub file : IsFile bs largest values
  pub image : j ≡ brightened largest values

-- the files of an image as tools mostly write them
abbrev pub raw_pgm : Image → List ℕ
raw_pgm i = codes "P5\n" ++ (decimal i.width ++ (codes " " ++ (decimal i.height ++ (codes "\n" ++ (decimal 255 ++ (codes "\n" ++ i.greys))))))

abbrev pub plain_pgm : Image → List ℕ
plain_pgm i = codes "P2\n" ++ (decimal i.width ++ (codes " " ++ (decimal i.height ++ (codes "\n" ++ (decimal 255 ++ (flat_map (λ g. codes "\n" ++ decimal g) i.greys ++ codes "\n"))))))

-- r is read of the bytes: the image of each file that they may be, and an image only where they are a file; and so an image comes back from its own files
pub record IsAnswered (bs : List ℕ) (r : Result Image ImageRefusal) : Type 0 where
  pub each : (m : ℕ) (i : Image) → IsFile bs m i → r ≡ Ok (brightened m i)
  pub only : IfOk r (λ j. IsFileOf bs j)
  pub raw : (i : Image) → IsImage 255 i → bs ≡ raw_pgm i → r ≡ Ok i
  pub plain : (i : Image) → IsImage 255 i → bs ≡ plain_pgm i → r ≡ Ok i
