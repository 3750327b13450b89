-- Numbers in bytes: what is read is what was written, and no other number has the same bytes.
use Rattle.std.proofs.Common.{◌≡◌, ℕ, zero, suc, ◌+◌, ◌*◌, ◌/◌, ◌%◌, ◌^◌, ◌<◌, ◌≤◌, List, ◌++◌, length, get_or, take, drop, sym, refl, ap, ◌∙◌, pow-suc, add-one, arith}
use Rattle.std.proofs.lemmas.List.{length_push, same_from_push, take_at, drop_at, take_more, get_or-drop, length-drop}
use Rattle.sheet.specs.Format.{bytes}
use Rattle.sheet.specs.Places.{number_at}

-- every byte is one
abbrev pub Bytes : List ℕ → Type 0
Bytes bs = (k : ℕ) → get_or bs k 0 < 256

pub length_bytes : (n x : ℕ) → length (bytes n x) ≡ n
unfolding bytes
length_bytes zero x = refl
length_bytes (suc n) x = omega (arith, length_push (bytes n (x / 256)) (x % 256), length_bytes n (x / 256))

-- two lists that begin with as many elements agree in these and in the rest
pub split_same : {A : Type 0} (a b s t : List A) → length a ≡ length b → a ++ s ≡ b ++ t → (a ≡ b) × (s ≡ t)
split_same a b s t long same = (
  sym (take_at a s (length b) long) ∙ ap (take (length b)) same ∙ take_at b t (length b) refl,
  sym (drop_at a s (length b) long) ∙ ap (drop (length b)) same ∙ drop_at b t (length b) refl,
)

-- numbers that fit n bytes and have the same bytes are the same
pub bytes_same : (n x y : ℕ) → x < 256 ^ n → y < 256 ^ n → bytes n x ≡ bytes n y → x ≡ y
unfolding bytes
bytes_same zero x y hx hy same = omega arith
bytes_same (suc n) x y hx hy same =
    let more = pow-suc 256 n in
    let (high, low) = same_from_push (bytes n (x / 256)) (bytes n (y / 256)) (x % 256) (y % 256) same in
    let quotient = bytes_same n (x / 256) (y / 256) (omega arith) (omega arith) high in
    omega arith

-- the bytes of the number that is read at p are those that stand there
pub bytes_at : (bs : List ℕ) (p n : ℕ) → Bytes bs → p + n ≤ length bs → bytes n (number_at bs p n) ≡ take n (drop p bs)
unfolding bytes number_at
bytes_at bs p zero small inside = refl
bytes_at bs p (suc n) small inside =
    let low = small (p + n) in
    let front : (number_at bs p n * 256 + get_or bs (p + n) 0) / 256 ≡ number_at bs p n = omega arith in
    let last : (number_at bs p n * 256 + get_or bs (p + n) 0) % 256 ≡ get_or bs (p + n) 0 = omega arith in
    let reach : n < length (drop p bs) = omega (arith, length-drop p bs) in
    rw (front, last, bytes_at bs p n small (omega arith), ← get_or-drop p bs n 0) (sym (rw add-one at (take_more (drop p bs) n 0 reach)))

pub number_below : (bs : List ℕ) (p n : ℕ) → Bytes bs → number_at bs p n < 256 ^ n
unfolding number_at
number_below bs p zero small = omega arith
number_below bs p (suc n) small = omega (arith, pow-suc 256 n, number_below bs p n small, small (p + n))
