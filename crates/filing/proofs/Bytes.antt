-- The bytes of a record, put together field by field.
use Rattle.std.proofs.Common.{◌≡◌, ℕ, zero, suc, ◌+◌, ◌-◌, ◌*◌, ◌/◌, ◌%◌, ◌^◌, ◌<◌, ◌≤◌, List, [], ◌∷◌, ◌++◌, length, get_or, take, w16, w32, sym, refl, ap, ◌∙◌, arith}
use Rattle.std.proofs.Math.Pow.{pow_mono}
use Rattle.std.proofs.Math.Nat.{pow-succ', div-div-eq-div-mul}
use Rattle.std.proofs.lemmas.List.{append_assoc, length-append, length-take-le, take_more, flat_map_more}
use Rattle.std.specs.Int.{byte_at, bytes_high_first, to_be_bytes}
use Rattle.sheet.specs.Format.{bytes, flag, amount_bytes, need_bytes, entry_bytes}
use Rattle.sheet.proofs.Entries.{flag_small, length_amount, length_needs}
use Rattle.filing.specs.Sheets.{present}

-- the bits of four needs and fewer are below 16
pub need_bits_small : (k : ℕ) → k ≤ 4 → 2 ^ k ≤ 16
need_bits_small k few = pow_mono few

next_byte : (k x : ℕ) → byte_at (suc k) x ≡ byte_at k (x / 256)
next_byte zero x = refl
next_byte (suc k) x = ap (λ q. q % 256) (ap (λ p. x / p) (pow-succ' 256 (suc k)) ∙ sym (div-div-eq-div-mul x 256 (256 ^ suc k)))

-- the lowest byte stands last
last_byte : (k x : ℕ) → bytes_high_first (suc k) x ≡ bytes_high_first k (x / 256) ++ (x % 256) ∷ []
last_byte zero x = refl
last_byte (suc k) x = ap (λ l. byte_at (suc k) x ∷ l) (last_byte k x) ∙ ap (λ b. b ∷ (bytes_high_first k (x / 256) ++ (x % 256) ∷ [])) (next_byte k x)

-- the sheet's bytes of a number are those of its type
pub bytes_same : (k x : ℕ) → bytes_high_first k x ≡ bytes k x
unfolding bytes
bytes_same zero x = refl
bytes_same (suc k) x = last_byte k x ∙ ap (λ l. l ++ (x % 256) ∷ []) (bytes_same k (x / 256))

-- the field of an amount that is not 0
pub amount_some : (x : ℕ) → 0 < x → amount_bytes (present x) ≡ to_be_bytes w32 x
amount_some zero h = absurd (omega arith)
amount_some (suc x) h = sym (bytes_same 4 (suc x))

pub amount_short : (x : ℕ) → length (amount_bytes (present x)) ≤ 4
amount_short x = omega (arith, length_amount (present x), flag_small (present x))

need_more : (ns : List ℕ) (k : ℕ) → k < length ns → need_bytes (take (k + 1) ns) ≡ need_bytes (take k ns) ++ bytes 2 (get_or ns k 0)
need_more ns k more = ap need_bytes (take_more ns k 0 more) ∙ sym (flat_map_more (bytes 2) [] (take k ns) (get_or ns k 0))

-- one need more, behind what is packed
pub need_packed : (before now after ns : List ℕ) (k : ℕ) → k < length ns → now ≡ before ++ need_bytes (take k ns) → after ≡ now ++ to_be_bytes w16 (get_or ns k 0) → after ≡ before ++ need_bytes (take (k + 1) ns)
need_packed before now after ns k more so then = then ∙ ap (λ l. l ++ to_be_bytes w16 (get_or ns k 0)) so ∙ append_assoc before (need_bytes (take k ns)) (to_be_bytes w16 (get_or ns k 0)) ∙ ap (λ l. before ++ l) (ap (λ l. need_bytes (take k ns) ++ l) (bytes_same 2 (get_or ns k 0)) ∙ sym (need_more ns k more))

-- the bit map and both amounts were packed, one after another
pub record Begun (x y m : ℕ) (start first head : List ℕ) : Type 0 where
  pub starts : start ≡ m ∷ []
  pub then : first ≡ start ++ amount_bytes (present x)
  pub last : head ≡ first ++ amount_bytes (present y)

pub begun_length : (x y m : ℕ) (start first head : List ℕ) → Begun x y m start first head → length head ≤ 9
begun_length x y m start first head b = omega (arith, ap length b.last, length-append first (amount_bytes (present y)), ap length b.then, length-append start (amount_bytes (present x)), ap length b.starts, amount_short x, amount_short y)

-- with all needs behind them this is the record
pub packed_whole : (x y m : ℕ) (start first head ns : List ℕ) → Begun x y m start first head → m ≡ flag (present x) + 2 * flag (present y) + 4 * (2 ^ length ns - 1) → head ++ need_bytes ns ≡ entry_bytes (record { earning = present x; cost = present y; needs = ns })
unfolding entry_bytes
packed_whole x y m start first head ns b is =
    let begun : head ≡ (m ∷ amount_bytes (present x)) ++ amount_bytes (present y) = b.last ∙ ap (λ l. l ++ amount_bytes (present y)) (b.then ∙ ap (λ l. l ++ amount_bytes (present x)) b.starts) in
    ap (λ l. l ++ need_bytes ns) begun ∙ ap (λ l. m ∷ l) (append_assoc (amount_bytes (present x)) (amount_bytes (present y)) (need_bytes ns)) ∙ ap (λ k. k ∷ (amount_bytes (present x) ++ (amount_bytes (present y) ++ need_bytes ns))) is

pub needs_length : (before now ns : List ℕ) (k : ℕ) → k ≤ length ns → now ≡ before ++ need_bytes (take k ns) → length now ≡ length before + 2 * k
needs_length before now ns k inside so = omega (arith, ap length so, length-append before (need_bytes (take k ns)), length_needs (take k ns), length-take-le k ns inside)
