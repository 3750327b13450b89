-- The network of a book within its bounds keeps the laws, and its codes are few.
use Rattle.std.proofs.Common.{◌≡◌, ℕ, ◌+◌, ◌*◌, ◌/◌, ◌%◌, ◌^◌, ◌<◌, ◌≤◌, Bool, true, cond, ◌&&◌, ltb, leb, eqb, [], length, get_or, refl, arith}
use Rattle.std.proofs.lemmas.Bool.{and_parts, ltb-true, leb-true, le-ltb, eq-eqb, ne_eqb, cond_both}
use Rattle.std.proofs.ByRecursion.{All-get_or}
use Rattle.std.specs.List.{AllByRecursion, list_all}
use Rattle.network.specs.declared.terminal.Terminal.TheVariants.{Source, Sink}
use Rattle.network.specs.Nets.{Lawful}
use Rattle.book.specs.Books.{Amounts, Need, Book, amount, no_amounts, no_need, need_head, binding, network_of}
use Rattle.book.specs.Tables.{Columns}
use Rattle.book.specs.Laws.{lawful}
use Rattle.smallcases.proofs.Codes.{FewCodes}
use Rattle.smallcases.proofs.Tests.{all_by_test}

abbrev SmallAmounts : Amounts → Type 0
SmallAmounts x = (x.earning ≤ 1000000) × (x.cost ≤ 1000000)

-- both entries of a need are among n
abbrev There : ℕ → Need → Type 0
There n x = (x.entry < n) × (x.needed < n)

abbrev small_amounts : Amounts → Bool
small_amounts x = leb x.earning 1000000 && leb x.cost 1000000

abbrev need_there : ℕ → Need → Bool
need_there n x = ltb x.entry n && ltb x.needed n

small_by_test : (x : Amounts) → small_amounts x ≡ true → SmallAmounts x
small_by_test x h = let (earning, cost) = and_parts (leb x.earning 1000000) (leb x.cost 1000000) h in (leb-true x.earning 1000000 earning, leb-true x.cost 1000000 cost)

there_by_test : (n : ℕ) (x : Need) → need_there n x ≡ true → There n x
there_by_test n x h = let (entry, needed) = and_parts (ltb x.entry n) (ltb x.needed n) h in (ltb-true x.entry n entry, ltb-true x.needed n needed)

-- a book within its bounds
record Bounds (b : Book) : Type 0 where
  few : length b.entries ≤ 4096
  few_needs : length b.needs ≤ 16384
  small : AllByRecursion SmallAmounts b.entries
  there : AllByRecursion (There (length b.entries)) b.needs

abbrev few_records : Book → Bool
few_records b = leb (length b.entries) 4096 && leb (length b.needs) 16384

abbrev sound_records : Book → Bool
sound_records b = list_all small_amounts b.entries && list_all (need_there (length b.entries)) b.needs

bounds : (b : Book) → (few_records b && sound_records b) ≡ true → Bounds b
bounds b h =
    let (few, sound) = and_parts (few_records b) (sound_records b) h in
    let (entries, needs) = and_parts (leb (length b.entries) 4096) (leb (length b.needs) 16384) few in
    let (small, there) = and_parts (list_all small_amounts b.entries) (list_all (need_there (length b.entries)) b.needs) sound in
    record {
      few = leb-true (length b.entries) 4096 entries;
      few_needs = leb-true (length b.needs) 16384 needs;
      small = all_by_test small_amounts SmallAmounts small_by_test b.entries small;
      there = all_by_test (need_there (length b.entries)) (There (length b.entries)) (there_by_test (length b.entries)) b.needs there;
    }

-- the columns of a table that holds the book; what is said of needs and places, its network does not tell
abbrev columns_of : Book → Columns
columns_of b = record {
  earning = λ u. (get_or b.entries u no_amounts).earning;
  cost = λ u. (get_or b.entries u no_amounts).cost;
  needed = λ u. [];
  needs_or_first = λ u. 0;
  space = λ u. 0;
  arcs = λ u. 0;
  head = need_head b.needs;
  residual = λ a. cond (eqb (a % 2) 0) binding 0;
  code = λ k. 0;
}

head_there : (b : Book) → Bounds b → (a : ℕ) → a < 2 * length b.needs → need_head b.needs a < length b.entries
head_there b w a inside =
    let (entry, needed) = All-get_or (There (length b.entries)) b.needs (a / 2) no_need (omega arith) w.there in
    cond_both (eqb (a % 2) 0) (get_or b.needs (a / 2) no_need).needed (get_or b.needs (a / 2) no_need).entry (λ k. k < length b.entries) (λ _. needed) (λ _. entry)

pair_small : (b : Book) (i : ℕ) → i < length b.needs → (columns_of b).residual (2 * i) + (columns_of b).residual (2 * i + 1) ≤ binding
pair_small b i inside = rw (eq-eqb ((2 * i) % 2) 0 (omega arith), ne_eqb ((2 * i + 1) % 2) 0 (omega arith)) (omega arith)

book_lawful : (b : Book) → Bounds b → Lawful (network_of b)
book_lawful b w =
    let amounts : (u : ℕ) → u < length b.entries → SmallAmounts (get_or b.entries u no_amounts) = λ u inside. All-get_or SmallAmounts b.entries u no_amounts inside w.small in
    let laws = lawful (columns_of b) (length b.entries) (length b.needs) w.few w.few_needs amounts (head_there b w) (pair_small b) in
    record {
      graph = laws.graph;
      small = λ t u inside. elim t as (λ s. amount s (get_or b.entries u no_amounts) ≤ 2 ^ 40) [ Source ↦ omega (arith, (amounts u inside).0) | Sink ↦ omega (arith, (amounts u inside).1) ];
      small_pair = laws.small_pair;
    }

-- whether a book is within its bounds
abbrev pub sound_book : Book → Bool
sound_book b = few_records b && sound_records b

pub book_codes : (b : Book) → sound_book b ≡ true → FewCodes (network_of b) (2 * length b.needs)
book_codes b h =
    let w = bounds b h in
    record {
      lawful = book_lawful b w;
      few = omega (arith, w.few_needs);
      none = λ a past. rw (le-ltb a (2 * length b.needs) past) refl;
    }
