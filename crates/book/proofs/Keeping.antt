-- What holds of an open book's table, kept by each entry and each need.
use Rattle.std.proofs.Common.{◌≡◌, ℕ, ◌+◌, ◌*◌, ◌<◌, ◌≤◌, Bool, false, cond, eqb, List, [], ◌∷◌, ◌++◌, map, length, filter, Some, ⊎_elim, refl, sym, ◌∙◌, ap, add-one, arith}
use Rattle.std.specs.List.{range_with_len, slice_get}
use Rattle.std.proofs.ByRecursion.{All-map}
use Rattle.std.proofs.lemmas.Bool.{cases_eq, eq-eqb, ne_eqb, true≢false}
use Rattle.std.proofs.lemmas.Bool.Decides.{nat_tests}
use Rattle.std.proofs.lemmas.List.{append-nil, length-append, map-append}
use Rattle.std.proofs.lemmas.List.Elements.{filter-append}
use Rattle.std.proofs.lemmas.List.FromFn.{map-range_with_len_more}
use Rattle.std.proofs.lemmas.List.Folds.{list_any_at, list_any-append}
use Rattle.std.proofs.lemmas.Option.{slice_get_within, get_or_from_slice_get}
use Rattle.network.specs.Cuts.{sum_below}
use Rattle.network.specs.Nets.{Distinct, at}
use Rattle.network.proofs.Lists.{nth_nil, distinct_push}
use Rattle.network.proofs.Sums.{sum_same, sum_differs}
use Rattle.book.specs.Books.{Need, needs_of, mate, binding, no_need, with_need}
use Rattle.book.specs.Refusals.{among}
use Rattle.book.specs.Tables.{Columns, need_in, book_in, arcs_of, SmallAmounts, HeadsThere, Unsent, NeedsNoted, AtMostFour, NeedsCounted, OthersNeeded, NeededOnce, ArcsCounted}
use Rattle.book.proofs.Changes.{with_entry_at, with_arc, with_arcs, with_needed}
use Rattle.book.proofs.Counts.{map_same, kept_same, kept_more, kept_none, all_counting}

-- what holds of the columns of n entries and m needs
pub record Kept (c : Columns) (n m : ℕ) : Type 0 where
  pub amounts : SmallAmounts c n
  pub heads : HeadsThere c n m
  pub unsent : Unsent c m
  pub noted : NeedsNoted c n m
  pub four : AtMostFour c n
  pub counted : NeedsCounted c n m
  pub others : OthersNeeded c n
  pub once : NeededOnce c n
  pub arcs : ArcsCounted c n m

-- the reverse of an arc is one of the same pair
pub mate_below : (a m : ℕ) → a < 2 * m → mate a < 2 * m
mate_below a m h = grind (arith, nat_tests)

-- an entry that no arc leads to has neither needs nor arcs
pub no_needs : (c : Columns) (n m u : ℕ) → HeadsThere c n m → n ≤ u → needs_of u (book_in c n m).needs ≡ []
no_needs c n m u heads past = rw (kept_none (λ (x : Need). eqb x.entry u) (map (need_in c) (range_with_len 0 m)) (All-map _ (need_in c) (range_with_len 0 m) (all_counting _ m (λ k h. let below = heads (2 * k + 1) (omega arith) in ne_eqb (c.head (2 * k + 1)) u (λ e. omega arith)))))

no_arcs : (c : Columns) (n m : ℕ) → HeadsThere c n m → arcs_of c m n ≡ []
no_arcs c n m heads = kept_none _ (range_with_len 0 (2 * m)) (all_counting _ (2 * m) (λ k h. let below = heads (mate k) (mate_below k m h) in ne_eqb (c.head (mate k)) n (λ e. omega arith)))

-- what holds of each value holds after one was changed to another of which it holds
each_at : {A : Type 0} (P : ℕ → A → Type 0) (f : ℕ → A) (u : ℕ) (x : A) (n : ℕ) → ((v : ℕ) → v < n → (v ≡ u → ⊥) → P v (f v)) → P u x → (v : ℕ) → v < n → P v (at f u x v)
each_at P f u x n old new v h = ⊎_elim
    (λ (same : v ≡ u). rw (eq-eqb v u same, same) new)
    (λ (other : v ≡ u → ⊥). rw (ne_eqb v u other) (old v h other))
    (cases_eq v u)

-- an entry more
pub kept_entry : (c : Columns) (n m x y : ℕ) → Kept c n m → x ≤ 1000000 → y ≤ 1000000 → Kept (with_entry_at c n x y) (n + 1) m
unfolding sum_below
kept_entry c n m x y k small-x small-y =
    let d = with_entry_at c n x y in
    record {
      amounts = λ u h. grind (arith, nat_tests, k.amounts u);
      heads = λ a h. omega (arith, k.heads a h);
      unsent = k.unsent;
      noted = λ u h. let none = no_needs c n m n k.heads (omega arith) in grind (arith, nat_tests, k.noted u);
      four = λ u h. grind (arith, nat_tests, k.four u);
      counted =
          let rest = sum_same n (λ u. length (d.needed u)) (λ u. length (c.needed u)) (λ u h. grind (arith, nat_tests)) in
          let last : length (d.needed n) ≡ 0 = grind (arith, nat_tests) in
          rw add-one (omega (arith, k.counted));
      others = λ u h. grind (arith, nat_tests, k.others u);
      once = each_at (λ u ws. Distinct ws) c.needed n [] (n + 1) (λ u h other. k.once u (omega arith)) (λ i j w. nth_nil i w);
      arcs = λ u h. let none = no_arcs c n m k.heads in grind (arith, nat_tests, k.arcs u);
    }

-- need number m, that u needs w: both have an arc more
abbrev pub with_need_at : Columns → ℕ → ℕ → ℕ → Columns
with_need_at c m u w = let d = with_needed c u w in with_arc (with_arc (with_arcs d w (d.arcs w + 1)) (2 * m) w binding) (2 * m + 1) u 0

-- they tell the needs that they told, and this one
needs_told : (c : Columns) (m u w : ℕ) → map (need_in (with_need_at c m u w)) (range_with_len 0 (m + 1)) ≡ map (need_in c) (range_with_len 0 m) ++ record { entry = u; needed = w } ∷ []
needs_told c m u w =
    let d = with_need_at c m u w in
    let old : (k : ℕ) → k < m → need_in d k ≡ need_in c k = λ k h. grind (arith, nat_tests) in
    let new : need_in d m ≡ record { entry = u; needed = w } = grind (arith, nat_tests) in
    map-range_with_len_more (need_in d) 0 m m (omega arith) ∙ (let all = map_same _ _ m no_need old in cc)

pub book_need : (c : Columns) (n m u w : ℕ) → book_in (with_need_at c m u w) n (m + 1) ≡ with_need (book_in c n m) u w
book_need c n m u w = λ i. record { entries = (book_in c n m).entries; needs = needs_told c m u w i }

-- of needs that stand behind others, an entry has those among both
pub needs_of_both : (u : ℕ) (ms ns : List Need) → needs_of u (ms ++ ns) ≡ needs_of u ms ++ needs_of u ns
needs_of_both u ms ns =
    let both = filter-append (λ (x : Need). eqb x.entry u) ms ns in
    ap (map (λ (x : Need). x.needed)) both ∙ map-append (λ (x : Need). x.needed) (filter (λ (x : Need). eqb x.entry u) ms) (filter (λ (x : Need). eqb x.entry u) ns)

needs_more : (v : ℕ) (ns : List Need) (x : Need) → needs_of v (ns ++ x ∷ []) ≡ needs_of v ns ++ cond (eqb x.entry v) (x.needed ∷ []) []
needs_more v ns x = let both = needs_of_both v ns (x ∷ []) in grind (arith, nat_tests)

-- and each of its two entries has an arc more
arcs_more : (c : Columns) (m u w v : ℕ) → arcs_of (with_need_at c m u w) (m + 1) v ≡ (arcs_of c m v ++ cond (eqb u v) ((2 * m) ∷ []) []) ++ cond (eqb w v) ((2 * m + 1) ∷ []) []
arcs_more c m u w v =
    let d = with_need_at c m u w in
    let p : ℕ → Bool = λ a. eqb (d.head (mate a)) v in
    let old = kept_same p (λ a. eqb (c.head (mate a)) v) (2 * m) (λ a h. let low = mate_below a m h in grind (arith, nat_tests)) in
    let first : d.head (mate (2 * m)) ≡ u = grind (arith, nat_tests) in
    let second : d.head (mate (2 * m + 1)) ≡ w = grind (arith, nat_tests) in
    let more : filter p (range_with_len 0 (2 * m + 1)) ≡ arcs_of c m v ++ cond (eqb u v) ((2 * m) ∷ []) [] = kept_more p (2 * m) ∙ rw (old, first) refl in
    let most : filter p (range_with_len 0 (2 * m + 1 + 1)) ≡ filter p (range_with_len 0 (2 * m + 1)) ++ cond (eqb w v) ((2 * m + 1) ∷ []) [] = kept_more p (2 * m + 1) ∙ rw second refl in
    let count : 2 * (m + 1) ≡ 2 * m + 1 + 1 = omega arith in
    rw (count, most, more) refl

-- a number that is not among others stands at none of their places
pub not_among : (w : ℕ) (xs : List ℕ) → among w xs ≡ false → (k : ℕ) → slice_get xs k ≡ Some w → ⊥
not_among w xs fresh k at = true≢false (sym (list_any_at (λ x. eqb x w) xs k 0 (slice_get_within xs k w at) (eq-eqb _ _ (get_or_from_slice_get xs k w 0 at))) ∙ fresh)

-- a need more, which is new, of an entry that has room for it
pub kept_need : (c : Columns) (n m u w : ℕ) → Kept c n m → u < n → w < n → (u ≡ w → ⊥) → among w (c.needed u) ≡ false → length (c.needed u) < 4 → Kept (with_need_at c m u w) n (m + 1)
kept_need c n m u w k there needed_there others fresh few =
    let d = with_need_at c m u w in
    record {
      amounts = k.amounts;
      heads = λ a h. grind (arith, nat_tests, k.heads a);
      unsent = λ i h. grind (arith, nat_tests, k.unsent i);
      noted = λ v h.
          let more : needs_of v (book_in d n (m + 1)).needs ≡ c.needed v ++ cond (eqb u v) (w ∷ []) [] = ap (needs_of v) (needs_told c m u w) ∙ (needs_more v (book_in c n m).needs (record { entry = u; needed = w }) ∙ rw (k.noted v h) refl) in
          let now : d.needed v ≡ c.needed v ++ cond (eqb u v) (w ∷ []) [] = grind (arith, nat_tests, append-nil) in
          now ∙ sym more;
      four = λ v h. grind (arith, nat_tests, length-append, k.four v);
      counted =
          let rest = sum_differs n u (λ v. length (d.needed v)) (λ v. length (c.needed v)) there (λ v h. grind (arith, nat_tests)) in
          let here : length (d.needed u) ≡ length (c.needed u) + 1 = grind (arith, nat_tests, length-append) in
          omega (arith, k.counted);
      others = λ v h. grind (arith, nat_tests, list_any-append, k.others v);
      once = each_at (λ v ws. Distinct ws) c.needed u (c.needed u ++ w ∷ []) n (λ v h other. k.once v h) (distinct_push (c.needed u) w (k.once u there) (not_among w (c.needed u) fresh));
      arcs = λ v h. let more = arcs_more c m u w v in grind (arith, nat_tests, length-append, k.arcs v);
    }
