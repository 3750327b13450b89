-- Plans of a book, the selections that can stand alone: what they earn and pay, and which of them are best.
use Rattle.std.specs.Prelude.{◌≡◌, ℕ, ◌+◌, ◌≤◌, true, cond, length, slice_index_or}
use Rattle.std.specs.List.{AllByRecursion}
use Rattle.network.specs.Cuts.{Selection, sum_below, cost, Cheapest}
use Rattle.book.specs.Books.{Book, no_amounts, network_of}

-- a selection that holds, with an entry, all that it needs
abbrev pub Plan : Book → Selection → Type 0
Plan b X = AllByRecursion (λ x. X x.entry ≡ true → X x.needed ≡ true) b.needs

-- what all entries earn
abbrev pub total_earnings : Book → ℕ
total_earnings b = sum_below (length b.entries) (λ u. (slice_index_or b.entries u no_amounts).earning)

-- what the selected entries earn
abbrev pub earned : Book → Selection → ℕ
earned b X = sum_below (length b.entries) (λ u. cond (X u) (slice_index_or b.entries u no_amounts).earning 0)

-- what the selected entries cost
abbrev pub paid : Book → Selection → ℕ
paid b X = sum_below (length b.entries) (λ u. cond (X u) (slice_index_or b.entries u no_amounts).cost 0)

-- the net of a plan is what it earns less what it pays; the cheapest selections are the plans of the greatest net
pub record BestPlans (b : Book) : Type 0 where
  -- a cheapest selection is a plan
  pub plans : (X : Selection) → Cheapest (network_of b) X → Plan b X
  -- a plan costs the total earnings less its net
  pub costs : (X : Selection) → Plan b X → cost (network_of b) X + earned b X ≡ total_earnings b + paid b X
  -- no plan has a greater net than a cheapest selection
  pub greatest : (X Y : Selection) → Cheapest (network_of b) X → Plan b Y → earned b Y + paid b X ≤ earned b X + paid b Y
  -- a plan of the greatest net is cheapest
  pub only : (X : Selection) → Plan b X → ((Y : Selection) → Plan b Y → earned b Y + paid b X ≤ earned b X + paid b Y) → Cheapest (network_of b) X
