-- The right answer for a book: its best plans, as its cheapest selections tell them.
use Rattle.std.specs.Prelude.{◌≡◌, ℕ, ◌+◌, ◌≤◌, List, length}
use Rattle.network.specs.declared.mark.Mark.{Mark}
use Rattle.network.specs.Cuts.{Selection, CheapestCost, AllMarked}
use Rattle.book.specs.Books.{Book, network_of}
use Rattle.book.specs.Plans.{Plan, total_earnings, earned, paid}
use Rattle.sheet.specs.declared.Counts.{Counts}

pub record Answer : Type 0 where
  pub counts : Counts
  pub least : ℕ
  pub net : ℕ
  -- the entries' marks, in order of number
  pub marks : List Mark

-- k is the net of a plan, and no plan has a greater one
pub record GreatestNet (b : Book) (k : ℕ) : Type 0 where
  pub plan : (X : Selection) × Plan b X × (earned b X ≡ paid b X + k)
  pub greatest : (X : Selection) → Plan b X → earned b X ≤ paid b X + k

-- a book of these counts: its cheapest selections cost k, and m is the net of its best plans
pub record Worth (b : Book) (c : Counts) (k m : ℕ) : Type 0 where
  pub entries : c.entries ≡ length b.entries
  pub needs : c.needs ≡ length b.needs
  pub least : CheapestCost (network_of b) k
  -- what is left of the total earnings
  pub rest : k + m ≡ total_earnings b
  pub net : GreatestNet b m

pub record Right (b : Book) (a : Answer) : Type 0 where
  pub worth : Worth b a.counts a.least a.net
  pub marks : AllMarked (network_of b) a.marks
