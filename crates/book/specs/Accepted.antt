-- What no question refuses.
use Rattle.std.specs.Prelude.{◌≡◌, ℕ, ◌<◌, ◌≤◌, ◌≢◌, false, List, length}
use Rattle.book.specs.Refusals.{among}

-- an entry that no question refuses
pub record Enters (earning cost entries unused : ℕ) : Type 0 where
  pub small_earning : earning ≤ 1000000
  pub small_cost : cost ≤ 1000000
  pub few : entries < 4096
  pub room : 0 < unused

-- a need that no question refuses
pub record Needs (u w : ℕ) (already : List ℕ) (entries unused : ℕ) : Type 0 where
  pub there : u < entries
  pub needed_there : w < entries
  pub others : u ≢ w
  pub fresh : among w already ≡ false
  pub few : length already < 4
  pub room : 2 ≤ unused
