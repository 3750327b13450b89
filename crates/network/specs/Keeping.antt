-- What a network keeps besides its value, from one state to a later one.

-- R holds where nothing changes, and for two changes in a row where it holds for each
pub record Keeping {A : Type 0} (R : A → A → Type 0) : Type 0 where
  pub same : (x : A) → R x x
  pub then : (x y z : A) → R x y → R y z → R x z
