-- A table of decaying weights: its rule from each entry to the next, as a test that is computed over the whole table and as facts of each entry.
use Rattle.std.specs.Prelude.{◌≡◌, ℕ, suc, ◌+◌, ◌-◌, ◌*◌, ◌/◌, ◌<◌, ◌≤◌, Bool, true, ◌&&◌, List, [], ◌∷◌, length, ◌==◌, nat_le, slice_index, slice_index_or}

-- whether a test passes at x and the first entry of a table, and at each entry and the next
abbrev pub links_from : (ℕ → ℕ → Bool) → ℕ → List ℕ → Bool
links_from f x [] = true
links_from f x (y ∷ ys) = f x y && links_from f y ys

-- whether a test passes at each entry of a table and the next
abbrev pub links : (ℕ → ℕ → Bool) → List ℕ → Bool
links f [] = true
links f (x ∷ xs) = links_from f x xs

-- whether y is a/b of x, rounded up
abbrev pub rounds_up : ℕ → ℕ → ℕ → ℕ → Bool
rounds_up a b x y = y == (a * x + (b - 1)) / b

-- whether x and y are within the factor b/a
abbrev pub within : ℕ → ℕ → ℕ → ℕ → Bool
within a b x y = nat_le (a * x) (b * y) && nat_le (a * y) (b * x)

-- y is the least whole number not below a/b of x
abbrev pub Least : ℕ → ℕ → ℕ → ℕ → Type 0
Least a b x y = (a * x ≤ b * y) × ((z : ℕ) → a * x ≤ b * z → y ≤ z)

-- a table that decays by a/b: its first entry, each from the one before, and how near each is to the one before
pub record Decaying (a b : ℕ) (ws : List ℕ) : Type 0 where
  pub first : slice_index_or ws 0 0 ≡ 1099511627776
  pub next : (d : ℕ) → suc d < length ws → Least a b (slice_index ws d) (slice_index ws (suc d))
  pub near : (d : ℕ) → suc d < length ws → (a * slice_index ws d ≤ b * slice_index ws (suc d)) × (a * slice_index ws (suc d) ≤ b * slice_index ws d)
