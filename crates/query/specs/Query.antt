-- Queries, their cells, what they cost, and their true counts.
use Rattle.std.specs.Prelude.{ℕ, suc, cond, List, [], ◌∷◌, map, nat_lt}
use Rattle.roll.specs.Numbers.{one_if}
use Rattle.roll.specs.Predicates.{Predicate, below, both, negated, counted, count}
use Rattle.roll.specs.Rows.{Row}

-- the count of those who pass a predicate, or a table of them by a field, cut at some numbers
pub data Query : Type 0 where
  count_of : Predicate → Query
  table_of : Predicate → ℕ → List ℕ → Query

-- those who pass p with the field f below the first cut; then those among the others below the next; and so on to the rest
unfoldable pub cut : Predicate → ℕ → List ℕ → List Predicate
cut p f [] = p ∷ []
cut p f (k ∷ ks) = both p (below f k) ∷ cut (both p (negated (below f k))) f ks

-- the cells of a query: a predicate for each number that it asks for
unfoldable pub cells : Query → List Predicate
cells (count_of p) = p ∷ []
cells (table_of p f ks) = cut p f ks

-- the units that a query costs
abbrev pub cost : Query → ℕ
cost (count_of p) = 1
cost (table_of p f ks) = 2

-- the true counts of some cells
unfoldable pub counts : List Predicate → List Row → List ℕ
counts ps roll = map (λ p. count p roll) ps

-- for each cell 1 if it counts the row, else 0
unfoldable pub marks : List Predicate → Row → List ℕ
marks ps r = map (λ p. one_if (counted p r)) ps

-- which of a table's cells a value falls in: how many cuts, from the first on, are not above it
abbrev pub cell : List ℕ → ℕ → ℕ
cell [] v = 0
cell (k ∷ ks) v = cond (nat_lt v k) 0 (suc (cell ks v))
