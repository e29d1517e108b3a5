-- What one row of the roll can do to the true counts of a query.
use Rattle.std.specs.Prelude.{ℕ, ◌≤◌, List, [], ◌∷◌, slice_set}
use Rattle.roll.specs.Numbers.{total, apart}
use Rattle.roll.specs.Predicates.{Predicate}
use Rattle.roll.specs.Rows.{Row}
use Rattle.query.specs.Query.{Query, cells, cost, counts, marks}

-- cells are disjoint: each row is counted by at most one of them
abbrev pub Disjoint : List Predicate → Type 0
Disjoint ps = (r : Row) → total (marks ps r) ≤ 1

-- one row moves the counts of the cells, taken together, by at most n
abbrev pub MovesBy : ℕ → List Predicate → Type 0
MovesBy n ps = (roll : List Row) (i : ℕ) (r : Row) → apart (counts ps roll) (counts ps (slice_set roll i r)) ≤ n

-- the cells of every query are disjoint
abbrev pub CellsDisjoint : Type 0
CellsDisjoint = (q : Query) → Disjoint (cells q)

-- of any disjoint cells at most one loses the row that was and one gains the row that comes
abbrev pub DisjointCells : Type 0
DisjointCells = (ps : List Predicate) → Disjoint ps → MovesBy 2 ps

-- a single cell gains or loses
abbrev pub SingleCell : Type 0
SingleCell = (p : Predicate) → MovesBy 1 (p ∷ [])

-- change one place of the roll: the counts of a query's cells move, taken together, by no more than the query costs
abbrev pub OneRow : Type 0
OneRow = (q : Query) → MovesBy (cost q) (cells q)
