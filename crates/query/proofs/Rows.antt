-- One row of the roll moves the counts of a query's cells, taken together, by no more than the query costs.
use Rattle.std.proofs.Common.{◌≡◌, ℕ, zero, suc, ◌+◌, ◌≤◌, Bool, true, false, not, ◌&&◌, eqb, ltb, List, [], ◌∷◌, get_or, set, refl, arith}
use Rattle.roll.specs.Numbers.{one_if, total, apart}
use Rattle.roll.specs.Predicates.{Predicate, below, both, negated, passes, counted, count}
use Rattle.roll.specs.Rows.{Row}
use Rattle.query.specs.Query.{count_of, table_of, cut, cells, counts, marks}
use Rattle.query.specs.Statements.{MovesBy, CellsDisjoint, DisjointCells, SingleCell, OneRow}

-- a mark is 0 or 1
one_if_le : (b : Bool) → one_if b ≤ 1
one_if_le true = omega arith
one_if_le false = omega arith

-- a list is not apart from itself
apart_self : (xs : List ℕ) → apart xs xs ≡ 0
unfolding apart
apart_self [] = refl
apart_self (x ∷ xs) = omega (arith, apart_self xs)

-- two lists are no further apart than their sums together
apart_total : (xs ys : List ℕ) → apart xs ys ≤ total xs + total ys
unfolding apart total
apart_total [] ys = omega arith
apart_total (x ∷ xs) [] = omega arith
apart_total (x ∷ xs) (y ∷ ys) = omega (arith, apart_total xs ys)

-- a row that both rolls begin with moves nothing
apart_rest : (ps : List Predicate) (x : Row) (rs qs : List Row) → apart (counts ps (x ∷ rs)) (counts ps (x ∷ qs)) ≡ apart (counts ps rs) (counts ps qs)
unfolding apart counts count
apart_rest [] x rs qs = refl
apart_rest (p ∷ ps) x rs qs = omega (arith, apart_rest ps x rs qs)

-- rolls that differ in the first row alone are as far apart as those two rows
apart_first : (ps : List Predicate) (x r : Row) (rs : List Row) → apart (counts ps (x ∷ rs)) (counts ps (r ∷ rs)) ≡ apart (marks ps x) (marks ps r)
unfolding apart counts count marks
apart_first [] x r rs = refl
apart_first (p ∷ ps) x r rs = omega (arith, apart_first ps x r rs)

-- what bounds any two rows bounds any two rolls that differ at one place
moves_by : (n : ℕ) (ps : List Predicate) → ((x r : Row) → apart (marks ps x) (marks ps r) ≤ n) → MovesBy n ps
moves_by n ps h [] i r = omega (arith, apart_self (counts ps []))
moves_by n ps h (x ∷ rs) zero r = omega (arith, apart_first ps x r rs, h x r)
moves_by n ps h (x ∷ rs) (suc i) r = omega (arith, apart_rest ps x rs (set rs i r), moves_by n ps h rs i r)

-- a single cell gains or loses
pub single_cell : SingleCell
unfolding apart marks
single_cell p = moves_by 1 (p ∷ []) (λ x r. omega (arith, one_if_le (counted p x), one_if_le (counted p r)))

-- disjoint cells: one loses, one gains
pub disjoint_cells : DisjointCells
disjoint_cells ps apiece = moves_by 2 ps (λ x r. omega (arith, apart_total (marks ps x) (marks ps r), apiece x, apiece r))

-- a row that the predicate counts passes either a test or its opposite
either : (c t b : Bool) → one_if (c && (t && b)) + one_if (c && (t && not b)) ≡ one_if (c && t)
either true true true = refl
either true true false = refl
either true false b = refl
either false t b = refl

-- the cells of a table share out those who pass its predicate
shared_out : (p : Predicate) (f : ℕ) (ks : List ℕ) (r : Row) → total (marks (cut p f ks) r) ≡ one_if (counted p r)
unfolding total marks cut counted passes
shared_out p f [] r = omega arith
shared_out p f (k ∷ ks) r =
    omega (arith, shared_out (both p (negated (below f k))) f ks r, either (eqb (get_or r 0 0) 1) (passes p r) (ltb (get_or r f 0) k))

-- so no row is in two cells
pub cells_disjoint : CellsDisjoint
unfolding cells cut
cells_disjoint (count_of p) r = omega (arith, shared_out p 0 [] r, one_if_le (counted p r))
cells_disjoint (table_of p f ks) r = omega (arith, shared_out p f ks r, one_if_le (counted p r))

-- a count is a single cell, and a table disjoint cells
pub one_row : OneRow
unfolding cells
one_row (count_of p) = single_cell p
one_row (table_of p f ks) = disjoint_cells (cut p f ks) (cells_disjoint (table_of p f ks))
