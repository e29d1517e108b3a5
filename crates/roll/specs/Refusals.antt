-- The list of refusals: the number of each, and the place that it points to.
use Rattle.std.specs.Prelude.{ℕ, Some, None, Ok, Err, Option, Result}
use Rattle.roll.specs.declared.refusal.Refusal.{Refusal}
use Rattle.roll.specs.declared.refusal.Refusal.TheVariants.{RollSize, RowStatus, AnalystCount, BudgetSum, LineKind, EditLength, EditPlace, EditStatus, LineEnds, QueryKind, TableField, CutCount, CutOrder, TokenCount, TokenKind, PredicateField, TrailingByte, NoSuchAnalyst, BudgetTooLow, TapeEnds}

-- its number in the list
abbrev pub number : Refusal → ℕ
number RollSize = 1
number (RowStatus i) = 2
number AnalystCount = 3
number (BudgetSum i) = 4
number LineKind = 5
number (EditLength n) = 6
number EditPlace = 7
number EditStatus = 8
number (LineEnds n) = 9
number QueryKind = 10
number TableField = 11
number CutCount = 12
number (CutOrder i) = 13
number (TokenCount i) = 14
number (TokenKind i) = 15
number (PredicateField i) = 16
number (TrailingByte i) = 17
number NoSuchAnalyst = 18
number BudgetTooLow = 19
number TapeEnds = 20

-- the place of the roll, the analyst, or the place in the line that it points to
abbrev pub place : Refusal → ℕ
place RollSize = 0
place (RowStatus i) = i
place AnalystCount = 0
place (BudgetSum i) = i
place LineKind = 0
place (EditLength n) = n
place EditPlace = 1
place EditStatus = 3
place (LineEnds n) = n
place QueryKind = 2
place TableField = 3
place CutCount = 4
place (CutOrder i) = i
place (TokenCount i) = i
place (TokenKind i) = i
place (PredicateField i) = i
place (TrailingByte i) = i
place NoSuchAnalyst = 1
place BudgetTooLow = 1
place TapeEnds = 0

-- both, as the rules speak of a refusal
abbrev pub listed : Refusal → ℕ × ℕ
listed e = (number e, place e)

-- the refusal that a call answered with, if any
abbrev pub refusal_of : {X : Type 0} → Result X Refusal → Option (ℕ × ℕ)
refusal_of (Ok x) = None
refusal_of (Err e) = Some (listed e)
