-- The bytes of the lines that the bulletin has for a run.
use Rattle.std.specs.Prelude.{ℕ, List, [], ◌∷◌, ◌++◌, codes, decimal}
use Rattle.roll.specs.Refusals.{number, place}
use Rattle.roll.specs.declared.refusal.Refusal.{Refusal}
use Rattle.bulletin.specs.Printed.{printed, printed_text}

-- numbers released from a roll of p places, as they are printed, each after a space
abbrev pub numbers_text : ℕ → List ℕ → List ℕ
numbers_text p [] = []
numbers_text p (n ∷ ns) = codes " " ++ (printed_text (printed p n) ++ numbers_text p ns)

-- an answer: the analyst, the numbers released from a roll of p places, and what the analyst's budget then holds
abbrev pub answer_text : ℕ → ℕ → List ℕ → ℕ → List ℕ
answer_text p analyst ns left = decimal analyst ++ (codes " says" ++ (numbers_text p ns ++ (codes " left " ++ decimal left)))

-- a line that is refused: the number of the refusal, and the place that it points to
abbrev pub refused_text : Refusal → List ℕ
refused_text e = codes "refused " ++ (decimal (number e) ++ (codes " at " ++ decimal (place e)))

-- an opening that is refused
abbrev pub opening_text : Refusal → List ℕ
opening_text e = codes "desk " ++ refused_text e
