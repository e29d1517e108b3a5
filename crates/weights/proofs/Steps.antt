-- The walk along some weights, with the place and the draw as they stand.
use Rattle.std.proofs.Common.{◌≡◌, ℕ, ◌+◌, ◌-◌, ◌<◌, ◌≤◌, cond, ltb, List, [], ◌∷◌, Ok, Err, Result, ap, ◌∙◌, zero-add, arith}
use Rattle.std.proofs.lemmas.Bool.Decides.{nat_tests}
use Rattle.roll.specs.Numbers.{total}
use Rattle.weights.specs.Ring.{offset_of, walked}

-- where the draw falls from place j on, or what is left of it
abbrev pub walked_from : ℕ → List ℕ → ℕ → Result ℕ ℕ
walked_from j [] u = Err u
walked_from j (w ∷ ws) u = cond (ltb u w) (Ok j) (walked_from (j + 1) ws (u - w))

-- by the offset among the weights from there on
walked_is : (j : ℕ) (ws : List ℕ) (u : ℕ) → walked_from j ws u ≡ cond (ltb u (total ws)) (Ok (j + offset_of ws u)) (Err (u - total ws))
unfolding total offset_of
walked_is j [] u = grind (arith, nat_tests)
walked_is j (w ∷ ws) u = let rest = walked_is (j + 1) ws (u - w) in grind (arith, nat_tests)

-- from the first place on
pub walked_all : (ws : List ℕ) (u : ℕ) → walked_from 0 ws u ≡ walked ws u
walked_all ws u = walked_is 0 ws u ∙ ap (λ n. cond (ltb u (total ws)) (Ok n) (Err (u - total ws))) (zero-add (offset_of ws u))

-- what a walk says of the draw: it falls among the weights
pub walked_ok : (ws : List ℕ) (u p : ℕ) → Ok p ≡ walked ws u → (u < total ws) × (p ≡ offset_of ws u)
walked_ok ws u p e = (grind (arith, nat_tests), grind (arith, nat_tests))

-- or lies past them
pub walked_err : (ws : List ℕ) (u rest : ℕ) → Err rest ≡ walked ws u → (total ws ≤ u) × (rest ≡ u - total ws)
walked_err ws u rest e = (grind (arith, nat_tests), grind (arith, nat_tests))
