-- Short lists: what stands past their items.
use Rattle.std.proofs.Common.{◌≡◌, ℕ, List, ◌++◌, length, drop, replicate, refl, All}
use Rattle.std.proofs.lemmas.List.{drop_at}
use Rattle.std.proofs.lemmas.List.Elements.{All-drop, All-replicate}

-- an array of one value, after some items were written over its beginning, has that value past them
pub past-items : {X : Type 0} (P : X → Type 0) (n : ℕ) (x : X) (xs ys : List X) → xs ≡ ys → P x → All P (drop (length ys) (xs ++ drop (length ys) (replicate n x)))
past-items P n x xs ys e p = rw e (rw (drop_at ys (drop (length ys) (replicate n x)) (length ys) refl) (All-drop P _ _ (All-replicate P n x p)))
