-- The query of a line.
use Rattle.std.proofs.Common.{◌≡◌, ℕ, Bool, true, false, cond, eqb, List, [], ◌∷◌, length, drop, Some, None, Option, sym, refl, ◌∙◌}
use Rattle.roll.specs.Rows.{Row, edit_refusal}
use Rattle.query.specs.Lines.{read_query}
use Rattle.curator.specs.Lines.{reject, edit_place, edit_unless, read_edit, ask_or, read_line}
use Rattle.accountant.specs.Accountant.{query_in, query_of_line}

-- an edit is no query, whether it is taken or refused
no_query : (e : Option (ℕ × ℕ)) (place : ℕ) (row : Row) → query_in (edit_unless e place row) ≡ None
no_query None place row = refl
no_query (Some e) place row = refl

-- nor is one of another length
edit_no_query : (places : ℕ) (line : List ℕ) → query_in (read_edit places line) ≡ None
edit_no_query places line = go (eqb (length line) 19)
  where
    -- by its length
    go : (b : Bool) → query_in (cond b (edit_unless (edit_refusal places (edit_place line) (drop 3 line)) (edit_place line) (drop 3 line)) (reject 6 (length line))) ≡ None
    go true = no_query (edit_refusal places (edit_place line) (drop 3 line)) (edit_place line) (drop 3 line)
    go false = refl

-- a query is read alike whatever the number of places
pub query_alike : (places : ℕ) (line : List ℕ) → query_of_line line ≡ query_in (read_line places line)
unfolding read_line
query_alike places [] = refl
query_alike places (kind ∷ rest) = go (eqb kind 1)
  where
    -- by whether it is an edit
    go : (b : Bool) →
        query_in (cond b (read_edit 0 (kind ∷ rest)) (cond (eqb kind 2) (ask_or (read_query (kind ∷ rest))) (reject 5 0)))
        ≡ query_in (cond b (read_edit places (kind ∷ rest)) (cond (eqb kind 2) (ask_or (read_query (kind ∷ rest))) (reject 5 0)))
    go true = edit_no_query 0 (kind ∷ rest) ∙ sym (edit_no_query places (kind ∷ rest))
    go false = refl
