-- When an edit is refused, and the rows after one that is not.
use Rattle.std.proofs.Common.{◌≡◌, ℕ, ◌+◌, ◌*◌, ◌/◌, ◌<◌, ◌≤◌, List, ◌++◌, length, get_or, take, drop, set, Some, None, ap, ◌∙◌, arith}
use Rattle.std.proofs.lemmas.Bool.Decides.{nat_tests}
use Rattle.std.specs.Simd.{first_chunks}
use Rattle.roll.specs.Rows.{Row, rows_in, edit_refusal}
use Rattle.roll.proofs.Chunks.{length_chunked, with_run, chunked_with_run, length_with_run}

-- the rows that so many bytes hold
pub length_rows : (bytes : List ℕ) → length (rows_in bytes) ≡ length bytes / 16
length_rows bytes = length_chunked 16 (length bytes / 16) bytes

module _ (bytes : List ℕ) (place : ℕ) (row : Row) where
  -- a place that is not there
  pub no_place : length bytes / 16 ≤ place → edit_refusal (length (rows_in bytes)) place row ≡ Some (7, 1)
  no_place h = let many = length_rows bytes in grind (arith, nat_tests)

  -- a row that is neither empty nor a household
  pub no_status : place < length bytes / 16 → 1 < get_or row 0 0 → edit_refusal (length (rows_in bytes)) place row ≡ Some (8, 3)
  no_status h above = let many = length_rows bytes in grind (arith, nat_tests)

  -- any other edit is taken
  pub taken : place < length bytes / 16 → get_or row 0 0 ≤ 1 → edit_refusal (length (rows_in bytes)) place row ≡ None
  taken h fits = let many = length_rows bytes in grind (arith, nat_tests)

  -- writing the row over the bytes of its place changes that row alone
  pub rows_after :
      length row ≡ 16 → place < length bytes / 16 → (start : ℕ) (after : List ℕ) → start ≡ 16 * place →
      after ≡ take start bytes ++ (row ++ drop 16 (drop start bytes)) → rows_in after ≡ set (rows_in bytes) place row
  rows_after size h start after at e =
      let long : 16 * place + 16 ≤ length bytes = omega arith in
      rw (e, at)
      (ap (λ n. first_chunks 16 (n / 16) (with_run 16 place row bytes)) (length_with_run 16 row size place bytes long)
      ∙ chunked_with_run 16 row size (length bytes / 16) place bytes h (omega arith))
