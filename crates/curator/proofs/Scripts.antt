-- A list of lines in a file, one line at a time.
use Rattle.std.proofs.Common.{◌≡◌, ℕ, zero, suc, ◌-◌, ◌<◌, ◌≤◌, min, List, [], ◌∷◌, length, take, drop, sym, refl, ap, ◌∙◌, ⊎_elim, arith, length-drop}
use Rattle.std.proofs.lemmas.List.{take_all, drop_all, take_rest}
use Rattle.std.proofs.lemmas.Bool.{cases_lt}
use Rattle.curator.specs.Scripts.{line_size, first_line, after_line, lines_within, lines_in}

-- what follows a line is shorter than what it begins
pub after_shorter : (bytes : List ℕ) → 0 < length bytes → length (after_line bytes) < length bytes
after_shorter bytes h = omega (arith, length-drop (line_size bytes) (drop 2 bytes), length-drop 2 bytes)

-- as many lines as bytes suffice, and more change nothing
enough : (m k : ℕ) (bytes : List ℕ) → length bytes ≤ m → length bytes ≤ k → lines_within m bytes ≡ lines_within k bytes
unfolding lines_within
enough zero zero bytes h g = refl
enough zero (suc k) [] h g = refl
enough zero (suc k) (b ∷ bytes) h g = absurd (omega arith)
enough (suc m) zero [] h g = refl
enough (suc m) zero (b ∷ bytes) h g = absurd (omega arith)
enough (suc m) (suc k) [] h g = refl
enough (suc m) (suc k) (b ∷ bytes) h g =
    let less : length (after_line (b ∷ bytes)) < length (b ∷ bytes) = after_shorter (b ∷ bytes) (omega arith) in
    ap (λ ls. first_line (b ∷ bytes) ∷ ls) (enough m k (after_line (b ∷ bytes)) (omega arith) (omega arith))

-- the first line, and those after it
pub lines_more : (bytes : List ℕ) → 0 < length bytes → lines_in bytes ≡ first_line bytes ∷ lines_in (after_line bytes)
unfolding lines_in lines_within
lines_more [] h = absurd (omega arith)
lines_more (b ∷ bytes) h =
    let less : length (after_line (b ∷ bytes)) < length (b ∷ bytes) = after_shorter (b ∷ bytes) (omega arith) in
    ap (λ ls. first_line (b ∷ bytes) ∷ ls) (enough (length bytes) (length (after_line (b ∷ bytes))) (after_line (b ∷ bytes)) (omega arith) (omega arith))

-- no byte, no line
pub lines_none : (bytes : List ℕ) → length bytes ≡ 0 → lines_in bytes ≡ []
unfolding lines_in lines_within
lines_none [] h = refl
lines_none (b ∷ bytes) h = absurd (omega arith)

module _ (bytes : List ℕ) where
  -- a single byte is an empty line, and nothing follows it
  pub single_line : length bytes ≡ 1 → ([] ≡ first_line bytes) × ([] ≡ after_line bytes)
  single_line h =
      let none : drop 2 bytes ≡ [] = drop_all 2 bytes (omega arith) in
      (sym (ap (take (line_size bytes)) none ∙ take_all (line_size bytes) [] (omega arith)), sym (ap (drop (line_size bytes)) none ∙ drop_all (line_size bytes) [] (omega arith)))

  -- the part after the length, cut at the length or at its end
  pub cut_line :
      (n : ℕ) (line rest : List ℕ) → n ≡ min (line_size bytes) (length (take (length bytes - 2) (drop 2 bytes))) →
      line ≡ take n (take (length bytes - 2) (drop 2 bytes)) → rest ≡ drop n (take (length bytes - 2) (drop 2 bytes)) → (line ≡ first_line bytes) × (rest ≡ after_line bytes)
  cut_line n line rest is l r =
      let part = take_rest bytes 2 in
      ⊎_elim
      (λ (inside : line_size bytes < length (drop 2 bytes)).
      let whole : n ≡ line_size bytes = omega (arith, ap length part) in
      (l ∙ ap (take n) part ∙ ap (λ k. take k (drop 2 bytes)) whole, r ∙ ap (drop n) part ∙ ap (λ k. drop k (drop 2 bytes)) whole))
      (λ (past : length (drop 2 bytes) ≤ line_size bytes).
      let all : length (drop 2 bytes) ≤ n = omega (arith, ap length part) in (
        l ∙ ap (take n) part ∙ take_all n _ all ∙ sym (take_all (line_size bytes) _ past),
        r ∙ ap (drop n) part ∙ drop_all n _ all ∙ sym (drop_all (line_size bytes) _ past),
      ))
      (cases_lt (line_size bytes) (length (drop 2 bytes)))
