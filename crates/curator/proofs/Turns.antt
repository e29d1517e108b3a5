-- What a query takes from a tape of bytes, and when it is refused.
use Rattle.std.proofs.Common.{◌≡◌, ℕ, ◌-◌, ◌/◌, ◌<◌, ◌≤◌, true, false, ltb, List, length, take, drop, Some, sym, ap, ◌∙◌, arith, length-drop, length-take}
use Rattle.std.proofs.lemmas.List.{take_all}
use Rattle.std.proofs.lemmas.Bool.{cond-true, cond-false, lt-ltb, le-ltb}
use Rattle.query.specs.Query.{Query, cost}
use Rattle.noise.specs.Dial.{our_dial}
use Rattle.noise.specs.Words.{first_words, words_of}
use Rattle.noise.proofs.Reading.{words_part}
use Rattle.budget.specs.Budget.{payment_refusal}
use Rattle.curator.specs.Lines.{ask}
use Rattle.curator.specs.Curator.{verdict, taken}
use Rattle.curator.proofs.Tapes.{length_words, first_words_take}

module _ (tape : List ℕ) where
  -- fewer bytes than a page has
  too_short : length tape < 2048 → ltb (length (words_of tape)) 256 ≡ true
  too_short h = lt-ltb _ _ (omega (arith, length_words tape))

  -- a page is left
  long_enough : 2048 ≤ length tape → ltb (length (words_of tape)) 256 ≡ false
  long_enough h = le-ltb _ _ (omega (arith, length_words tape))

  -- a page has 256 words
  page_is : 2048 ≤ length tape → words_of (take 2048 tape) ≡ first_words 256 (take 2048 tape)
  unfolding words_of
  page_is h =
      let size : length (take 2048 tape) ≡ 2048 = omega (arith, length-take 2048 tape) in
      ap (λ n. first_words (n / 8) (take 2048 tape)) size

  -- which are the first on the tape
  pub page_words : 2048 ≤ length tape → words_of (take 2048 tape) ≡ take 256 (words_of tape)
  page_words h = page_is h ∙ first_words_take 256 tape ∙ words_part 256 0 tape (omega arith)

  -- the words that are left after a page
  rest_is : words_of (drop 2048 tape) ≡ first_words (length tape / 8 - 256) (drop 2048 tape)
  unfolding words_of
  rest_is =
      let size : length (drop 2048 tape) / 8 ≡ length tape / 8 - 256 = omega (arith, length-drop 2048 tape) in
      ap (λ n. first_words n (drop 2048 tape)) size

  -- are the others on the tape
  pub rest_words : 2048 ≤ length tape → words_of (drop 2048 tape) ≡ drop 256 (words_of tape)
  rest_words h =
      let m : ℕ = length tape / 8 - 256 in
      rest_is ∙ words_part m 256 tape (omega arith) ∙ take_all m _ (omega (arith, length-drop 256 (words_of tape), length_words tape))

  module _ (budgets : List ℕ) (analyst : ℕ) (q : Query) where
    -- without a page the query is refused, and nothing is taken
    pub no_page_verdict : length tape < 2048 → verdict our_dial (length (words_of tape)) budgets analyst q ≡ Some (20, 0)
    unfolding verdict our_dial
    no_page_verdict h = cond-true _ _ _ (too_short h)

    pub no_page_taken : length tape < 2048 → taken our_dial (length (words_of tape)) (ask analyst q) ≡ 0
    unfolding taken our_dial
    no_page_taken h = cond-true _ _ _ (too_short h)

    -- with a page the budgets decide, and the page is taken
    pub page_verdict : 2048 ≤ length tape → verdict our_dial (length (words_of tape)) budgets analyst q ≡ payment_refusal budgets analyst (cost q)
    unfolding verdict our_dial
    page_verdict h = cond-false _ _ _ (long_enough h)

    pub page_taken : 2048 ≤ length tape → taken our_dial (length (words_of tape)) (ask analyst q) ≡ 256
    unfolding taken our_dial
    page_taken h = cond-false _ _ _ (long_enough h)

    -- in the words of the call that takes it
    pub page_of : 2048 ≤ length tape → (page : List ℕ) → page ≡ take 2048 tape → words_of page ≡ take (taken our_dial (length (words_of tape)) (ask analyst q)) (words_of tape)
    page_of h page e = ap words_of e ∙ page_words h ∙ sym (ap (λ n. take n (words_of tape)) (page_taken h))

    pub rest_of : 2048 ≤ length tape → (rest : List ℕ) → rest ≡ drop 2048 tape → words_of rest ≡ drop (taken our_dial (length (words_of tape)) (ask analyst q)) (words_of tape)
    rest_of h rest e = ap words_of e ∙ rest_words h ∙ sym (ap (λ n. drop n (words_of tape)) (page_taken h))

-- what a query takes and whether it is refused, in all cases
pub ruleset turns = (no_page_verdict, no_page_taken, page_verdict, page_of, rest_of)
