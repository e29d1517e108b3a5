-- A run of a list of lines, followed line by line.
use Rattle.std.proofs.Common.{◌≡◌, ℕ, suc, ◌+◌, ◌-◌, ◌<◌, ◌≤◌, List, [], ◌∷◌, ◌++◌, map, length, get_or, drop, sym, refl, ap, ◌∙◌, subst, append_assoc, append-nil, arith, length-append, length-drop, length-set}
use lib.ListN.{length-map}
use Rattle.std.proofs.lemmas.List.{map-append, get_or-drop, drop-drop}
use Rattle.noise.specs.Dial.{our_dial}
use Rattle.curator.specs.declared.outcome.Outcome.{Outcome as Given}
use Rattle.curator.specs.Lines.{Command, edit, ask, reject, read_line}
use Rattle.curator.specs.Curator.{Outcome, State, outcome, step, edited_roll, commands, transcript, state_after}
use Rattle.curator.specs.Served.{outcome_of}
use Rattle.curator.specs.Scripts.{script, Chain, Told}

-- one outcome more
chain_more :
    {J : Type 0} (notes : J → Given → J → Type 0) (from : J) (os : List Given) (between to : J) (o : Given) →
    Chain notes from os between → notes between o to → Chain notes from (os ++ (o ∷ [])) to
chain_more notes from [] between to o e h = subst (λ x. (m : _) × notes x o m × (m ≡ to)) (sym e) (to, h, refl)
chain_more notes from (p ∷ os) between to o (m, n, c) h = (m, n, chain_more notes m os between to o c h)

-- a line keeps the number of places
places_kept : (s : State) (c : Command) (o : Outcome) → length (step our_dial s c o).roll ≡ length s.roll
unfolding step edited_roll
places_kept s (edit i r) o = length-set s.roll i r
places_kept s (ask a q) o = refl
places_kept s (reject n k) o = refl

-- after some lines of a list the journal, the state and the lines that are left are such
pub record Followed {J : Type 0} (notes : J → Given → J → Type 0) (from : J) (start : State) (lines : List (List ℕ)) (to : J) (s : State) (left : List (List ℕ)) : Type 0 where
  pub os : List Given
  pub chain : Chain notes from os to
  pub places : length s.roll ≡ length start.roll
  pub lines_left : left ≡ drop (length os) lines
  pub few : length os ≤ length lines
  pub transcript_is :
      transcript our_dial (commands (length start.roll) (script lines)) (length lines) start []
      ≡ map outcome_of os ++ transcript our_dial (commands (length start.roll) (script lines)) (length lines - length os) s (map outcome_of os)
  pub state_is :
      state_after our_dial (commands (length start.roll) (script lines)) (length lines) start []
      ≡ state_after our_dial (commands (length start.roll) (script lines)) (length lines - length os) s (map outcome_of os)

-- before the first line
pub followed_none :
    {J : Type 0} (notes : J → Given → J → Type 0) (from : J) (start : State) (lines : List (List ℕ)) → Followed notes from start lines from start lines
followed_none notes from start lines =
    let all : length lines ≡ length lines - 0 = omega arith in
    record {
      os = [];
      chain = refl;
      places = refl;
      lines_left = refl;
      few = omega arith;
      transcript_is = ap (λ n. transcript our_dial (commands (length start.roll) (script lines)) n start []) all;
      state_is = ap (λ n. state_after our_dial (commands (length start.roll) (script lines)) n start []) all;
    }

module _ {J : Type 0} (notes : J → Given → J → Type 0) (from : J) (start : State) (lines : List (List ℕ)) where
  -- what the next line asks for
  abbrev next : List Outcome → Command
  next = commands (length start.roll) (script lines)

  -- the transcript from a state on, by the line that comes next
  transcript_more :
      (m : ℕ) (s t : State) (sofar : List Outcome) (c : Command) (o : Outcome) → next sofar ≡ c → o ≡ outcome our_dial s c → t ≡ step our_dial s c o →
      transcript our_dial next (suc m) s sofar ≡ o ∷ transcript our_dial next m t (sofar ++ (o ∷ []))
  unfolding transcript
  transcript_more m s t sofar c o e is stepped = rw (stepped, is, ← e)

  -- and the state after it
  state_more :
      (m : ℕ) (s t : State) (sofar : List Outcome) (c : Command) (o : Outcome) → next sofar ≡ c → o ≡ outcome our_dial s c → t ≡ step our_dial s c o →
      state_after our_dial next (suc m) s sofar ≡ state_after our_dial next m t (sofar ++ (o ∷ []))
  unfolding state_after
  state_more m s t sofar c o e is stepped = rw (stepped, is, ← e)

  module _ (between : J) (s : State) (left : List (List ℕ)) (before : Followed notes from start lines between s left) where
    -- the outcomes so far
    abbrev sofar : List Outcome
    sofar = map outcome_of before.os

    module _ (line : List ℕ) (after : List (List ℕ)) (rest : left ≡ line ∷ after) where
      -- those lines that are left are all that are left of the list
      ends : drop (length before.os) lines ≡ line ∷ after
      ends = sym before.lines_left ∙ rest

      -- so there is a line more
      more : length before.os < length lines
      more = omega (arith, ap length ends, length-drop (length before.os) lines)

      -- which is the next one
      is_next : next sofar ≡ read_line (length s.roll) line
      is_next =
          let at : length sofar ≡ length before.os = length-map before.os outcome_of in
          let this : get_or lines (length before.os) [] ≡ line =
          ap (λ n. get_or lines n []) (omega arith) ∙ sym (get_or-drop (length before.os) lines 0 []) ∙ ap (λ ls. get_or ls 0 []) ends in
          ap (λ n. read_line (length start.roll) (get_or lines n [])) at ∙ ap (read_line (length start.roll)) this ∙ ap (λ n. read_line n line) (sym before.places)

      -- one line more
      pub followed_more :
          (to : J) (o : Given) (t : State) → notes between o to → outcome_of o ≡ outcome our_dial s (read_line (length s.roll) line) →
          t ≡ step our_dial s (read_line (length s.roll) line) (outcome_of o) → Followed notes from start lines to t after
      followed_more to o t noted is stepped =
          let k : ℕ = length before.os in
          let c : Command = read_line (length s.roll) line in
          let os' : List Given = before.os ++ (o ∷ []) in
          let m : ℕ = length lines - length os' in
          let size : length os' ≡ k + 1 = length-append before.os (o ∷ []) in
          let told : sofar ++ (outcome_of o ∷ []) ≡ map outcome_of os' = sym (map-append outcome_of before.os (o ∷ [])) in
          let one_less : length lines - k ≡ suc m = omega (arith, size, more) in
          record {
            os = os';
            chain = chain_more notes from before.os between to o before.chain noted;
            places = ap (λ x. length x.roll) stepped ∙ places_kept s c (outcome_of o) ∙ before.places;
            lines_left = sym (ap (drop 1) ends) ∙ drop-drop 1 k lines ∙ ap (λ n. drop n lines) (sym size);
            few = omega (arith, size, more);
            transcript_is =
                before.transcript_is
                ∙ ap (λ n. sofar ++ transcript our_dial next n s sofar) one_less
                ∙ ap (λ x. sofar ++ x) (transcript_more m s t sofar c (outcome_of o) is_next is stepped)
                ∙ sym (append_assoc sofar (outcome_of o ∷ []) (transcript our_dial next m t (sofar ++ (outcome_of o ∷ []))))
                ∙ ap (λ x. x ++ transcript our_dial next m t x) told;
            state_is =
                before.state_is
                ∙ ap (λ n. state_after our_dial next n s sofar) one_less
                ∙ state_more m s t sofar c (outcome_of o) is_next is stepped
                ∙ ap (λ x. state_after our_dial next m t x) told;
          }

    -- no line more: the journal was told of the whole transcript
    all_told : left ≡ [] → length lines - length before.os ≡ 0
    all_told none = omega (arith, ap length (sym none ∙ before.lines_left), length-drop (length before.os) lines)

    pub followed_all : left ≡ [] → Told notes from (transcript our_dial next (length lines) start []) between
    unfolding transcript
    followed_all none = (
      before.os,
      before.chain,
      sym (before.transcript_is ∙ ap (λ n. sofar ++ transcript our_dial next n s sofar) (all_told none) ∙ append-nil sofar),
    )

    -- and the state is the one after all lines
    pub state_all : left ≡ [] → s ≡ state_after our_dial next (length lines) start []
    unfolding state_after
    state_all none = sym (before.state_is ∙ ap (λ n. state_after our_dial next n s sofar) (all_told none))
