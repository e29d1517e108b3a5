-- The share of the draws that move a number far, in per cent, and the bytes of the lines that say so.
use Rattle.std.specs.Prelude.{ℕ, ◌+◌, ◌*◌, ◌/◌, ◌%◌, List, ◌++◌, codes, decimal}
use Rattle.roll.specs.Numbers.{total}
use Rattle.weights.specs.Ring.{our_weights}
use Rattle.bulletin.specs.declared.tail.Share.{Share}
use Rattle.bulletin.specs.declared.tail.Tail.{Tail}

-- n out of all in hundredths of a per cent: the nearest whole number, halves up
abbrev pub hundredths_of : ℕ → ℕ → ℕ
hundredths_of all n = (20000 * n + all) / (2 * all)

-- the share of an entry's draws in all draws of our ring
abbrev pub share_of : Tail → Share
share_of t = record { hundredths = hundredths_of (total our_weights) t.draws; draws = t.draws; all = total our_weights }

-- a share: per cent with two decimal places, and the two numbers behind it
abbrev pub share_text : Share → List ℕ
share_text s =
    decimal (s.hundredths / 100) ++ (codes "." ++ (decimal (s.hundredths / 10 % 10) ++ (decimal (s.hundredths % 10) ++ (codes " % of the draws ("
    ++ (decimal s.draws ++ (codes " of " ++ (decimal s.all ++ codes ")")))))))

-- the line for an entry of the table: its places, and the share of its draws
abbrev pub tail_text : Tail → List ℕ
tail_text t = codes "more than " ++ (decimal t.places ++ (codes " off: " ++ share_text (share_of t)))

-- the line above them
abbrev pub heading_text : List ℕ
heading_text = codes "each number may be off, whatever the true count:"
