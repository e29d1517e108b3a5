-- Our dial: its numbers, and that it is good.
use Rattle.std.proofs.Common.{◌≡◌, ◌*◌, ◌/◌, ap, arith, lit≤}
use Rattle.weights.proofs.Ours.{neighbours, our_places, our_sum}
use Rattle.noise.specs.Dial.{Good, ring, bound, our_dial}

-- the number of its places
pub dial_ring : ring our_dial ≡ 65536
unfolding our_dial
dial_ring = our_places

-- the bound at which words are rejected
pub dial_bound : bound our_dial ≡ 18446743461844455030
unfolding our_dial
dial_bound = ap (λ n. 18446744073709551616 / n * n) our_sum

-- it is good, by the neighbours' rule of our ring
pub our_good : Good our_dial
unfolding our_dial
our_good =
    record {
      some_place = omega (arith, our_places);
      some_draw = omega (arith, our_sum);
      enough = omega (arith, our_sum);
      rising = lit≤ tt;
      near = neighbours;
    }
