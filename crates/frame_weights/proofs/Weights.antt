-- Laws of the built-in constants: their rule at all entries by one computed test, and the weight of two guides by it. Assumes nothing.
use Rattle.std.proofs.Common.{◌≡◌, sym, ap, ◌∙◌, Bool, List, ℕ, ◌+◌, ◌*◌, ◌/◌, ◌<◌, length, get_or, arith}
use native.Mathlib.Nat.{div-eq_of_lt-le}
use lib.Dec.{T, leb, ltb, leb→le, ltb→lt}
use lib.Seq.{ext_get_or}
use Rattle.spec.specs.Base.{distance}
use Rattle.spec.specs.Frame.{built_in}
use Rattle.spec.proofs.First.{length-tabulate, get_d_tabulate}
use Rattle.frame_weights.specs.Weights.{built_in_list}
use Rattle.frame_weights.proofs.Table.{both, both_left, both_right, every, at}

-- w is the whole part of 4096 / (16 + d), by two products
abbrev right : ℕ → ℕ → Bool
right d w = both (leb (w * (16 + d)) 4096) (ltb 4096 ((w + 1) * (16 + d)))

quotient : (d w : ℕ) → T (right d w) → w ≡ 4096 / (16 + d)
quotient d w t =
    let p = leb (w * (16 + d)) 4096 in
    let q = ltb 4096 ((w + 1) * (16 + d)) in
    sym (div-eq_of_lt-le (16 + d) (leb→le _ _ (both_left p q t)) (ltb→lt _ _ (both_right p q t)))

pub tested : {l : List ℕ} → length l ≡ 256 → T (every right 0 l) → l ≡ built_in_list
unfolding built_in_list
tested {l} n t =
    ext_get_or 0 l built_in_list (n ∙ sym (length-tabulate 256 _))
    (λ d h. quotient d _ (at right l t d h) ∙ sym (get_d_tabulate 256 _ d 0 (omega (arith, n, h))))

pub built-entry : {l : List ℕ} (f g d : ℕ) → l ≡ built_in_list → d < 256 → d ≡ distance f g → get_or l d 0 ≡ built_in f g
unfolding built_in_list built_in
built-entry f g d e h p =
    ap (λ (m : List ℕ). get_or m d 0) e ∙ get_d_tabulate 256 _ d 0 h ∙ ap (λ (n : ℕ). 4096 / (16 + n)) p
