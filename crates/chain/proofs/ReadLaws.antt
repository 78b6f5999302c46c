-- The list read from its first node: the window's levels ascending, each once with its count and guide sum, which is what the definition asks of the
-- store.
-- Assumes nothing.
use mathlib.Core.Path.{◌≡◌, sym, ap, ◌∙◌, subst}
use mathlib.Core.Logic.{⊎_elim}
use mathlib.Core.List.{List}
use Prim.Native.Nat.{ℕ, zero, suc, ◌+◌, ◌-◌, ◌*◌, ◌≤◌, ◌<◌}
use native.Mathlib.Omega.{arith}
use lib.ListN.{length, get_or, drop, length-drop}
use lib.Seq.{ext_get_or, get_or-drop}
use borrow.Author.Tests.{eq-eqb, ne_eqb}
use Rattle.ints.specs.Order.{lt-or-le}
use Rattle.spec.specs.Frame.{Frame, guide}
use Rattle.spec.specs.Window.{level_sum}
use Rattle.spec.specs.Chain.{Entry, entry_of, entries, Reads}
use Rattle.spec.proofs.Climb.{entries_from, entries_from_lem}
use Rattle.chain_nodes.specs.Nodes.{node_level, node_next}
use Rattle.chain_list.specs.Chain.{Used, floor, Live, Chain, Beyond}
use Rattle.chain_list.proofs.SumLaws.{zero-or-pos}
use Rattle.chain_list.proofs.ChainLaws.{floor-pos, floor-zero}

module _ (p : Frame) (s t cap l head free : ℕ) (m : List ℕ) (ch : Chain cap l (level_sum p s t (λ x y. 1)) (level_sum p s t (guide p)) head free m)
  where
    abbrev cnt : ℕ → ℕ
    cnt = level_sum p s t (λ x y. 1)

    abbrev sm : ℕ → ℕ
    sm = level_sum p s t (guide p)

    -- the node after one that is before level a, with no level between
    at_level_lem : (a y : ℕ) → Live cap m y → floor m y ≤ a → ((j : ℕ) → floor m y ≤ j → j < a → cnt j ≡ 0) → 0 < cnt a
        → Used cap m (node_next m y) × (node_level m (node_next m y) ≡ a)
    at_level_lem a y v u gap p =
        let g = ch.shape.next y v in
        let k = ch.found a p in
        let r = g.least k.0 k.1 (omega (arith, k.2)) in
        let w = g.is r.0 in (
          w,
          ⊎_elim (λ h. absurd (omega (arith, gap (node_level m (node_next m y)) (g.from r.0) h, ch.counts (node_next m y) w, w.some)))
              (λ h. omega (arith, r.1, k.2)) (lt-or-le (node_level m (node_next m y)) a),
        )

    from : (n a y : ℕ) → Live cap m y → floor m y ≤ a → a + n ≡ l → ((j : ℕ) → floor m y ≤ j → j < a → cnt j ≡ 0) →
        Reads cap m (node_next m y) (entries_from p s t a n)
    unfolding entries_from entry_of Reads
    from zero a y v u e gap =
        ⊎_elim (λ z. z)
        (λ p. absurd (
        let g = ch.shape.next y v in
        let w = g.is p in
        let c = ch.counts (node_next m y) w in
        let b = ch.below (node_level m (node_next m y)) (omega (arith, w.some)) in
        omega (arith, gap (node_level m (node_next m y)) (g.from p) (omega arith), w.some)))
        (zero-or-pos (node_next m y))
    from (suc n) a y v u e gap =
        ⊎_elim
        (λ z. rw (eq-eqb (cnt a) 0 z)
        (from n (suc a) y v (omega arith) (omega arith) (λ j h k. ⊎_elim (λ w. gap j h w) (λ w. ap cnt (omega arith) ∙ z) (lt-or-le j a))))
        (λ q. rw (ne_eqb (cnt a) 0 (λ z. omega arith)) (
        let t = at_level_lem a y v u gap q in
        let w = t.0 in
        let f = floor-pos m (node_next m y) w.from in (
          w.from,
          w.to,
          t.1,
          ch.counts (node_next m y) w ∙ ap cnt t.1,
          ch.sums (node_next m y) w ∙ ap sm t.1,
          from n (suc a) (node_next m y) (λ q. w)
              (omega (arith, t.1)) (omega arith) (λ j h k. absurd (omega (arith, t.1))),
        )))
        (zero-or-pos (cnt a))

    pub chain-reads : Reads cap m (get_or m 0 0) (entries p s t l)
    chain-reads =
        subst (λ (es : List Entry). Reads cap m (get_or m 0 0) es) (sym (entries_from_lem p s t l))
        (from l 0 0 (λ p. absurd (omega arith)) (omega (arith, floor-zero m)) (omega arith) (λ j h k. absurd (omega arith)))

-- what is beyond the nodes is as it was
pub rest-kept : (cap : ℕ) (m m' : List ℕ) → length m' ≡ length m → Beyond cap m m' → drop (1 + 4 * cap) m' ≡ drop (1 + 4 * cap) m
rest-kept cap m m' e h =
    ext_get_or 0 _ _ (length-drop (1 + 4 * cap) m' ∙ ap (λ (n : ℕ). n - (1 + 4 * cap)) e ∙ sym (length-drop (1 + 4 * cap) m))
    (λ i l. get_or-drop (1 + 4 * cap) m' i 0 ∙ h (1 + 4 * cap + i) (omega arith) ∙ sym (get_or-drop (1 + 4 * cap) m i 0))
