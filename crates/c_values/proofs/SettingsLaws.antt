-- Numbers that checks 2 to 5 cannot tell apart: the same, or both above the highest that the check lets through.
-- Assumes nothing.
use Prim.Native.Nat.{ℕ, ◌*◌, ◌≤◌, ◌<◌, min}
use mathlib.Core.Path.{◌≡◌, refl, ap, sym, ◌∙◌}
use mathlib.Core.Bool.{Bool, true, false, not, ◌||◌}
use mathlib.Core.Logic.{◌⊎◌, inl, inr}
use native.Mathlib.Omega.{arith}
use lib.Dec.{ltb, eqb}
use borrow.Author.Tests.{lt-ltb, ltb-true, ltb-false, ne_eqb}
use Rattle.spec.specs.declared.Settings.{Settings}
use Rattle.std.specs.Prelude.{if◌then◌else◌}
use Rattle.spec.specs.Refusal.{accepted}
use Rattle.spec.specs.Checks.{outside, bad_size, bad_counts, bad_kind, bad_radius, settings_outcome}
use Rattle.spec.proofs.Limits.{settings-limits}
use Rattle.c_values.specs.Settings.{settings_from, Narrowed}

abbrev pub Alike : ℕ → ℕ → ℕ → Type 0
Alike top n m = (m ≡ n) ⊎ ((top < n) × (top < m))

-- a number and what its field holds, where the field holds more than the check lets through
pub alike : (top most n m : ℕ) → m ≡ min n most → top < most → Alike top n m
alike top most n m is h = go (ltb n most) refl
  where
    go : (b : Bool) → ltb n most ≡ b → Alike top n m
    go true d = let q : n < most = ltb-true _ _ d in inl (omega arith)
    go false d = let q : most ≤ n = ltb-false _ _ d in inr (omega arith, omega arith)

exact : (top n m : ℕ) → Alike top n m → n ≤ top → m ≡ n
exact top n m (inl e) h = e
exact top n m (inr q) h = let a = q.0 in absurd (omega arith)

-- ---- tests
or-true : (a : Bool) → (a || true) ≡ true
or-true true = refl
or-true false = refl

above : (low top n : ℕ) → top < n → outside low top n ≡ true
above low top n h = rw (lt-ltb top n h) (or-true (ltb n low))

outside-alike : (low top n m : ℕ) → Alike top n m → outside low top m ≡ outside low top n
outside-alike low top n m (inl e) = ap (outside low top) e
outside-alike low top n m (inr q) = above low top m q.1 ∙ sym (above low top n q.0)

abbrev size_test : ℕ → ℕ → Bool
size_test w h = outside 1 1024 w || outside 1 1024 h || ltb 262144 (w * h)

too_wide : (w h : ℕ) → 1024 < w → size_test w h ≡ true
too_wide w h a = rw (above 1 1024 w a) refl

too-high : (w h : ℕ) → 1024 < h → size_test w h ≡ true
too-high w h a = rw (above 1 1024 h a, or-true) refl

size-alike : (w h w' h' : ℕ) → Alike 1024 w w' → Alike 1024 h h' → size_test w' h' ≡ size_test w h
size-alike w h w' h' (inl d) (inl e) = rw (d, e) refl
size-alike w h w' h' (inl d) (inr q) = too-high w' h' q.1 ∙ sym (too-high w h q.0)
size-alike w h w' h' (inr q) x = too_wide w' h' q.1 ∙ sym (too_wide w h q.0)

abbrev kind_test : ℕ → ℕ → Bool
kind_test k e = if eqb k 1 then not (eqb e 0) else if eqb k 2 then outside 1 65025 e else true

no_kind : (k e : ℕ) → 2 < k → kind_test k e ≡ true
no_kind k e h = rw (ne_eqb k 1 (λ q. omega arith), ne_eqb k 2 (λ q. omega arith)) refl

too-smooth : (k e : ℕ) → 65025 < e → kind_test k e ≡ true
too-smooth k e h = rw (ne_eqb e 0 (λ q. omega arith), above 1 65025 e h) (go (eqb k 1) (eqb k 2))
  where
    go : (a b : Bool) → (if a then true else if b then true else true) ≡ true
    go true b = refl
    go false true = refl
    go false false = refl

kind-alike : (k e k' e' : ℕ) → Alike 2 k k' → Alike 65025 e e' → kind_test k' e' ≡ kind_test k e
kind-alike k e k' e' (inl c) (inl d) = rw (c, d) refl
kind-alike k e k' e' (inl c) (inr q) = too-smooth k' e' q.1 ∙ sym (too-smooth k e q.0)
kind-alike k e k' e' (inr q) x = no_kind k' e' q.1 ∙ sym (no_kind k e q.0)

radius-alike : (n m : ℕ) → Alike 15 n m → ltb 15 m ≡ ltb 15 n
radius-alike n m (inl e) = rw e refl
radius-alike n m (inr q) = lt-ltb 15 m q.1 ∙ sym (lt-ltb 15 n q.0)

-- ---- settings
module _ {k s : Settings} (width : Alike 1024 k.width s.width) (height : Alike 1024 k.height s.height)
    (levels : Alike 1024 k.levels s.levels) (guides : Alike 256 k.guides s.guides) (kind : Alike 2 k.kind s.kind)
    (radius : Alike 15 k.radius s.radius) (smoothing : Alike 65025 k.smoothing s.smoothing) where
  outcomes : settings_outcome s ≡ settings_outcome k
  unfolding settings_outcome bad_size bad_counts bad_kind bad_radius
  outcomes =
      rw (
        size-alike _ _ _ _ width height,
        outside-alike 2 1024 _ _ levels,
        outside-alike 2 256 _ _ guides,
        kind-alike _ _ _ _ kind smoothing,
        radius-alike _ _ radius,
      ) refl

  equal : settings_outcome k ≡ accepted → s ≡ k
  equal ok =
      let l = settings-limits k ok in
      let q = kinds l.kinds in
      let c1 = exact _ _ _ width l.width_high in
      let c2 = exact _ _ _ height l.height_high in
      let c3 = exact _ _ _ levels l.levels_high in
      let c4 = exact _ _ _ guides l.guides_high in
      let c5 = exact _ _ _ kind q.0 in
      let c6 = exact _ _ _ radius l.radius_high in
      let c7 = exact _ _ _ smoothing q.1 in
      let e : settings_from s.width s.height s.levels s.guides s.kind s.radius s.smoothing
      ≡ settings_from k.width k.height k.levels k.guides k.kind k.radius k.smoothing = cc in
      e
    where
      kinds : ((k.kind ≡ 1) × (k.smoothing ≡ 0)) ⊎ ((k.kind ≡ 2) × (1 ≤ k.smoothing) × (k.smoothing ≤ 65025))
          → (k.kind ≤ 2) × (k.smoothing ≤ 65025)
      kinds (inl x) = (omega arith, omega arith)
      kinds (inr x) = (omega arith, omega arith)

  pub narrowed : Narrowed k s
  narrowed = record { same = outcomes; whole = equal }
