-- What the program icemedian writes for the bytes that it read.
-- Assumes nothing.
use Rattle.std.specs.Prelude.{ℕ, zero, suc, ◌+◌, ◌-◌, ◌/◌, ◌%◌, Bool, ◌||◌, List, [], ◌∷◌, ◌++◌, ltb, eqb, length, if◌then◌else◌}
use Rattle.spec.specs.declared.Settings.{Settings}
use Rattle.spec.specs.declared.Way.TheVariants.{Joint, Coarse}
use Rattle.spec.specs.Refusal.{Outcome, accepted, refused, ◌▷◌, refuse}
use Rattle.spec.specs.Frame.{Frame, settings_of, frame_of}
use Rattle.spec.specs.Checks.{verdict}
use Rattle.spec.specs.Median.{answer}
use Rattle.spec.specs.Walk.{State}
use Rattle.spec.specs.Filter.{filter_end}

-- a number in decimal, of at most k + 1 digits; 20 are enough for 64 bits
unfoldable pub digits : ℕ → ℕ → List ℕ
digits zero n = (48 + n % 10) ∷ []
digits (suc k) n = (if ltb n 10 then [] else digits k (n / 10)) ++ ((48 + n % 10) ∷ [])

abbrev pub decimal : ℕ → List ℕ
decimal = digits 19

-- f 0 .. f n, a space between two
unfoldable pub spaced : ℕ → (ℕ → ℕ) → List ℕ
spaced zero f = decimal (f 0)
spaced (suc n) f = spaced n f ++ (32 ∷ decimal (f (suc n)))

abbrev pub line : List ℕ → List ℕ
line s = s ++ (10 ∷ [])

-- the levels of the first n rows, a line each
unfoldable pub rows : Frame → ℕ → List ℕ
rows p zero = []
rows p (suc t) = rows p t ++ line (spaced (p.set.width - 1) (λ s. answer p s t))

-- the words joint, columns, chain, coarse and refused, each with a space after it
abbrev pub joint_word : List ℕ
joint_word = 106 ∷ 111 ∷ 105 ∷ 110 ∷ 116 ∷ 32 ∷ []

abbrev pub columns_word : List ℕ
columns_word = 99 ∷ 111 ∷ 108 ∷ 117 ∷ 109 ∷ 110 ∷ 115 ∷ 32 ∷ []

abbrev pub chain_word : List ℕ
chain_word = 99 ∷ 104 ∷ 97 ∷ 105 ∷ 110 ∷ 32 ∷ []

abbrev pub coarse_word : List ℕ
coarse_word = 99 ∷ 111 ∷ 97 ∷ 114 ∷ 115 ∷ 101 ∷ 32 ∷ []

abbrev pub refused_word : List ℕ
refused_word = 114 ∷ 101 ∷ 102 ∷ 117 ∷ 115 ∷ 101 ∷ 100 ∷ 32 ∷ []

-- each serving way with its shifts, which are the same for ways 1 to 3; way 4 last
unfoldable pub ways : Frame → List ℕ
ways p =
    let n = decimal (filter_end Joint p).shifts in
    line (joint_word ++ n) ++ (if eqb p.set.kind 2 then line (columns_word ++ n) ++ line (chain_word ++ n) else [])
    ++ line (coarse_word ++ decimal (filter_end Coarse p).shifts)

-- check 12: too many bytes first, and after opening too large a picture
unfoldable pub too_large : Settings → Bool
too_large settings = ltb 64 settings.width || ltb 64 settings.levels || ltb 64 settings.guides

unfoldable pub program_outcome : List ℕ → Outcome
program_outcome b = refuse 12 (ltb 16384 (length b)) ▷ verdict b ▷ refuse 12 (too_large (settings_of b))

-- the values beside a refusal's number, a space before each
unfoldable pub beside : List ℕ → List ℕ
beside [] = []
beside (v ∷ vs) = (32 ∷ decimal v) ++ beside vs

unfoldable pub output_text : List ℕ → Outcome → List ℕ
output_text b accepted =
    let p = frame_of b in
    line (decimal p.set.width ++ (32 ∷ decimal p.set.height)) ++ rows p p.set.height ++ ways p
output_text b (refused n l) = line (refused_word ++ decimal n ++ beside l)

unfoldable pub printed : List ℕ → List ℕ
printed b = output_text b (program_outcome b)
