-- The writer: the bytes of a file, its outcome, and what it leaves in the output.
-- Assumes nothing.
use Rattle.std.specs.Prelude.{ℕ, ◌+◌, ◌*◌, Bool, true, false, not, ◌&&◌, ◌||◌, List, [], ◌∷◌, ◌++◌, ltb, eqb, length, get_or, drop}
use Rattle.spec.specs.declared.Settings.{Settings}
use Rattle.spec.specs.Bytes.{to16, to32, all16}
use Rattle.spec.specs.Refusal.{Outcome, accepted, refused, ◌▷◌, refuse}
use Rattle.spec.specs.Frame.{pixels, table_size}
use Rattle.spec.specs.Checks.{settings_outcome, scan, judged}

-- the trailer's first 12 bytes
unfoldable pub field_bytes : Settings → List ℕ
field_bytes settings =
    to16 settings.width ++ to16 settings.height ++ to16 settings.levels ++ to16 settings.guides ++
    (settings.kind ∷ settings.radius ∷ []) ++ to16 settings.smoothing

-- the last 16, with a table of n weights and planes of p pixels: the table ends where the trailer begins
unfoldable pub distance_bytes : ℕ → ℕ → List ℕ
distance_bytes n p = to32 (2 * n + 4 * p) ++ to32 (2 * n + 2 * p) ++ to32 (2 * n) ++ to32 0x49434531

-- value plane, guide plane, table, trailer
unfoldable pub written : Settings → List ℕ → List ℕ → List ℕ → List ℕ
written settings v g a = all16 v ++ all16 g ++ all16 a ++ field_bytes settings ++ distance_bytes (length a) (pixels settings)

unfoldable pub written_size : Settings → ℕ → ℕ
written_size settings n = 4 * pixels settings + 2 * n + 28

-- a plane of the wrong length, or a table that is neither empty nor, in kind 1, M·M
unfoldable pub bad_length : Settings → ℕ → ℕ → ℕ → Bool
bad_length settings v g a =
    not (eqb v (pixels settings)) || not (eqb g (pixels settings)) || (not (eqb a 0) && not (eqb settings.kind 1 && eqb a (table_size settings)))

-- check 7 of numbers, values or not, that would begin at an offset
unfoldable pub scan_list : List ℕ → Bool → ℕ → ℕ → Outcome
scan_list l values limit offset = scan (λ j. judged values (get_or l j 0)) (length l) limit offset

-- into an output of room bytes; the table's weights may be any numbers
unfoldable pub writer_outcome : Settings → List ℕ → List ℕ → List ℕ → ℕ → Outcome
writer_outcome settings v g a room =
    settings_outcome settings ▷ refuse 6 (bad_length settings (length v) (length g) (length a))
    ▷ scan_list v true settings.levels 0 ▷ scan_list g false settings.guides (2 * pixels settings)
    ▷ refuse 11 (ltb room (written_size settings (length a)))

-- the output afterwards: the file and then the rest as it was; or all as it was
abbrev pub stored : Outcome → List ℕ → List ℕ → List ℕ
stored accepted new old = new ++ drop (length new) old
stored (refused n l) new old = old
