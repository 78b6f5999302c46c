-- The bench windows A to H of document 01, with the rows that they miss and the edges, as one table under one theorem about the definitions.
-- Assumes nothing.
use Prim.Native.Nat.{ℕ, ◌+◌}
use mathlib.Core.List.{List, [], ◌∷◌, ◌++◌, map}
use mathlib.Core.Path.{◌≡◌, refl}
use lib.Dec.{lit<, lit≤}
use lib.ListN.{length, replicate, take, drop}
use lib.IntN.{ℤ, pos, negsuc}
use Rattle.spec.specs.declared.Settings.{Settings}
use Rattle.spec.specs.declared.Room.{Room}
use Rattle.spec.specs.declared.Way.TheVariants.{Joint, Coarse}
use Rattle.spec.specs.declared.Cause.{Cause}
use Rattle.spec.specs.declared.Cause.TheVariants.{Ordinary, Hollow, NegativeAtZero, NegativeAtLast, Empty}
use Rattle.spec.specs.Base.{fold, fold_rect, first, tabulate_from, tabulate}
use Rattle.spec.specs.Bytes.{be16, be32, to16, to32, all16}
use Rattle.spec.specs.Refusal.{Outcome, accepted, refused}
use Rattle.spec.specs.Frame.{
  guide,
  trailer_at,
  settings_of,
  trailer_of,
  own_weights,
  value_part,
  guide_part,
  table_part,
  built_in,
  plan_of,
  pixel_level,
  pixel_guide,
  frame_of,
  with_values,
}
use Rattle.spec.specs.Checks.{
  bad_mark,
  bad_size,
  bad_counts,
  bad_kind,
  bad_radius,
  settings_outcome,
  bad_distance,
  scan,
  scan_file,
  value_scan,
  guide_scan,
  contents,
  trailer_outcome,
  verdict,
}
use Rattle.spec.specs.Window.{span, live, over, in_column, pixel_count, empty, guide_sum, square_sum, count, level_sum}
use Rattle.spec.specs.Weight.{scaled_variance, guided_weight, own_weight, own_total, is_zero, weightless, weight, monotone}
use Rattle.spec.specs.Median.{total_weight, cumulative, balance, median, answer, differences}
use Rattle.spec.specs.Walk.{State, adds, next_cut, arrive, move, follow, step, after, answers, walk_end, walk_answers}
use Rattle.spec.specs.Filter.{turn, serpentine, filtered, filter_end}
use Rattle.spec.specs.Joint.{joint_counts, occupancy_word, occupancy_words, balance_box_at}
use Rattle.spec.specs.Columns.{column_sum, column_store}
use Rattle.spec.specs.Chain.{Entry, entry_of, entries, Reads, ChainStore}
use Rattle.spec.specs.Coarse.{block_weight, summary}
use Rattle.spec.specs.Explain.{cumulative_below, cause_of}
use Rattle.spec.specs.Calls.{
  way_of,
  bad_way,
  room_of,
  counts_of,
  words_of,
  bad_pixel,
  lacks,
  short,
  walk_checks,
  walk_outcome,
  filter_checks,
  filter_outcome,
  balance_checks,
  balance_outcome,
  explain_checks,
  explain_outcome,
}
use Rattle.spec.specs.Tolerance.{bad_span, bad_upper, tolerance_checks, tolerance_outcome}
use Rattle.spec.specs.BytePlanes.{
  high_bytes,
  low_bytes,
  in_turn,
  split_plane,
  joined_plane,
  with_plane,
  split_file,
  joined_file,
  overlap,
  bad_overlap,
  split_outcome,
  join_outcome,
}
use Rattle.spec.specs.Schedule.{opening, unfinished, passed_over, grant, grants, periods, served, served_in}
use Rattle.spec.specs.Cameras.{
  files_in,
  total,
  counts_room,
  words_room,
  pixels_in,
  sizes_of,
  round_of,
  counts_part,
  words_part,
  answers_part,
  end_to_end,
  any_above,
  bad_batch,
  verdicts,
  short_of,
  cameras_outcome,
}
use Rattle.spec.specs.Writer.{field_bytes, distance_bytes, written, written_size, bad_length, scan_list, writer_outcome}
use Rattle.spec.specs.Program.{digits, spaced, rows, ways, too_large, program_outcome, beside, output_text, printed}

-- ---- what is asked of the definitions, and what they reply

pub data Question : Type 0 where
  accept : List ℕ → Question
  walk : List ℕ → ℕ → ℕ → List ℕ → Question
  filter : List ℕ → Question
  weigh : List ℕ → ℕ → Question
  sum_of : List ℕ → ℕ → Question
  balances : List ℕ → ℕ → List ℕ → Question
  constant : ℕ → Question
  output : List ℕ → Question
  judge : ℕ → ℕ → ℕ → ℕ → Question
  call : Outcome → Question
  writes : List ℕ → Question
  parts : List ℕ → Question
  worst : List ℕ → ℕ → List ℕ → Question
  stores : List ℕ → ℕ → ℕ → List ℕ → Question
  coarse : List ℕ → ℕ → ℕ → List ℕ → Question
  coarse_filter : List ℕ → Question
  explain : List ℕ → ℕ → ℕ → Question
  chain : List ℕ → ℕ → ℕ → Question
  tolerate : List ℕ → List ℕ → Question
  share : List (List ℕ) → List ℕ → Question
  share_counts : List (List ℕ) → List ℕ → ℕ → Question

pub data Reply : Type 0 where
  says : Outcome → Reply
  gives : List ℕ → ℕ → Reply
  weighs : List ℤ → Reply
  prints : List ℕ → Reply
  holds : List ℕ → List ℕ → List ℤ → List ℕ → List Entry → Reply
  sums : List ℕ → ℕ → List ℤ → Reply
  grounds : ℕ → ℤ → ℕ → ℤ → ℤ → Cause → Reply
  chained : List Entry → Reply
  between : List ℕ → ℕ → List ℕ → ℕ → Reply
  shares : List ℕ → ℕ → List ℕ → List ℕ → Reply

abbrev closed : State → List ℕ → Reply
closed x l = gives l x.shifts

-- width, height, levels, guides, kind, radius, smoothing
abbrev settings : ℕ → ℕ → ℕ → ℕ → ℕ → ℕ → ℕ → Settings
settings w h l m k r e = record { width = w; height = h; levels = l; guides = m; kind = k; radius = r; smoothing = e }

unfoldable pub reply : Question → Reply
unfolding fold fold_rect first tabulate_from tabulate be16 be32 to16 to32 all16 trailer_at settings_of trailer_of own_weights value_part guide_part table_part
    built_in plan_of pixel_level pixel_guide frame_of bad_mark bad_size bad_counts bad_kind bad_radius settings_outcome bad_distance scan scan_file value_scan
    guide_scan contents trailer_outcome verdict span live over in_column pixel_count empty guide_sum square_sum count level_sum scaled_variance guided_weight
    own_weight own_total is_zero weightless weight monotone total_weight cumulative balance median answer differences adds next_cut arrive move follow
    step after answers walk_end walk_answers turn serpentine filtered filter_end joint_counts occupancy_word occupancy_words balance_box_at column_sum
    column_store entry_of entries block_weight summary way_of bad_way room_of bad_pixel lacks short walk_checks walk_outcome filter_checks filter_outcome
    balance_checks balance_outcome explain_checks explain_outcome bad_span bad_upper tolerance_checks tolerance_outcome cumulative_below cause_of field_bytes
    distance_bytes written written_size bad_length scan_list writer_outcome digits spaced rows ways too_large program_outcome beside output_text printed
    high_bytes low_bytes in_turn split_plane joined_plane with_plane split_file joined_file overlap bad_overlap split_outcome join_outcome unfinished passed_over
    grant grants periods served served_in counts_of words_of files_in total sizes_of round_of counts_part words_part answers_part end_to_end any_above bad_batch
    verdicts short_of cameras_outcome
reply (accept b) = says (verdict b)
reply (walk b s t l) = let p = frame_of b in closed (walk_end Joint p s t l) (walk_answers p s t l)
reply (filter b) = let p = frame_of b in closed (filter_end Joint p) (filtered p)
reply (weigh b s) = let p = frame_of b in weighs (tabulate p.set.width (λ x. weight p s 0 (guide p x 0)))
reply (sum_of b s) = weighs (total_weight (frame_of b) s 0 ∷ [])
reply (balances b s l) = weighs (map (balance (frame_of b) s 0) l)
reply (constant d) = gives [] (built_in 0 d)
reply (output b) = prints (printed b)
reply (judge w h r e) = says (settings_outcome (settings w h 8 4 2 r e))
reply (call v) = says v
reply (writes b) = prints b
reply (parts b) = prints (value_part b ++ guide_part b ++ table_part b)
reply (worst b s l) = weighs (map (differences (frame_of b) s 0) l)
reply (stores b s t l) =
    let p = frame_of b in
    let x = walk_end Joint p s t l in
    let u = x.column in
    let v = x.row in
    holds (joint_counts p u v) (occupancy_words p u v) (take (p.set.guides + 1) (balance_box_at p u v x.cut)) (column_store p u v)
    (entries p u v p.set.levels)
reply (coarse b s t l) =
    let p = frame_of b in
    let x = walk_end Coarse p s t l in
    sums (walk_answers p s t l) x.shifts (summary p x.column x.row)
reply (coarse_filter b) =
    let p = frame_of b in
    let x = filter_end Coarse p in
    sums (filtered p) x.shifts (summary p x.column x.row)
reply (explain b s t) =
    let p = frame_of b in
    let m = answer p s t in
    grounds (pixel_count p s t) (total_weight p s t) m (cumulative_below p s t m) (cumulative p s t m) (cause_of p s t)
reply (chain b s t) = let p = frame_of b in chained (entries p s t p.set.levels)
reply (tolerate b u) =
    let p = frame_of b in
    let q = with_values p u in
    between (filtered p) (filter_end Joint p).shifts (filtered q) (filter_end Joint q).shifts
-- which files are served, how many grants are made, and what 12 answers and 26 words hold that were all 9
reply (share fs limits) =
    let x = round_of fs limits in
    shares (served_in (sizes_of fs) limits opening) x.granted (end_to_end pixels_in answers_part fs x.tallies (replicate 12 9))
    (end_to_end words_room words_part fs x.tallies (replicate 26 9))
-- and what so many counts hold
reply (share_counts fs limits n) =
    let x = round_of fs limits in
    gives (end_to_end counts_room counts_part fs x.tallies (replicate n 9)) x.granted

-- ---- the files

abbrev pub file_a : List ℕ
file_a =
    0 ∷ 5 ∷ 0 ∷ 1 ∷ 0 ∷ 3 ∷ 0 ∷ 0 ∷ 0 ∷ 0 ∷ 0 ∷ 2
    ∷ 0 ∷ 3 ∷ 0 ∷ 1 ∷ 0 ∷ 8 ∷ 0 ∷ 4 ∷ 2 ∷ 1 ∷ 0 ∷ 1
    ∷ 0 ∷ 0 ∷ 0 ∷ 12 ∷ 0 ∷ 0 ∷ 0 ∷ 6 ∷ 0 ∷ 0 ∷ 0 ∷ 0
    ∷ 0x49 ∷ 0x43 ∷ 0x45 ∷ 0x31 ∷ []

abbrev made : ℕ → ℕ → ℕ → ℕ → ℕ → ℕ → ℕ → List ℕ → List ℕ → List ℕ → List ℕ
made w h l m k r e = written (settings w h l m k r e)

abbrev file_b : List ℕ
file_b = made 5 1 8 16 2 2 1 (1 ∷ 2 ∷ 5 ∷ 3 ∷ 4 ∷ []) (7 ∷ 7 ∷ 15 ∷ 7 ∷ 0 ∷ []) []

abbrev file_c : List ℕ
file_c = made 2 1 8 2 1 1 0 (2 ∷ 6 ∷ []) (0 ∷ 0 ∷ []) (1 ∷ 1 ∷ 1 ∷ 1 ∷ [])

abbrev file_d : List ℕ
file_d = made 2 1 8 2 1 1 0 (2 ∷ 6 ∷ []) (0 ∷ 0 ∷ []) (0 ∷ 0 ∷ 0 ∷ 0 ∷ [])

abbrev file_e : List ℕ
file_e = made 3 1 8 4 2 0 1 (5 ∷ 1 ∷ 3 ∷ []) (0 ∷ 0 ∷ 2 ∷ []) []

abbrev file_g : List ℕ
file_g = made 1 1 8 2 1 1 0 (2 ∷ []) (0 ∷ []) (1 ∷ 1 ∷ 1 ∷ 1 ∷ [])

-- document 02, ask 1: weights above 256, the largest one too
abbrev file_heavy : List ℕ
file_heavy = made 3 1 8 2 1 1 0 (1 ∷ 5 ∷ 3 ∷ []) (0 ∷ 1 ∷ 0 ∷ []) (65535 ∷ 257 ∷ 1 ∷ 65535 ∷ [])

-- document 02, ask 2: 40 levels are three blocks, the last of 8 levels. The issue's frame; a table that is not symmetric; B with its levels apart, so
-- that the pixel of negative weight has a block of its own; a hollow window between two others
abbrev file_sheet : List ℕ
file_sheet = made 4 1 40 2 1 1 0 (2 ∷ 39 ∷ 17 ∷ 20 ∷ []) (0 ∷ 1 ∷ 0 ∷ 1 ∷ []) (1 ∷ 2 ∷ 0 ∷ 1 ∷ [])

abbrev file_blocks : List ℕ
file_blocks = made 4 1 40 2 1 1 0 (33 ∷ 2 ∷ 39 ∷ 17 ∷ []) (0 ∷ 1 ∷ 1 ∷ 0 ∷ []) (1 ∷ 2 ∷ 0 ∷ 3 ∷ [])

abbrev file_apart : List ℕ
file_apart = made 5 1 40 16 2 2 1 (17 ∷ 34 ∷ 37 ∷ 35 ∷ 3 ∷ []) (7 ∷ 7 ∷ 15 ∷ 7 ∷ 0 ∷ []) []

abbrev file_between : List ℕ
file_between = made 3 1 40 2 1 0 0 (20 ∷ 35 ∷ 31 ∷ []) (0 ∷ 1 ∷ 0 ∷ []) (1 ∷ 0 ∷ 0 ∷ 0 ∷ [])

-- document 02, ask 3: a hollow window between two that are not; a lamp alone in its guide class; hollow at the start and at the end of the row, with
-- the levels in three blocks; and none hollow, though no pixel weighs anything for a pixel of its own guide
abbrev file_zero_row : List ℕ
file_zero_row = made 3 1 8 2 1 1 0 (7 ∷ 2 ∷ 4 ∷ []) (0 ∷ 1 ∷ 0 ∷ []) (1 ∷ 1 ∷ 0 ∷ 0 ∷ [])

abbrev file_lamp : List ℕ
file_lamp = made 3 1 8 2 1 1 0 (2 ∷ 7 ∷ 4 ∷ []) (0 ∷ 1 ∷ 0 ∷ []) (1 ∷ 0 ∷ 0 ∷ 0 ∷ [])

abbrev file_ends : List ℕ
file_ends = made 4 1 40 2 1 1 0 (33 ∷ 2 ∷ 39 ∷ 17 ∷ []) (1 ∷ 0 ∷ 1 ∷ 1 ∷ []) (1 ∷ 2 ∷ 0 ∷ 0 ∷ [])

abbrev file_others : List ℕ
file_others = made 3 1 8 2 1 1 0 (1 ∷ 5 ∷ 7 ∷ []) (0 ∷ 1 ∷ 0 ∷ []) (0 ∷ 1 ∷ 1 ∷ 0 ∷ [])

-- document 02, ask 6: B with two dead pixels, one of them at the end; all but one dead, all weights 1; an empty window in the middle of kind 2 and of
-- kind 1, there with a row of zeros beside it; A with its middle dead
abbrev file_aged : List ℕ
file_aged = made 5 1 8 16 2 2 1 (1 ∷ 65535 ∷ 5 ∷ 3 ∷ 65535 ∷ []) (7 ∷ 7 ∷ 15 ∷ 7 ∷ 0 ∷ []) []

abbrev file_alone : List ℕ
file_alone = made 4 1 8 2 1 1 0 (65535 ∷ 65535 ∷ 65535 ∷ 5 ∷ []) (0 ∷ 0 ∷ 0 ∷ 0 ∷ []) (1 ∷ 1 ∷ 1 ∷ 1 ∷ [])

abbrev file_gap : List ℕ
file_gap = made 5 1 8 16 2 1 1 (1 ∷ 65535 ∷ 65535 ∷ 65535 ∷ 4 ∷ []) (7 ∷ 15 ∷ 3 ∷ 0 ∷ 9 ∷ []) []

abbrev file_gap_table : List ℕ
file_gap_table = made 5 1 8 2 1 1 0 (2 ∷ 65535 ∷ 65535 ∷ 65535 ∷ 6 ∷ []) (0 ∷ 1 ∷ 1 ∷ 0 ∷ 0 ∷ []) (1 ∷ 0 ∷ 0 ∷ 0 ∷ [])

abbrev file_dead_middle : List ℕ
file_dead_middle = made 3 1 8 4 2 1 1 (5 ∷ 65535 ∷ 3 ∷ []) (0 ∷ 0 ∷ 2 ∷ []) []

-- two rows; one window's formula is negative at guide 0, another's at M − 1
abbrev file_two_rows : List ℕ
file_two_rows = made 3 2 8 16 2 1 1 (6 ∷ 1 ∷ 3 ∷ 7 ∷ 1 ∷ 4 ∷ []) (7 ∷ 15 ∷ 3 ∷ 7 ∷ 0 ∷ 3 ∷ []) []

-- document 02, ask 7: the ask's frame; one with a window that has no reading; and two rows with a dead pixel and hollow windows
abbrev file_spans : List ℕ
file_spans = made 5 1 8 4 1 1 0 (5 ∷ 1 ∷ 3 ∷ 2 ∷ 7 ∷ []) (0 ∷ 0 ∷ 2 ∷ 1 ∷ 3 ∷ []) []

abbrev file_spans_gap : List ℕ
file_spans_gap = made 6 1 8 2 1 1 0 (2 ∷ 65535 ∷ 65535 ∷ 65535 ∷ 6 ∷ 1 ∷ []) (0 ∷ 1 ∷ 1 ∷ 0 ∷ 0 ∷ 1 ∷ []) []

abbrev file_spans_hollow : List ℕ
file_spans_hollow =
    made 3 2 8 3 1 1 0 (1 ∷ 5 ∷ 65535 ∷ 6 ∷ 3 ∷ 0 ∷ []) (0 ∷ 1 ∷ 2 ∷ 1 ∷ 0 ∷ 2 ∷ []) (3 ∷ 1 ∷ 0 ∷ 1 ∷ 3 ∷ 1 ∷ 0 ∷ 0 ∷ 0 ∷ [])

-- bytes and behind them a trailer with these settings and these distances to value plane, guide plane and table
abbrev placed : List ℕ → Settings → ℕ → ℕ → ℕ → List ℕ
placed b k v g a = b ++ field_bytes k ++ to32 v ++ to32 g ++ to32 a ++ to32 0x49434531

-- A's bytes before its trailer, with A's settings but for the distances
abbrev placed_a : ℕ → ℕ → ℕ → List ℕ
placed_a = placed (take 12 file_a) (settings 3 1 8 4 2 1 1)

-- 12 bytes of which a value plane of one pixel, a guide plane and a table of two by two may be any part, in kind 1
abbrev placed_table : ℕ → ℕ → ℕ → List ℕ
placed_table = placed (take 12 file_a) (settings 1 1 8 2 1 0 0)

-- document 02, ask 8: a value plane of 0102 0304 0203; and a table of two by two, a guide plane and a value plane of two pixels, 0203 0102, with a
-- byte before, between and behind them, of which the planes and the table may be any part
abbrev file_words : List ℕ
file_words = made 3 1 1024 4 2 1 1 (0x102 ∷ 0x304 ∷ 0x203 ∷ []) (0 ∷ 0 ∷ 2 ∷ []) []

abbrev placed_words : ℕ → ℕ → ℕ → List ℕ
placed_words =
    placed (9 ∷ 0 ∷ 1 ∷ 0 ∷ 2 ∷ 0 ∷ 3 ∷ 0 ∷ 4 ∷ 0 ∷ 1 ∷ 0 ∷ 0 ∷ 8 ∷ 2 ∷ 3 ∷ 1 ∷ 2 ∷ 7 ∷ []) (settings 2 1 1024 2 1 0 0)

-- document 02, ask 9: A, B and D end to end
abbrev hall : List (List ℕ)
hall = file_a ∷ file_b ∷ file_d ∷ []

abbrev joined : List (List ℕ) → List ℕ
joined [] = []
joined (f ∷ fs) = f ++ joined fs

-- the outcome for files and limits, and counts, words and answers of so many numbers
abbrev sharing : List (List ℕ) → List ℕ → ℕ → ℕ → ℕ → Outcome
sharing fs = cameras_outcome (joined fs) (map length fs)

-- counts, words, 32-bit numbers; counts, words, weight sums
abbrev room : ℕ → ℕ → ℕ → Room
room a b c = record { counts = a; words = b; numbers = c; summary = 0 }

abbrev room_with : ℕ → ℕ → ℕ → Room
room_with a b c = record { counts = a; words = b; numbers = 0; summary = c }

-- ---- the table

infix 68 ◌⇒◌
data Case : Type 0 where
  ◌⇒◌ : Question → Reply → Case

abbrev given : Case → Reply
given (a ⇒ r) = reply a

abbrev due : Case → Reply
due (a ⇒ r) = r

cases : List Case
cases =
    accept file_a ⇒ says accepted
    ∷ filter file_a ⇒ gives (1 ∷ 3 ∷ 3 ∷ []) 3
    ∷ weigh file_a 1 ⇒ weighs (pos 21 ∷ pos 21 ∷ pos 9 ∷ [])
    ∷ output file_a ⇒ prints
    (51 ∷ 32 ∷ 49 ∷ 10 ∷ 49 ∷ 32 ∷ 51 ∷ 32 ∷ 51 ∷ 10 ∷ 106 ∷ 111 ∷ 105 ∷ 110 ∷ 116 ∷ 32 ∷ 51 ∷ 10 ∷ 99 ∷ 111 ∷ 108 ∷ 117 ∷ 109 ∷ 110 ∷ 115 ∷ 32 ∷
    51 ∷ 10 ∷ 99 ∷ 104 ∷ 97 ∷ 105 ∷ 110 ∷ 32 ∷ 51 ∷ 10 ∷ 99 ∷ 111 ∷ 97 ∷ 114 ∷ 115 ∷ 101 ∷ 32 ∷ 55 ∷ 10 ∷ [])
    ∷ accept file_b ⇒ says accepted
    ∷ weigh file_b 2 ⇒ weighs (pos 550 ∷ pos 550 ∷ pos 2110 ∷ pos 550 ∷ negsuc 814 ∷ [])
    ∷ sum_of file_b 2 ⇒ weighs (pos 2945 ∷ [])
    ∷ walk file_b 2 0 [] ⇒ gives (3 ∷ []) 3
    ∷ balances file_b 2 (3 ∷ 4 ∷ 5 ∷ []) ⇒ weighs (pos 355 ∷ negsuc 1274 ∷ pos 2945 ∷ [])
    ∷ accept file_c ⇒ says accepted
    ∷ filter file_c ⇒ gives (2 ∷ 2 ∷ []) 2
    ∷ accept file_d ⇒ says accepted
    ∷ filter file_d ⇒ gives (2 ∷ 2 ∷ []) 2
    ∷ coarse_filter file_d ⇒ sums (2 ∷ 2 ∷ []) 4 (pos 2 ∷ [])
    ∷ balances file_d 0 (1 ∷ 2 ∷ 5 ∷ 6 ∷ []) ⇒ weighs (negsuc 1 ∷ pos 0 ∷ pos 0 ∷ pos 2 ∷ [])
    ∷ worst file_d 0 (2 ∷ 6 ∷ []) ⇒ weighs (pos 0 ∷ pos 0 ∷ [])
    ∷ accept file_e ⇒ says accepted
    ∷ filter file_e ⇒ gives (5 ∷ 1 ∷ 3 ∷ []) 11
    ∷ constant 0 ⇒ gives [] 256
    ∷ constant 1 ⇒ gives [] 240
    ∷ constant 16 ⇒ gives [] 128
    ∷ constant 255 ⇒ gives [] 15
    ∷ accept file_g ⇒ says accepted
    ∷ walk file_g 0 0 (0 ∷ 1 ∷ 2 ∷ 3 ∷ []) ⇒ gives (2 ∷ 65534 ∷ 65534 ∷ 65534 ∷ 65534 ∷ []) 2
    ∷ walk file_a 0 0 (0 ∷ 2 ∷ 0 ∷ 1 ∷ []) ⇒ gives (1 ∷ 3 ∷ 65534 ∷ 3 ∷ 3 ∷ []) 3
    ∷ judge 1024 256 15 65025 ⇒ says accepted
    ∷ judge 1024 257 15 65025 ⇒ says (refused 2 [])
    ∷ judge 1024 256 16 65025 ⇒ says (refused 5 [])
    ∷ judge 1024 256 15 65026 ⇒ says (refused 4 [])
    ∷ judge 1025 1 15 65025 ⇒ says (refused 2 [])
    ∷ judge 1 1025 15 65025 ⇒ says (refused 2 [])
    ∷ judge 0 1 15 65025 ⇒ says (refused 2 [])
    ∷ judge 1 1 0 0 ⇒ says (refused 4 [])
    ∷ accept (drop 13 file_a) ⇒ says (refused 1 [])
    ∷ accept (drop 12 file_a) ⇒ says (refused 6 [])
    ∷ accept (take 39 file_a ++ (0x32 ∷ [])) ⇒ says (refused 1 [])
    ∷ call (settings_outcome (settings 1 1 1024 256 2 0 1)) ⇒ says accepted
    ∷ call (settings_outcome (settings 1 1 1025 256 2 0 1)) ⇒ says (refused 3 [])
    ∷ call (settings_outcome (settings 1 1 1024 257 2 0 1)) ⇒ says (refused 3 [])
    ∷ call (settings_outcome (settings 1 1 2 2 1 0 0)) ⇒ says accepted
    ∷ call (settings_outcome (settings 1 1 1 2 1 0 0)) ⇒ says (refused 3 [])
    ∷ call (settings_outcome (settings 1 1 2 1 1 0 0)) ⇒ says (refused 3 [])
    ∷ call (settings_outcome (settings 1 1 2 2 1 0 1)) ⇒ says (refused 4 [])
    ∷ call (settings_outcome (settings 1 1 2 2 3 0 0)) ⇒ says (refused 4 [])
    ∷ accept (placed_a 5 6 0) ⇒ says (refused 6 [])
    ∷ accept (placed_a 13 6 0) ⇒ says (refused 6 [])
    ∷ accept (placed_a 12 5 0) ⇒ says (refused 6 [])
    ∷ accept (placed_a 12 13 0) ⇒ says (refused 6 [])
    ∷ accept (placed_a 12 6 12) ⇒ says (refused 6 [])
    ∷ accept (placed_a 8 6 0) ⇒ says accepted
    ∷ parts (placed_a 8 6 0) ⇒ prints (0 ∷ 3 ∷ 0 ∷ 0 ∷ 0 ∷ 0 ∷ 0 ∷ 0 ∷ 0 ∷ 0 ∷ 0 ∷ 2 ∷ [])
    ∷ accept (255 ∷ 255 ∷ file_a) ⇒ says accepted
    ∷ parts (255 ∷ 255 ∷ file_a) ⇒ prints (0 ∷ 5 ∷ 0 ∷ 1 ∷ 0 ∷ 3 ∷ 0 ∷ 0 ∷ 0 ∷ 0 ∷ 0 ∷ 2 ∷ [])
    ∷ accept (placed_table 2 4 8) ⇒ says accepted
    ∷ accept (placed_table 2 4 7) ⇒ says (refused 6 [])
    ∷ accept (placed_table 2 4 13) ⇒ says (refused 6 [])
    ∷ accept (made 3 1 8 4 2 1 1 (5 ∷ 1 ∷ 7 ∷ []) (0 ∷ 0 ∷ 3 ∷ []) []) ⇒ says accepted
    ∷ accept (made 3 1 8 4 2 1 1 (5 ∷ 1 ∷ 8 ∷ []) (0 ∷ 0 ∷ 4 ∷ []) []) ⇒ says (refused 7 (4 ∷ []))
    ∷ output (made 3 1 8 4 2 1 1 (5 ∷ 1 ∷ 3 ∷ []) (0 ∷ 0 ∷ 4 ∷ []) []) ⇒ prints
    (114 ∷ 101 ∷ 102 ∷ 117 ∷ 115 ∷ 101 ∷ 100 ∷ 32 ∷ 55 ∷ 32 ∷ 49 ∷ 48 ∷ 10 ∷ [])
    ∷ accept (made 1 1 8 2 1 1 0 (2 ∷ []) (0 ∷ []) (0 ∷ 257 ∷ 0 ∷ 0 ∷ [])) ⇒ says accepted
    ∷ accept (made 1 1 8 2 1 1 0 (2 ∷ []) (2 ∷ []) (0 ∷ 257 ∷ 0 ∷ 0 ∷ [])) ⇒ says (refused 7 (2 ∷ []))
    ∷ accept file_heavy ⇒ says accepted
    ∷ filter file_heavy ⇒ gives (1 ∷ 5 ∷ 3 ∷ []) 7
    ∷ balances file_heavy 1 (1 ∷ 3 ∷ 5 ∷ []) ⇒ weighs (negsuc 65534 ∷ negsuc 65532 ∷ pos 65537 ∷ [])
    ∷ balances file_heavy 0 (1 ∷ 5 ∷ []) ⇒ weighs (pos 65278 ∷ pos 65792 ∷ [])
    ∷ worst file_heavy 1 (1 ∷ 3 ∷ 5 ∷ []) ⇒ weighs (pos 262142 ∷ pos 131072 ∷ pos 6 ∷ [])
    ∷ filter (made 2 1 8 2 1 1 0 (2 ∷ 6 ∷ []) (0 ∷ 1 ∷ []) (1 ∷ 2 ∷ 0 ∷ 1 ∷ [])) ⇒ gives (6 ∷ 6 ∷ []) 6
    ∷ filter file_b ⇒ gives (2 ∷ 2 ∷ 3 ∷ 3 ∷ 4 ∷ []) 9
    ∷ filter file_two_rows ⇒ gives (6 ∷ 1 ∷ 3 ∷ 6 ∷ 4 ∷ 3 ∷ []) 15
    ∷ parts file_a ⇒ prints (0 ∷ 5 ∷ 0 ∷ 1 ∷ 0 ∷ 3 ∷ 0 ∷ 0 ∷ 0 ∷ 0 ∷ 0 ∷ 2 ∷ [])
    ∷ worst file_a 1 (1 ∷ 3 ∷ 5 ∷ []) ⇒ weighs (pos 102 ∷ pos 84 ∷ pos 102 ∷ [])
    ∷ call (walk_outcome file_a 1 2 0 4 (room 32 8 0) 5) ⇒ says accepted
    ∷ call (walk_outcome file_a 0 9 9 2000000 (room 0 0 0) 0) ⇒ says (refused 8 [])
    ∷ call (walk_outcome file_c 2 0 0 0 (room 0 0 0) 0) ⇒ says (refused 8 [])
    ∷ call (walk_outcome file_a 2 3 0 1048577 (room 0 0 64) 5) ⇒ says (refused 9 [])
    ∷ call (walk_outcome file_a 2 2 0 1048577 (room 0 0 64) 5) ⇒ says (refused 10 [])
    ∷ call (walk_outcome file_a 2 2 0 4 (room 0 0 63) 5) ⇒ says (refused 11 [])
    ∷ call (walk_outcome file_a 2 2 0 4 (room 0 0 64) 5) ⇒ says accepted
    ∷ call (walk_outcome file_a 3 2 0 4 (room 0 0 37) 4) ⇒ says (refused 11 [])
    ∷ call (walk_outcome file_a 3 2 0 4 (room 0 0 37) 5) ⇒ says accepted
    ∷ call (walk_outcome file_a 4 2 0 4 (room_with 32 8 1) 5) ⇒ says accepted
    ∷ call (walk_outcome file_a 5 2 0 4 (room_with 32 8 1) 5) ⇒ says (refused 8 [])
    ∷ call (walk_outcome file_sheet 3 2 0 4 (room 0 0 37) 5) ⇒ says (refused 8 [])
    ∷ call (walk_outcome file_sheet 4 2 0 4 (room_with 80 40 3) 5) ⇒ says accepted
    ∷ call (walk_outcome file_sheet 4 2 0 4 (room_with 80 40 2) 5) ⇒ says (refused 11 [])
    ∷ call (filter_outcome file_sheet 4 (room_with 80 40 2) 4) ⇒ says (refused 11 [])
    ∷ call (filter_outcome file_sheet 5 (room_with 80 40 3) 4) ⇒ says (refused 8 [])
    ∷ call (filter_outcome file_a 1 (room 32 7 0) 3) ⇒ says (refused 11 [])
    ∷ call (filter_outcome file_a 1 (room 32 8 0) 3) ⇒ says accepted
    ∷ call (balance_outcome file_a 2 0 8) ⇒ says (refused 9 [])
    ∷ call (balance_outcome file_a 2 0 7) ⇒ says accepted
    ∷ writes (made 3 1 8 4 2 1 1 (5 ∷ 1 ∷ 3 ∷ []) (0 ∷ 0 ∷ 2 ∷ []) []) ⇒ prints file_a
    ∷ writes (made 0x0102 0x0304 0x0506 0x0708 1 9 0x0A0B [] [] (0x1213 ∷ []))
    ⇒ prints
    (0x12 ∷ 0x13 ∷ 1 ∷ 2 ∷ 3 ∷ 4 ∷ 5 ∷ 6 ∷ 7 ∷ 8 ∷ 1 ∷ 9 ∷ 10 ∷ 11 ∷ 0 ∷ 12 ∷ 40 ∷ 34 ∷ 0 ∷ 6 ∷ 20 ∷ 18 ∷ 0 ∷ 0 ∷ 0 ∷ 2
    ∷ 0x49 ∷ 0x43 ∷ 0x45 ∷ 0x31 ∷ [])
    ∷ call (writer_outcome (settings 3 1 8 4 2 1 1) (5 ∷ 1 ∷ 3 ∷ []) (0 ∷ 0 ∷ 2 ∷ []) [] 40) ⇒ says accepted
    ∷ call (writer_outcome (settings 3 1 8 4 2 1 1) (5 ∷ 1 ∷ 3 ∷ []) (0 ∷ 0 ∷ 2 ∷ []) [] 39) ⇒ says (refused 11 [])
    ∷ call (writer_outcome (settings 3 1 8 4 2 1 1) (5 ∷ 1 ∷ 3 ∷ []) (0 ∷ 0 ∷ 4 ∷ []) [] 39) ⇒ says (refused 7 (10 ∷ []))
    ∷ call (writer_outcome (settings 3 1 8 2 2 1 1) (5 ∷ 1 ∷ 3 ∷ []) (0 ∷ 0 ∷ 0 ∷ []) (1 ∷ 1 ∷ 1 ∷ 1 ∷ []) 48) ⇒ says (refused 6 [])
    ∷ call (writer_outcome (settings 3 1 8 2 1 1 0) (5 ∷ 1 ∷ 3 ∷ []) (0 ∷ 0 ∷ 0 ∷ []) (257 ∷ 65535 ∷ 0 ∷ 1 ∷ []) 48) ⇒ says accepted
    ∷ call (writer_outcome (settings 3 1 8 2 1 1 0) (5 ∷ 1 ∷ 3 ∷ []) (0 ∷ 0 ∷ 2 ∷ []) (257 ∷ 65535 ∷ 0 ∷ 1 ∷ []) 48) ⇒ says (refused 7 (10 ∷ []))
    ∷ output (made 65 1 8 4 2 1 1 (replicate 65 1) (replicate 65 0) []) ⇒ prints (114 ∷ 101 ∷ 102 ∷ 117 ∷ 115 ∷ 101 ∷ 100 ∷ 32 ∷ 49 ∷ 50 ∷ 10 ∷ [])
    ∷ stores file_a 0 0 (0 ∷ 2 ∷ 0 ∷ 1 ∷ []) ⇒ holds
    (0 ∷ 0 ∷ 0 ∷ 0 ∷ 1 ∷ 0 ∷ 0 ∷ 0 ∷ 0 ∷ 0 ∷ 0 ∷ 0 ∷ 0 ∷ 0 ∷ 1 ∷ 0 ∷ 0 ∷ 0 ∷ 0 ∷ 0 ∷ 1 ∷ 0 ∷ 0 ∷ 0 ∷ 0 ∷ 0 ∷ 0 ∷ 0 ∷ 0 ∷ 0 ∷ 0 ∷ 0 ∷ [])
    (0 ∷ 1 ∷ 0 ∷ 4 ∷ 0 ∷ 1 ∷ 0 ∷ 0 ∷ [])
    (pos 0 ∷ pos 0 ∷ pos 1 ∷ pos 0 ∷ pos 0 ∷ [])
    (0 ∷ 0 ∷ 0 ∷ 0 ∷ 0 ∷ 1 ∷ 0 ∷ 0 ∷ 0 ∷ 1 ∷ 0 ∷ 0 ∷ 0 ∷ 0 ∷ 0 ∷ 0 ∷ 0 ∷ 0 ∷ 0 ∷ 1 ∷ 0 ∷ 0 ∷ 0 ∷ 0 ∷ 0 ∷ 0 ∷ 0 ∷ 0 ∷ 0 ∷ 0 ∷ 0 ∷ 0 ∷ 0 ∷ 0 ∷ 0 ∷ 0 ∷
    0 ∷ 0 ∷ 0 ∷ 0 ∷ 0 ∷ 0 ∷ 0 ∷ 2 ∷ 0 ∷ 0 ∷ 0 ∷ 0 ∷ 0 ∷ 1 ∷ 0 ∷ 1 ∷ 0 ∷ 1 ∷ 0 ∷ 0 ∷ 0 ∷ 0 ∷ 0 ∷ 2 ∷ 0 ∷ 0 ∷ 0 ∷ 0 ∷ [])
    (record { level = 1; count = 1; guides = 0 } ∷ record { level = 3; count = 1; guides = 2 } ∷ record { level = 5; count = 1; guides = 0 } ∷ [])
    ∷ filter file_sheet ⇒ gives (39 ∷ 39 ∷ 20 ∷ 20 ∷ []) 58
    ∷ coarse_filter file_sheet ⇒ sums (39 ∷ 39 ∷ 20 ∷ 20 ∷ []) 28 (pos 0 ∷ pos 1 ∷ pos 0 ∷ [])
    ∷ coarse_filter file_a ⇒ sums (1 ∷ 3 ∷ 3 ∷ []) 7 (pos 16 ∷ [])
    ∷ coarse_filter file_b ⇒ sums (2 ∷ 2 ∷ 3 ∷ 3 ∷ 4 ∷ []) 14 (pos 1041 ∷ [])
    ∷ coarse file_a 0 0 (0 ∷ 2 ∷ 0 ∷ 1 ∷ []) ⇒ sums (1 ∷ 3 ∷ 65534 ∷ 3 ∷ 3 ∷ []) 10 (pos 51 ∷ [])
    ∷ coarse file_blocks 0 0 (0 ∷ 0 ∷ 0 ∷ []) ⇒ sums (2 ∷ 2 ∷ 2 ∷ 39 ∷ []) 15 (pos 0 ∷ pos 1 ∷ pos 2 ∷ [])
    ∷ coarse file_blocks 3 0 (1 ∷ 9 ∷ 1 ∷ 2 ∷ []) ⇒ sums (39 ∷ 2 ∷ 65533 ∷ 2 ∷ 65534 ∷ []) 13 (pos 3 ∷ pos 0 ∷ pos 3 ∷ [])
    ∷ coarse file_apart 0 0 (0 ∷ 0 ∷ []) ⇒ sums (34 ∷ 34 ∷ 37 ∷ []) 45 (negsuc 814 ∷ pos 550 ∷ pos 3210 ∷ [])
    ∷ coarse file_between 0 0 (0 ∷ 0 ∷ []) ⇒ sums (20 ∷ 35 ∷ 31 ∷ []) 26 (pos 0 ∷ pos 1 ∷ pos 0 ∷ [])
    ∷ filter file_zero_row ⇒ gives (2 ∷ 4 ∷ 2 ∷ []) 6
    ∷ weigh file_zero_row 1 ⇒ weighs (pos 1 ∷ pos 1 ∷ pos 1 ∷ [])
    ∷ balances file_zero_row 1 (2 ∷ 3 ∷ 4 ∷ 7 ∷ []) ⇒ weighs (negsuc 0 ∷ negsuc 0 ∷ pos 1 ∷ pos 3 ∷ [])
    ∷ filter file_lamp ⇒ gives (2 ∷ 4 ∷ 4 ∷ []) 4
    ∷ weigh file_lamp 0 ⇒ weighs (pos 1 ∷ pos 0 ∷ pos 1 ∷ [])
    ∷ balances file_lamp 1 (2 ∷ 4 ∷ 7 ∷ []) ⇒ weighs (negsuc 0 ∷ pos 1 ∷ pos 3 ∷ [])
    ∷ walk file_ends 0 0 (0 ∷ 0 ∷ 0 ∷ 1 ∷ 1 ∷ []) ⇒ gives (2 ∷ 33 ∷ 17 ∷ 17 ∷ 17 ∷ 33 ∷ []) 65
    ∷ coarse file_ends 0 0 (0 ∷ 0 ∷ 0 ∷ 1 ∷ 1 ∷ []) ⇒ sums (2 ∷ 33 ∷ 17 ∷ 17 ∷ 17 ∷ 33 ∷ []) 14 (pos 1 ∷ pos 0 ∷ pos 4 ∷ [])
    ∷ coarse_filter file_ends ⇒ sums (2 ∷ 33 ∷ 17 ∷ 17 ∷ []) 9 (pos 0 ∷ pos 1 ∷ pos 1 ∷ [])
    ∷ filter file_others ⇒ gives (5 ∷ 1 ∷ 5 ∷ []) 13
    ∷ call (explain_outcome file_b 5 0) ⇒ says (refused 9 [])
    ∷ call (explain_outcome file_b 0 1) ⇒ says (refused 9 [])
    ∷ call (explain_outcome file_b 4 0) ⇒ says accepted
    ∷ call (explain_outcome (take 39 file_a ++ (0x32 ∷ [])) 9 9) ⇒ says (refused 1 [])
    ∷ explain file_a 1 0 ⇒ grounds 3 (pos 51) 3 (pos 21) (pos 30) Ordinary
    ∷ explain file_b 0 0 ⇒ grounds 3 (pos 411) 2 (pos 201) (pos 402) Ordinary
    ∷ explain file_b 1 0 ⇒ grounds 4 (pos 832) 2 (pos 272) (pos 544) Ordinary
    ∷ explain file_b 2 0 ⇒ grounds 5 (pos 2945) 3 (pos 1100) (pos 1650) NegativeAtZero
    ∷ explain file_b 3 0 ⇒ grounds 4 (pos 1868) 3 (pos 468) (pos 936) Ordinary
    ∷ explain file_b 4 0 ⇒ grounds 3 (pos 1041) 4 (pos 369) (pos 1200) NegativeAtLast
    ∷ explain file_c 1 0 ⇒ grounds 2 (pos 2) 2 (pos 0) (pos 1) Ordinary
    ∷ explain file_d 0 0 ⇒ grounds 2 (pos 2) 2 (pos 0) (pos 1) Hollow
    ∷ explain file_lamp 0 0 ⇒ grounds 2 (pos 1) 2 (pos 0) (pos 1) Ordinary
    ∷ explain file_lamp 1 0 ⇒ grounds 3 (pos 3) 4 (pos 1) (pos 2) Hollow
    ∷ explain file_heavy 1 0 ⇒ grounds 3 (pos 65537) 5 (pos 2) (pos 65537) Ordinary
    ∷ explain file_apart 2 0 ⇒ grounds 5 (pos 2945) 37 (pos 835) (pos 2945) NegativeAtZero
    ∷ explain (made 2 1 8 2 1 1 0 (0 ∷ 6 ∷ []) (0 ∷ 0 ∷ []) (1 ∷ 1 ∷ 1 ∷ 1 ∷ [])) 1 0 ⇒ grounds 2 (pos 2) 0 (pos 0) (pos 1) Ordinary
    ∷ filter file_aged ⇒ gives (1 ∷ 3 ∷ 5 ∷ 3 ∷ 3 ∷ []) 13
    ∷ coarse_filter file_aged ⇒ sums (1 ∷ 3 ∷ 5 ∷ 3 ∷ 3 ∷ []) 15 (pos 136 ∷ [])
    ∷ explain file_aged 0 0 ⇒ grounds 2 (pos 136) 1 (pos 0) (pos 132) Ordinary
    ∷ explain file_aged 1 0 ⇒ grounds 3 (pos 411) 3 (pos 201) (pos 402) Ordinary
    ∷ explain file_aged 2 0 ⇒ grounds 3 (pos 411) 5 (pos 18) (pos 411) NegativeAtZero
    ∷ explain file_aged 3 0 ⇒ grounds 2 (pos 136) 3 (pos 0) (pos 132) Ordinary
    ∷ explain file_aged 4 0 ⇒ grounds 2 (pos 136) 3 (pos 0) (pos 244) NegativeAtLast
    ∷ filter file_alone ⇒ gives (65535 ∷ 65535 ∷ 5 ∷ 5 ∷ []) 5
    ∷ coarse_filter file_alone ⇒ sums (65535 ∷ 65535 ∷ 5 ∷ 5 ∷ []) 10 (pos 1 ∷ [])
    ∷ explain file_alone 0 0 ⇒ grounds 0 (pos 0) 65535 (pos 0) (pos 0) Empty
    ∷ filter file_gap ⇒ gives (1 ∷ 1 ∷ 65535 ∷ 4 ∷ 4 ∷ []) 6
    ∷ walk file_gap 0 0 (0 ∷ 0 ∷ 0 ∷ 0 ∷ 1 ∷ 1 ∷ []) ⇒ gives (1 ∷ 1 ∷ 65535 ∷ 4 ∷ 4 ∷ 4 ∷ 65535 ∷ []) 10
    ∷ balances file_gap 2 (0 ∷ 3 ∷ 7 ∷ []) ⇒ weighs (pos 0 ∷ pos 0 ∷ pos 0 ∷ [])
    ∷ filter file_gap_table ⇒ gives (2 ∷ 2 ∷ 65535 ∷ 6 ∷ 6 ∷ []) 6
    ∷ balances file_gap_table 2 (0 ∷ 3 ∷ 7 ∷ []) ⇒ weighs (pos 0 ∷ pos 0 ∷ pos 0 ∷ [])
    ∷ coarse file_gap_table 0 0 (0 ∷ 0 ∷ []) ⇒ sums (2 ∷ 2 ∷ 65535 ∷ []) 4 (pos 0 ∷ [])
    ∷ stores file_dead_middle 0 0 (0 ∷ []) ⇒ holds
    (0 ∷ 0 ∷ 0 ∷ 0 ∷ 0 ∷ 0 ∷ 0 ∷ 0 ∷ 0 ∷ 0 ∷ 0 ∷ 0 ∷ 0 ∷ 0 ∷ 1 ∷ 0 ∷ 0 ∷ 0 ∷ 0 ∷ 0 ∷ 1 ∷ 0 ∷ 0 ∷ 0 ∷ 0 ∷ 0 ∷ 0 ∷ 0 ∷ 0 ∷ 0 ∷ 0 ∷ 0 ∷ [])
    (0 ∷ 0 ∷ 0 ∷ 4 ∷ 0 ∷ 1 ∷ 0 ∷ 0 ∷ [])
    (pos 1 ∷ pos 0 ∷ pos 1 ∷ pos 0 ∷ pos 0 ∷ [])
    (0 ∷ 0 ∷ 0 ∷ 0 ∷ 0 ∷ 1 ∷ 0 ∷ 0 ∷ 0 ∷ 0 ∷ 0 ∷ 0 ∷ 0 ∷ 0 ∷ 0 ∷ 0 ∷ 0 ∷ 0 ∷ 0 ∷ 1 ∷ 0 ∷ 0 ∷ 0 ∷ 0 ∷ 0 ∷ 0 ∷ 0 ∷ 0 ∷ 0 ∷ 0 ∷ 0 ∷ 0 ∷ 0 ∷ 0 ∷ 0 ∷ 0 ∷
    0 ∷ 0 ∷ 0 ∷ 0 ∷ 0 ∷ 0 ∷ 0 ∷ 2 ∷ 0 ∷ 0 ∷ 0 ∷ 0 ∷ 0 ∷ 0 ∷ 0 ∷ 1 ∷ 0 ∷ 1 ∷ 0 ∷ 0 ∷ 0 ∷ 0 ∷ 0 ∷ 2 ∷ 0 ∷ 0 ∷ 0 ∷ 0 ∷ [])
    (record { level = 3; count = 1; guides = 2 } ∷ record { level = 5; count = 1; guides = 0 } ∷ [])
    ∷ accept file_aged ⇒ says accepted
    ∷ accept (made 3 1 8 4 2 1 1 (5 ∷ 65534 ∷ 3 ∷ []) (0 ∷ 0 ∷ 2 ∷ []) []) ⇒ says (refused 7 (2 ∷ []))
    ∷ accept (made 3 1 8 4 2 1 1 (5 ∷ 65533 ∷ 3 ∷ []) (0 ∷ 0 ∷ 2 ∷ []) []) ⇒ says (refused 7 (2 ∷ []))
    ∷ accept (made 3 1 8 4 2 1 1 (5 ∷ 65535 ∷ 8 ∷ []) (0 ∷ 0 ∷ 2 ∷ []) []) ⇒ says (refused 7 (4 ∷ []))
    ∷ accept (made 3 1 8 4 2 1 1 (5 ∷ 65535 ∷ 3 ∷ []) (0 ∷ 65535 ∷ 2 ∷ []) []) ⇒ says (refused 7 (8 ∷ []))
    ∷ call (writer_outcome (settings 3 1 8 4 2 1 1) (65535 ∷ 1 ∷ 65535 ∷ []) (0 ∷ 0 ∷ 2 ∷ []) [] 40) ⇒ says accepted
    ∷ call (writer_outcome (settings 3 1 8 4 2 1 1) (65535 ∷ 65534 ∷ 3 ∷ []) (0 ∷ 0 ∷ 2 ∷ []) [] 40) ⇒ says (refused 7 (2 ∷ []))
    ∷ call (writer_outcome (settings 3 1 8 4 2 1 1) (65535 ∷ 1 ∷ 3 ∷ []) (0 ∷ 65535 ∷ 2 ∷ []) [] 40) ⇒ says (refused 7 (8 ∷ []))
    ∷ output file_alone ⇒ prints
    (52 ∷ 32 ∷ 49 ∷ 10 ∷ 54 ∷ 53 ∷ 53 ∷ 51 ∷ 53 ∷ 32 ∷ 54 ∷ 53 ∷ 53 ∷ 51 ∷ 53 ∷ 32 ∷ 53 ∷ 32 ∷ 53 ∷ 10
    ∷ 106 ∷ 111 ∷ 105 ∷ 110 ∷ 116 ∷ 32 ∷ 53 ∷ 10 ∷ 99 ∷ 111 ∷ 97 ∷ 114 ∷ 115 ∷ 101 ∷ 32 ∷ 49 ∷ 48 ∷ 10 ∷ [])
    ∷ chain file_aged 4 0 ⇒ chained (record { level = 3; count = 1; guides = 7 } ∷ record { level = 5; count = 1; guides = 15 } ∷ [])
    ∷ tolerate file_spans (6 ∷ 1 ∷ 5 ∷ 4 ∷ 7 ∷ []) ⇒ between (1 ∷ 3 ∷ 2 ∷ 3 ∷ 7 ∷ []) 9 (1 ∷ 5 ∷ 4 ∷ 5 ∷ 7 ∷ []) 9
    ∷ tolerate file_spans (5 ∷ 1 ∷ 3 ∷ 2 ∷ 7 ∷ []) ⇒ between (1 ∷ 3 ∷ 2 ∷ 3 ∷ 7 ∷ []) 9 (1 ∷ 3 ∷ 2 ∷ 3 ∷ 7 ∷ []) 9
    ∷ tolerate file_spans_gap (4 ∷ 65535 ∷ 65535 ∷ 65535 ∷ 6 ∷ 7 ∷ []) ⇒ between (2 ∷ 2 ∷ 65535 ∷ 6 ∷ 6 ∷ 1 ∷ []) 11 (4 ∷ 4 ∷ 65535 ∷ 6 ∷ 6 ∷ 7 ∷ []) 7
    ∷ tolerate file_spans_hollow (2 ∷ 5 ∷ 65535 ∷ 7 ∷ 3 ∷ 6 ∷ []) ⇒ between (3 ∷ 5 ∷ 3 ∷ 5 ∷ 3 ∷ 3 ∷ []) 9 (3 ∷ 5 ∷ 5 ∷ 5 ∷ 3 ∷ 5 ∷ []) 9
    ∷ tolerate file_zero_row (7 ∷ 5 ∷ 6 ∷ []) ⇒ between (2 ∷ 4 ∷ 2 ∷ []) 6 (5 ∷ 6 ∷ 5 ∷ []) 7
    ∷ call (tolerance_outcome file_spans (6 ∷ 1 ∷ 5 ∷ 4 ∷ 7 ∷ []) (room 32 8 0) 5 5) ⇒ says accepted
    ∷ call (tolerance_outcome file_spans (5 ∷ 1 ∷ 3 ∷ 2 ∷ 7 ∷ []) (room 32 8 0) 5 5) ⇒ says accepted
    ∷ call (tolerance_outcome file_spans_gap (4 ∷ 65535 ∷ 65535 ∷ 65535 ∷ 6 ∷ 7 ∷ []) (room 16 8 0) 6 6) ⇒ says accepted
    ∷ call (tolerance_outcome file_spans (6 ∷ 1 ∷ 5 ∷ 4 ∷ []) (room 32 8 0) 5 5) ⇒ says (refused 13 [])
    ∷ call (tolerance_outcome file_spans (6 ∷ 1 ∷ 5 ∷ 4 ∷ 7 ∷ 7 ∷ []) (room 32 8 0) 5 5) ⇒ says (refused 13 [])
    ∷ call (tolerance_outcome (made 1 1 8 2 1 1 0 (0 ∷ []) (0 ∷ []) []) [] (room 16 8 0) 1 1) ⇒ says (refused 13 [])
    ∷ call (tolerance_outcome file_spans (4 ∷ 1 ∷ 5 ∷ 4 ∷ 7 ∷ []) (room 32 8 0) 5 5) ⇒ says (refused 13 [])
    ∷ call (tolerance_outcome file_spans (6 ∷ 1 ∷ 5 ∷ 4 ∷ 6 ∷ []) (room 32 8 0) 5 5) ⇒ says (refused 13 [])
    ∷ call (tolerance_outcome file_spans (8 ∷ 1 ∷ 5 ∷ 4 ∷ 7 ∷ []) (room 32 8 0) 5 5) ⇒ says (refused 13 [])
    ∷ call (tolerance_outcome file_spans (6 ∷ 1 ∷ 65535 ∷ 4 ∷ 7 ∷ []) (room 32 8 0) 5 5) ⇒ says (refused 13 [])
    ∷ call (tolerance_outcome file_spans_gap (4 ∷ 65535 ∷ 7 ∷ 65535 ∷ 6 ∷ 7 ∷ []) (room 16 8 0) 6 6) ⇒ says (refused 13 [])
    ∷ call (tolerance_outcome file_a (5 ∷ 1 ∷ 3 ∷ []) (room 32 8 0) 3 3) ⇒ says (refused 8 [])
    ∷ call (tolerance_outcome file_a (5 ∷ 0 ∷ 3 ∷ 8 ∷ []) (room 0 0 0) 0 0) ⇒ says (refused 8 [])
    ∷ call (tolerance_outcome file_spans (6 ∷ 0 ∷ 5 ∷ 4 ∷ 7 ∷ []) (room 0 0 0) 0 0) ⇒ says (refused 13 [])
    ∷ call (tolerance_outcome file_spans (6 ∷ 1 ∷ 5 ∷ 4 ∷ 7 ∷ []) (room 31 8 0) 5 5) ⇒ says (refused 11 [])
    ∷ call (tolerance_outcome file_spans (6 ∷ 1 ∷ 5 ∷ 4 ∷ 7 ∷ []) (room 32 7 0) 5 5) ⇒ says (refused 11 [])
    ∷ call (tolerance_outcome file_spans (6 ∷ 1 ∷ 5 ∷ 4 ∷ 7 ∷ []) (room 32 8 0) 4 5) ⇒ says (refused 11 [])
    ∷ call (tolerance_outcome file_spans (6 ∷ 1 ∷ 5 ∷ 4 ∷ 7 ∷ []) (room 32 8 0) 5 4) ⇒ says (refused 11 [])
    ∷ call (tolerance_outcome (take 39 file_a ++ (0x32 ∷ [])) [] (room 0 0 0) 0 0) ⇒ says (refused 1 [])
    ∷ writes (split_file file_words) ⇒ prints ((1 ∷ 3 ∷ 2 ∷ 2 ∷ 4 ∷ 3 ∷ []) ++ drop 6 file_words)
    ∷ writes (joined_file (split_file file_words)) ⇒ prints ((1 ∷ 2 ∷ 3 ∷ 4 ∷ 2 ∷ 3 ∷ []) ++ drop 6 file_words)
    ∷ writes (joined_file file_words) ⇒ prints ((1 ∷ 4 ∷ 2 ∷ 2 ∷ 3 ∷ 3 ∷ []) ++ drop 6 file_words)
    ∷ writes (split_file (placed_words 5 10 18)) ⇒ prints (take 14 (placed_words 5 10 18) ++ (2 ∷ 1 ∷ 3 ∷ 2 ∷ []) ++ drop 18 (placed_words 5 10 18))
    ∷ writes (joined_file (split_file (placed_words 5 10 18))) ⇒ prints (placed_words 5 10 18)
    ∷ accept (split_file file_words) ⇒ says (refused 7 (4 ∷ []))
    ∷ call (split_outcome file_words 40) ⇒ says accepted
    ∷ call (join_outcome (split_file file_words) 40) ⇒ says accepted
    ∷ call (split_outcome (placed_words 5 10 18) 47) ⇒ says accepted
    ∷ call (split_outcome (placed_words 5 10 18) 46) ⇒ says (refused 11 [])
    ∷ call (split_outcome (placed_words 5 9 0) 46) ⇒ says (refused 7 (10 ∷ []))
    ∷ call (split_outcome (placed_words 5 8 0) 46) ⇒ says (refused 14 [])
    ∷ call (split_outcome (placed_words 3 3 0) 46) ⇒ says (refused 6 [])
    ∷ call (split_outcome (placed_words 5 5 0) 47) ⇒ says (refused 14 [])
    ∷ call (join_outcome (placed_words 5 9 0) 47) ⇒ says accepted
    ∷ call (join_outcome (placed_words 5 8 0) 46) ⇒ says (refused 14 [])
    ∷ call (join_outcome (placed_words 9 5 0) 47) ⇒ says accepted
    ∷ call (join_outcome (placed_words 9 6 0) 47) ⇒ says (refused 14 [])
    ∷ call (join_outcome (placed_words 5 10 13) 47) ⇒ says accepted
    ∷ call (join_outcome (placed_words 5 10 12) 47) ⇒ says (refused 14 [])
    ∷ call (join_outcome (placed_words 19 10 15) 47) ⇒ says accepted
    ∷ call (join_outcome (placed_words 19 10 16) 47) ⇒ says (refused 14 [])
    ∷ call (join_outcome (placed_words 3 3 0) 46) ⇒ says (refused 6 [])
    ∷ call (join_outcome (placed_words 5 10 18) 46) ⇒ says (refused 11 [])
    ∷ share hall (4 ∷ 0 ∷ 3 ∷ []) ⇒ shares (0 ∷ 1 ∷ 2 ∷ 0 ∷ 1 ∷ 2 ∷ 0 ∷ []) 7
    (1 ∷ 3 ∷ 3 ∷ 2 ∷ 2 ∷ 9 ∷ 9 ∷ 9 ∷ 2 ∷ 2 ∷ 9 ∷ 9 ∷ [])
    (0 ∷ 1 ∷ 0 ∷ 4 ∷ 0 ∷ 0 ∷ 0 ∷ 0 ∷ 0 ∷ 128 ∷ 128 ∷ 128 ∷ 0 ∷ 32768 ∷ 0 ∷ 0 ∷ 0 ∷ 0 ∷ 1 ∷ 0 ∷ 0 ∷ 0 ∷ 1 ∷ 0 ∷ 9 ∷ 9 ∷ [])
    ∷ share hall (4096 ∷ []) ⇒ shares (0 ∷ 1 ∷ 2 ∷ 0 ∷ 1 ∷ 2 ∷ 0 ∷ 1 ∷ 1 ∷ 1 ∷ []) 10
    (1 ∷ 3 ∷ 3 ∷ 2 ∷ 2 ∷ 3 ∷ 3 ∷ 4 ∷ 2 ∷ 2 ∷ 9 ∷ 9 ∷ [])
    (0 ∷ 1 ∷ 0 ∷ 4 ∷ 0 ∷ 0 ∷ 0 ∷ 0 ∷ 0 ∷ 0 ∷ 0 ∷ 128 ∷ 1 ∷ 32768 ∷ 0 ∷ 0 ∷ 0 ∷ 0 ∷ 1 ∷ 0 ∷ 0 ∷ 0 ∷ 1 ∷ 0 ∷ 9 ∷ 9 ∷ [])
    ∷ share hall (2 ∷ []) ⇒ shares (0 ∷ 1 ∷ []) 2
    (1 ∷ 9 ∷ 9 ∷ 2 ∷ 9 ∷ 9 ∷ 9 ∷ 9 ∷ 9 ∷ 9 ∷ 9 ∷ 9 ∷ [])
    (0 ∷ 1 ∷ 0 ∷ 0 ∷ 0 ∷ 1 ∷ 0 ∷ 0 ∷ 0 ∷ 128 ∷ 128 ∷ 0 ∷ 0 ∷ 32768 ∷ 0 ∷ 0 ∷ 9 ∷ 9 ∷ 9 ∷ 9 ∷ 9 ∷ 9 ∷ 9 ∷ 9 ∷ 9 ∷ 9 ∷ [])
    ∷ share hall (1 ∷ 1 ∷ []) ⇒ shares (0 ∷ 1 ∷ []) 2
    (1 ∷ 9 ∷ 9 ∷ 2 ∷ 9 ∷ 9 ∷ 9 ∷ 9 ∷ 9 ∷ 9 ∷ 9 ∷ 9 ∷ [])
    (0 ∷ 1 ∷ 0 ∷ 0 ∷ 0 ∷ 1 ∷ 0 ∷ 0 ∷ 0 ∷ 128 ∷ 128 ∷ 0 ∷ 0 ∷ 32768 ∷ 0 ∷ 0 ∷ 9 ∷ 9 ∷ 9 ∷ 9 ∷ 9 ∷ 9 ∷ 9 ∷ 9 ∷ 9 ∷ 9 ∷ [])
    ∷ share [] (3 ∷ 4096 ∷ []) ⇒ shares [] 0 (replicate 12 9) (replicate 26 9)
    ∷ share_counts (file_d ∷ file_a ∷ []) (1 ∷ []) 49 ⇒ gives ((0 ∷ 0 ∷ 0 ∷ 0 ∷ 1 ∷ 0 ∷ 0 ∷ 0 ∷ 0 ∷ 0 ∷ 0 ∷ 0 ∷ 1 ∷ 0 ∷ 0 ∷ 0 ∷ []) ++ replicate 33 9) 1
    ∷ call (sharing hall (4 ∷ 0 ∷ 4096 ∷ []) 176 24 10) ⇒ says accepted
    ∷ call (sharing hall (4 ∷ 4097 ∷ 0 ∷ []) 176 24 10) ⇒ says (refused 15 [])
    ∷ call (sharing hall (4 ∷ []) 175 24 10) ⇒ says (refused 11 [])
    ∷ call (sharing hall (4 ∷ []) 176 23 10) ⇒ says (refused 11 [])
    ∷ call (sharing hall (4 ∷ []) 176 24 9) ⇒ says (refused 11 [])
    ∷ call (sharing [] (3 ∷ []) 0 0 0) ⇒ says accepted
    ∷ call (sharing (replicate 8 file_g) [] 128 64 8) ⇒ says accepted
    ∷ call (sharing (replicate 9 file_g) [] 144 72 9) ⇒ says (refused 15 [])
    ∷ call (cameras_outcome (joined hall) (40 ∷ 48 ∷ 43 ∷ []) [] 0 0 0) ⇒ says (refused 15 [])
    ∷ call (cameras_outcome (joined hall) (40 ∷ 48 ∷ 45 ∷ []) [] 0 0 0) ⇒ says (refused 15 [])
    ∷ call (cameras_outcome (joined hall) (40 ∷ 47 ∷ 45 ∷ []) [] 0 0 0) ⇒ says (refused 1 [])
    ∷ call (cameras_outcome file_a [] [] 0 0 0) ⇒ says (refused 15 [])
    ∷ call (sharing (file_a ∷ split_file file_words ∷ file_words ∷ []) [] 0 0 0) ⇒ says (refused 7 (4 ∷ []))
    ∷ call (sharing (split_file file_words ∷ [] ∷ []) [] 0 0 0) ⇒ says (refused 7 (4 ∷ []))
    ∷ call (sharing (file_a ∷ [] ∷ split_file file_words ∷ []) [] 0 0 0) ⇒ says (refused 1 [])
    ∷ []

benches : map given cases ≡ map due cases
unfolding reply cases
benches = refl

-- a chain for that last window, in nodes 2, 1 and 4 of the nine; unused nodes hold anything
chain_a : List ℕ
chain_a = 2 ∷ 3 ∷ 1 ∷ 2 ∷ 4 ∷ 1 ∷ 1 ∷ 0 ∷ 1 ∷ 9 ∷ 9 ∷ 9 ∷ 9 ∷ 5 ∷ 1 ∷ 0 ∷ 0 ∷ []

chain-read : ChainStore (frame_of file_a) 1 0 chain_a
unfolding reply chain_a ChainStore Reads live
chain-read = (lit< tt, lit≤ tt, refl, refl, refl, (lit< tt, lit≤ tt, refl, refl, refl, (lit< tt, lit≤ tt, refl, refl, refl, refl)))
