-- The three demands, and document 02's requests 4, 7 and 8, over windows without their dead pixels (request 6), as statements about the promises of
-- the calls.
-- A reader starts here; proofs/Demands.antt proves each, proofs/BytePlanes.antt those of request 8. Cameras.antt beside this has request 9.
-- b are a file's bytes, upper a plane of upper levels, before and after the stores around a call, old and new its answers or output, r what it
-- gives back: its result, or, behind Ok, the value of an accepted call.
-- Assumes nothing.
use Rattle.std.specs.Prelude.{
  ℕ,
  suc,
  ◌+◌,
  ◌-◌,
  ◌*◌,
  ◌≤◌,
  ◌<◌,
  ◌≡◌,
  true,
  false,
  ◌⊎◌,
  ◌↔◌,
  List,
  ◌++◌,
  leb,
  length,
  get_or,
  take,
  drop,
  pos,
  ◌*ℤ◌,
  ◌≤ℤ◌,
  ◌<ℤ◌,
  if◌then◌else◌,
  ℤ,
  Result,
  Ok,
}
use Rattle.spec.specs.declared.Settings.{Settings}
use Rattle.spec.specs.declared.Plan.{Plan}
use Rattle.spec.specs.declared.Room.{Room}
use Rattle.spec.specs.declared.Way.{Way}
use Rattle.spec.specs.declared.Move.TheVariants.{To, Nowhere}
use Rattle.spec.specs.declared.Cause.{Cause}
use Rattle.spec.specs.declared.Cause.TheVariants.{Hollow, Empty}
use Rattle.spec.specs.declared.Grounds.{Grounds}
use Rattle.spec.specs.declared.Refusal.{Refusal}
use Rattle.spec.specs.Base.{sum}
use Rattle.spec.specs.Refusal.{accepted, refused, numbered}
use Rattle.spec.specs.Frame.{Frame, level, no_reading, pixels, settings_of, plan_of, frame_of, with_values}
use Rattle.spec.specs.Window.{InWindow, Σ, pixel_count}
use Rattle.spec.specs.Weight.{own_weight, own_total, weight}
use Rattle.spec.specs.Median.{total_weight, cumulative, balance, LevelOrNone, differences, NoneNegative, NotAllZero}
use Rattle.spec.specs.Walk.{answer_number, State, by_blocks, adds, move, start, walk_end, walk_answers, added_at}
use Rattle.spec.specs.Filter.{filtered, filter_end}
use Rattle.spec.specs.Explain.{Applies, Grounded}
use Rattle.spec.specs.Calls.{way_of, walk_outcome, filter_outcome, balance_outcome, explain_outcome}
use Rattle.spec.specs.Tolerance.{own_values, LeastAndGreatest, tolerance_outcome}
use Rattle.spec.specs.BytePlanes.{split_file, joined_file, bad_overlap, split_outcome, join_outcome}
use Rattle.spec.specs.Cameras.{cameras_outcome}
use Rattle.spec.specs.Writer.{written, written_size, writer_outcome}
use Rattle.ice_step.specs.declared.Walked.{Walked}
use Rattle.ice_step.specs.Finished.{Lent, room_in}
use Rattle.frame_write.specs.Write.{Writes, Returned}
use Rattle.ice.specs.Contract.{Untouched, Ended, Walks, Filters, Balances, Explains}
use Rattle.tolerance.specs.declared.Tolerated.{Tolerated}
use Rattle.tolerance.specs.Contract.{Buffers, outcome_of, AllKept, BothFiltered, Tolerates}
use Rattle.byte_planes.specs.Contract.{Splits, Joins}
use Rattle.demands.specs.Table.{
  walk_rows,
  filter_rows,
  balance_rows,
  explain_rows,
  writer_rows,
  ByTable,
  tolerance_rows,
  split_rows,
  join_rows,
  cameras_rows,
  InOrder,
}
use Rattle.demands.specs.Cameras.{SharedOrRefused}

-- ---- demand 1

-- a walk is refused by the outcome's number and values, with every buffer as it was, or it is walked to the end
abbrev pub WalkedOrRefused : Type 0
WalkedOrRefused =
    (b : List ℕ) (way s t : ℕ) (moves : List ℕ) (before after : Lent) (old new : List ℕ) (r : Result Walked Refusal)
    → Walks b way s t moves before after old new r
    → ((w : Walked) × (r ≡ Ok w)
    × Ended (way_of way) (frame_of b) (walk_end (way_of way) (frame_of b) s t moves) before after
    (walk_answers (frame_of b) s t moves ++ drop (length moves + 1) old) new w)
    ⊎ ((n : ℕ) × (l : List ℕ) × (numbered r ≡ refused n l)
    × (walk_outcome b way s t (length moves) (room_in before) (length old) ≡ refused n l)
    × Untouched before after old new)

abbrev pub FilteredOrRefused : Type 0
FilteredOrRefused =
    (b : List ℕ) (way : ℕ) (before after : Lent) (old new : List ℕ) (r : Result Walked Refusal) → Filters b way before after old new r
    → ((w : Walked) × (r ≡ Ok w) × Ended (way_of way) (frame_of b) (filter_end (way_of way) (frame_of b)) before after (filtered (frame_of b)
    ++ drop (pixels (frame_of b).set) old) new w)
    ⊎ ((n : ℕ) × (l : List ℕ) × (numbered r ≡ refused n l) × (filter_outcome b way (room_in before) (length old) ≡ refused n l)
    × Untouched before after old new)

-- a balance, which is lent nothing
abbrev pub BalancedOrRefused : Type 0
BalancedOrRefused =
    (b : List ℕ) (s t i : ℕ) (r : Result ℤ Refusal) → Balances b s t i r
    → ((r ≡ Ok (balance (frame_of b) s t i)) × (balance_outcome b s t i ≡ accepted))
    ⊎ ((n : ℕ) × (l : List ℕ) × (numbered r ≡ refused n l) × (balance_outcome b s t i ≡ refused n l))

-- an explanation, which is lent nothing
abbrev pub ExplainedOrRefused : Type 0
ExplainedOrRefused =
    (b : List ℕ) (s t : ℕ) (r : Result Grounds Refusal) → Explains b s t r
    → ((g : Grounds) × (r ≡ Ok g) × (explain_outcome b s t ≡ accepted) × Grounded (frame_of b) s t g)
    ⊎ ((n : ℕ) × (l : List ℕ) × (numbered r ≡ refused n l) × (explain_outcome b s t ≡ refused n l))

-- a tolerance: both planes, or every buffer as it was
abbrev pub ToleratedOrRefused : Type 0
ToleratedOrRefused =
    (b upper : List ℕ) (before after : Buffers) (r : Result Tolerated Refusal) → Tolerates b upper before after r
    → ((w : Tolerated) × (r ≡ Ok w) × (outcome_of b upper before ≡ accepted)
    × BothFiltered (frame_of b) (with_values (frame_of b) upper) before after w)
    ⊎ ((n : ℕ) × (l : List ℕ) × (numbered r ≡ refused n l) × (outcome_of b upper before ≡ refused n l) × AllKept before after)

-- a writing: the file and then the rest of the output, or the output as it was
abbrev pub WrittenOrRefused : Type 0
WrittenOrRefused =
    (settings : Settings) (v g a old : List ℕ) (r : Result ℕ Refusal) (new : List ℕ) → Writes settings v g a old r new
    → ((r ≡ Ok (written_size settings (length a))) × (new ≡ written settings v g a ++ drop (length (written settings v g a)) old))
    ⊎ ((n : ℕ) × (l : List ℕ) × (numbered r ≡ refused n l) × (writer_outcome settings v g a (length old) ≡ refused n l) × (new ≡ old))

-- a file split, or joined: its bytes rearranged and then the rest of the output, or the output as it was
abbrev pub SplitOrRefused : Type 0
SplitOrRefused =
    (b old : List ℕ) (r : Result (Unit {0}) Refusal) (new : List ℕ) → Splits b old r new
    → ((r ≡ Ok tt) × (split_outcome b (length old) ≡ accepted) × (new ≡ split_file b ++ drop (length b) old))
    ⊎ ((n : ℕ) × (l : List ℕ) × (numbered r ≡ refused n l) × (split_outcome b (length old) ≡ refused n l) × (new ≡ old))

abbrev pub JoinedOrRefused : Type 0
JoinedOrRefused =
    (b old : List ℕ) (r : Result (Unit {0}) Refusal) (new : List ℕ) → Joins b old r new
    → ((r ≡ Ok tt) × (join_outcome b (length old) ≡ accepted) × (new ≡ joined_file b ++ drop (length b) old))
    ⊎ ((n : ℕ) × (l : List ℕ) × (numbered r ≡ refused n l) × (join_outcome b (length old) ≡ refused n l) × (new ≡ old))

-- the table of refusals: each number exactly if its row fires and no row before it does
pub record EachNumber : Type 0 where
  pub walk : (b : List ℕ) (way s t n : ℕ) (have : Room) (out : ℕ)
      → ByTable (walk_rows b way s t n have out) (walk_outcome b way s t n have out)
  pub filter : (b : List ℕ) (way : ℕ) (have : Room) (out : ℕ) → ByTable (filter_rows b way have out) (filter_outcome b way have out)
  pub balance : (b : List ℕ) (s t i : ℕ) → ByTable (balance_rows b s t i) (balance_outcome b s t i)
  pub explain : (b : List ℕ) (s t : ℕ) → ByTable (explain_rows b s t) (explain_outcome b s t)
  pub tolerance : (b upper : List ℕ) (have : Room) (least greatest : ℕ)
      → InOrder (tolerance_rows b upper have least greatest) (tolerance_outcome b upper have least greatest)
  pub writer : (settings : Settings) (v g a : List ℕ) (room : ℕ)
      → ByTable (writer_rows settings v g a room) (writer_outcome settings v g a room)
  pub split : (b : List ℕ) (room : ℕ) → InOrder (split_rows b room) (split_outcome b room)
  pub join : (b : List ℕ) (room : ℕ) → InOrder (join_rows b room) (join_outcome b room)
  pub cameras : (b lengths limits : List ℕ) (counts words answers : ℕ)
      → InOrder (cameras_rows b lengths limits counts words answers) (cameras_outcome b lengths limits counts words answers)

pub record Demand1 : Type 0 where
  pub walk : WalkedOrRefused
  pub filter : FilteredOrRefused
  pub balance : BalancedOrRefused
  pub explain : ExplainedOrRefused
  pub tolerance : ToleratedOrRefused
  pub writer : WrittenOrRefused
  pub split : SplitOrRefused
  pub join : JoinedOrRefused
  pub cameras : SharedOrRefused
  pub table : EachNumber

-- ---- demand 2

-- how many of the window's pixels have a level of at most i
abbrev pub pixels_up_to : Frame → ℕ → ℕ → ℕ → ℕ
pixels_up_to p s t i = Σ p s t (λ x y. if leb (level p x y) i then 1 else 0)

-- m is the lowest level at which the window's weights reach half their sum: the frame's own weights, or, where these sum to 0 (document 01: hollow),
-- 1 for each pixel (document 02), so that half of its pixels are reached
pub record LowestLevel (p : Frame) (s t m : ℕ) : Type 0 where
  pub is_level : m < p.set.levels
  pub reaches : total_weight p s t ≤ℤ (pos 2 *ℤ cumulative p s t m)
  pub lowest : (i : ℕ) → i < m → (pos 2 *ℤ cumulative p s t i) <ℤ total_weight p s t
  pub own : (own_total p s t ≡ pos 0 → ⊥) → (g : ℕ) → weight p s t g ≡ own_weight p s t g
  pub hollow_reaches : own_total p s t ≡ pos 0 → pixel_count p s t ≤ 2 * pixels_up_to p s t m
  pub hollow_lowest : own_total p s t ≡ pos 0 → (i : ℕ) → i < m → 2 * pixels_up_to p s t i < pixel_count p s t

-- what the window at (s, t) answers: that level where it has a pixel, and a dead pixel is none of its pixels; else no reading (document 02)
pub record IsAnswer (p : Frame) (s t m : ℕ) : Type 0 where
  pub read : (x y : ℕ) → InWindow p s t x y → LowestLevel p s t m
  pub none : ((x y : ℕ) → InWindow p s t x y → ⊥) → m ≡ no_reading

-- the number at a pixel's place of a plane
abbrev pub at_pixel : Frame → List ℕ → ℕ → ℕ → ℕ
at_pixel p plane s t = get_or plane (t * p.set.width + s) 0

-- every pixel of a filtered frame
abbrev pub EveryPixel : Type 0
EveryPixel =
    (b : List ℕ) (way : ℕ) (before after : Lent) (old new : List ℕ) (r : Walked) → Filters b way before after old new (Ok r)
    → (s t : ℕ) → s < (frame_of b).set.width → t < (frame_of b).set.height → IsAnswer (frame_of b) s t (at_pixel (frame_of b) new s t)

-- the first n bytes of the output of a writer that answers n: accepted, and the settings, planes and table as given
abbrev pub ReadsBack : Type 0
ReadsBack = (settings : Settings) (v g a old : List ℕ) (n : ℕ) (new : List ℕ) → Writes settings v g a old (Ok n) new
    → Returned settings v g a (take n new)

pub record Demand2 : Type 0 where
  pub filter : EveryPixel
  pub writer : ReadsBack

-- ---- demand 3

-- where none of the window's own weights is negative and not all are 0, so that it has a pixel: no level has a smaller weighted sum of absolute
-- differences than m, and every lower one has a larger
pub record Minimises (p : Frame) (s t m : ℕ) : Type 0 where
  pub least : NoneNegative p s t → NotAllZero p s t → (i : ℕ) → differences p s t m ≤ℤ differences p s t i
  pub lower : NoneNegative p s t → NotAllZero p s t → (i : ℕ) → i < m → differences p s t m <ℤ differences p s t i

-- the answer to a byte, in the state before it: demand 2's at the pixel that it leads to, which minimises there; or the mark of a byte that moves
-- nothing. 65,534 exactly for a move that would leave the picture, 65,533 exactly for another byte, a level or no reading exactly for a move that is
-- made
pub record ByteAnswered (p : Frame) (x : State) (byte m : ℕ) : Type 0 where
  pub moved : (s t : ℕ) → move p.set x.column x.row byte ≡ To s t → IsAnswer p s t m × Minimises p s t m
  pub off : (m ≡ 65534) ↔ (move p.set x.column x.row byte ≡ Nowhere 65534)
  pub unknown : (m ≡ 65533) ↔ (3 < byte)
  pub made : LevelOrNone m ↔ ((s : ℕ) × (t : ℕ) × (move p.set x.column x.row byte ≡ To s t))

-- what two walks on the same file, start and list have, whatever their ways and stores: one answer for the start and one for each byte, the same
-- in both; and shift counts, each the sum of what the start window and each byte add by the rule of its way
pub record Agreed (way way' : Way) (p : Frame) (s t : ℕ) (moves new new' : List ℕ) (r r' : Walked) : Type 0 where
  pub answers : take (length moves + 1) new ≡ take (length moves + 1) new'
  pub first : IsAnswer p s t (get_or new 0 0) × Minimises p s t (get_or new 0 0)
  pub next : (j : ℕ) → j < length moves → ByteAnswered p (walk_end way p s t (take j moves)) (get_or moves j 0) (get_or new (j + 1) 0)
  -- ways 1 to 3 count by one rule, and two walks by way 4 by another
  pub shifts : by_blocks way ≡ by_blocks way' → r.shifts ≡ r'.shifts
  pub distances : r.shifts ≡ adds way p s t 0 + sum (added_at p (start way p s t) moves) 0 (length moves)
  pub distances' : r'.shifts ≡ adds way' p s t 0 + sum (added_at p (start way' p s t) moves) 0 (length moves)

abbrev pub AllWaysAgree : Type 0
AllWaysAgree =
    (b : List ℕ) (s t : ℕ) (moves : List ℕ) (way way' : ℕ) (before after before' after' : Lent)
    (old new old' new' : List ℕ) (r r' : Walked)
    → Walks b way s t moves before after old new (Ok r) → Walks b way' s t moves before' after' old' new' (Ok r')
    → Agreed (way_of way) (way_of way') (frame_of b) s t moves new new' r r'

-- ways 1 to 3, by their numbers, count by one rule: so any two of them agree on the shift count
abbrev pub OneRule : Type 0
OneRule = (n : ℕ) → 1 ≤ n → n ≤ 3 → by_blocks (way_of n) ≡ false

-- every pixel of a filtered frame
abbrev pub FilterMinimises : Type 0
FilterMinimises =
    (b : List ℕ) (way : ℕ) (before after : Lent) (old new : List ℕ) (r : Walked) → Filters b way before after old new (Ok r)
    → (s t : ℕ) → s < (frame_of b).set.width → t < (frame_of b).set.height → Minimises (frame_of b) s t (at_pixel (frame_of b) new s t)

pub record Demand3 : Type 0 where
  pub agree : AllWaysAgree
  pub rule : OneRule
  pub minimum : FilterMinimises

-- ---- document 02's request 4: why this level, or no reading

-- the grounds g of the answer at (s, t): it is demand 2's; where there is a reading the sums lie on either side of half, else all are 0; and the
-- cause is the one that applies
pub record Justified (p : Frame) (s t : ℕ) (g : Grounds) : Type 0 where
  pub answered : IsAnswer p s t (answer_number g.answer)
  pub below_half : (x y : ℕ) → InWindow p s t x y → (pos 2 *ℤ g.below) <ℤ g.total
  pub reaches-half : (x y : ℕ) → InWindow p s t x y → g.total ≤ℤ (pos 2 *ℤ g.reached)
  pub none_below : answer_number g.answer ≡ 0 → g.below ≡ pos 0
  pub empty_zeros : ((x y : ℕ) → InWindow p s t x y → ⊥)
      → (g.pixels ≡ 0) × (g.total ≡ pos 0) × (g.below ≡ pos 0) × (g.reached ≡ pos 0) × (g.cause ≡ Empty)
  pub applies : Applies p s t g.cause
  pub only : (c : Cause) → Applies p s t c → c ≡ g.cause
  -- the formula is not negative at both ends of the guides
  pub one_end : own_weight p s t 0 <ℤ pos 0 → own_weight p s t (p.set.guides - 1) <ℤ pos 0 → ⊥
  -- the sums of a hollow window are of weight 1 for each pixel
  pub hollow_total : g.cause ≡ Hollow → g.total ≡ pos g.pixels
  pub hollow_below : g.cause ≡ Hollow → (i : ℕ) → answer_number g.answer ≡ suc i → g.below ≡ pos (pixels_up_to p s t i)
  pub hollow_reached : g.cause ≡ Hollow → g.reached ≡ pos (pixels_up_to p s t (answer_number g.answer))

abbrev pub EveryExplanation : Type 0
EveryExplanation = (b : List ℕ) (s t : ℕ) (g : Grounds) → Explains b s t (Ok g) → Justified (frame_of b) s t g

-- its answer m is what the filter gives at that pixel, a walk that starts there, and a walk that a byte leads there
pub record AnsweredSo (b : List ℕ) (s t m : ℕ) : Type 0 where
  pub filtered : (way : ℕ) (before after : Lent) (old new : List ℕ) (r : Walked) → Filters b way before after old new (Ok r)
      → at_pixel (frame_of b) new s t ≡ m
  pub started : (way : ℕ) (moves : List ℕ) (before after : Lent) (old new : List ℕ) (r : Walked)
      → Walks b way s t moves before after old new (Ok r)
      → get_or new 0 0 ≡ m
  pub led : (way u v : ℕ) (moves : List ℕ) (before after : Lent) (old new : List ℕ) (r : Walked)
      → Walks b way u v moves before after old new (Ok r)
      → (j : ℕ) → j < length moves
      → move (frame_of b).set (walk_end (way_of way) (frame_of b) u v (take j moves)).column
      (walk_end (way_of way) (frame_of b) u v (take j moves)).row (get_or moves j 0) ≡ To s t
      → get_or new (j + 1) 0 ≡ m

abbrev pub ExplainsTheAnswer : Type 0
ExplainsTheAnswer = (b : List ℕ) (s t : ℕ) (g : Grounds) → Explains b s t (Ok g) → AnsweredSo b s t (answer_number g.answer)

pub record Request4 : Type 0 where
  pub grounds : EveryExplanation
  pub answer : ExplainsTheAnswer

-- ---- document 02's request 7: levels known within a tolerance

-- the first numbers of the two outputs, one for each pixel, are the least and the greatest answers over every choice of levels between the file's own
-- and the upper ones, both reached
abbrev pub LeastAndGreatestGiven : Type 0
LeastAndGreatestGiven =
    (b upper : List ℕ) (before after : Buffers) (r : Tolerated) → Tolerates b upper before after (Ok r)
    → LeastAndGreatest (frame_of b) (own_values (frame_of b)) upper
    (take (pixels (frame_of b).set) after.least) (take (pixels (frame_of b).set) after.greatest)

-- the least answers and their shift count are those of the filter by way 1, with the same answers by every way
abbrev pub LeastIsFiltered : Type 0
LeastIsFiltered =
    (b upper : List ℕ) (before after : Buffers) (r : Tolerated) → Tolerates b upper before after (Ok r)
    → (way : ℕ) (before' after' : Lent) (old new : List ℕ) (w : Walked) → Filters b way before' after' old new (Ok w)
    → (take (pixels (frame_of b).set) after.least ≡ take (pixels (frame_of b).set) new)
    × (by_blocks (way_of way) ≡ false → r.least_shifts ≡ w.shifts)

pub record Request7 : Type 0 where
  pub planes : LeastAndGreatestGiven
  pub least : LeastIsFiltered

-- ---- document 02's request 8: high bytes first, low bytes after

-- the output of a split, byte by byte. The value plane begins at byte v of the file and has two bytes for each of n pixels: the high byte of pixel q,
-- and its low byte; every other byte of the file, where it stands; and what lay in the output beyond the file's length
pub record BytesSplit (b old new : List ℕ) (v n : ℕ) : Type 0 where
  pub high : (q : ℕ) → q < n → get_or new (v + q) 0 ≡ get_or b (v + 2 * q) 0
  pub low : (q : ℕ) → q < n → get_or new (v + n + q) 0 ≡ get_or b (v + 2 * q + 1) 0
  pub before : (k : ℕ) → k < v → get_or new k 0 ≡ get_or b k 0
  pub behind : (k : ℕ) → v + 2 * n ≤ k → k < length b → get_or new k 0 ≡ get_or b k 0
  pub beyond : (k : ℕ) → length b ≤ k → get_or new k 0 ≡ get_or old k 0
  pub long : length new ≡ length old

abbrev pub EveryByte : Type 0
EveryByte =
    (b old new : List ℕ) → Splits b old (Ok tt) new
    → BytesSplit b old new (plan_of b).value (pixels (settings_of b))

-- of a file that was split, the first bytes of the output, as many as the file has, are joined without refusal into any output with room for them,
-- and that output's first bytes are the file
abbrev pub Restored : Type 0
Restored =
    (b old old' : List ℕ) (r' : Result (Unit {0}) Refusal) (new new' : List ℕ) → Splits b old (Ok tt) new → length b ≤ length old'
    → Joins (take (length b) new) old' r' new' → (r' ≡ Ok tt) × (take (length b) new' ≡ b)

-- check 14: some byte is in the value plane, and in the guide plane or in the table
abbrev pub In : ℕ → ℕ → ℕ → Type 0
In start n k = (start ≤ k) × (k < start + n)

abbrev pub SharedByte : Type 0
SharedByte =
    (plan : Plan)
    → (bad_overlap plan ≡ true)
    ↔ ((k : ℕ) × In plan.value (2 * (plan.width * plan.height)) k
    × (In plan.guide (2 * (plan.width * plan.height)) k ⊎ In plan.table (2 * plan.weights) k))

pub record Request8 : Type 0 where
  pub bytes : EveryByte
  pub restored : Restored
  pub overlap : SharedByte
