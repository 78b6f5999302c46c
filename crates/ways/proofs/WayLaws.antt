-- What a way's own call asks is a part of what is known, and what it leaves is what every visit leaves: the stores that the call was not lent stay
-- as they were.
-- Assumes nothing.
use Prim.Native.Nat.{ℕ, ◌*◌, ◌/◌, ◌%◌, ◌≤◌, ◌<◌}
use mathlib.Core.Path.{◌≡◌, refl, sym, ap, ap₂, subst, ◌∙◌}
use mathlib.Core.Logic.{◌⊎◌, inl, inr}
use mathlib.Core.List.{List, [], ◌∷◌, ◌++◌}
use native.Mathlib.Omega.{arith}
use lib.ListN.{length, take, drop, length-append, length-drop, take-append-drop}
use lib.IntN.{ℤ}
use lib.Seq.{take_at, drop_at}
use denote.Enum.Declared.{tag_of}
use types.Run.{OneOf}
use Rattle.spec.specs.contracts.Way.{the_type}
use Rattle.spec.specs.declared.Settings.{Settings}
use Rattle.spec.specs.declared.Plan.{Plan}
use Rattle.spec.specs.declared.Room.{Room}
use Rattle.spec.specs.declared.Way.{Way}
use Rattle.spec.specs.declared.Way.TheVariants.{Joint, Columns, Chain, Coarse}
use Rattle.spec.specs.Frame.{Frame, frame_of, frame_with, settings_in}
use Rattle.spec.specs.Checks.{Pictured, Planned}
use Rattle.spec.specs.Window.{count}
use Rattle.spec.specs.Joint.{joint_counts, words_per_level, occupancy_word, occupancy_words, balance_box_at}
use Rattle.spec.specs.Columns.{column_store}
use Rattle.spec.specs.Walk.{State, by_blocks, arrive}
use Rattle.spec.specs.Calls.{BothKinds, room_of, counts_of, words_of, NumbersOf, zeros}
use Rattle.spec.proofs.First.{length-tabulate}
use Rattle.spec.proofs.Plans.{facts}
use Rattle.joint.specs.Window.{Fresh, Held}
use Rattle.joint_visit.specs.Visit as joint
use Rattle.joint_visit.proofs.VisitLaws.{box-cut-joint}
use Rattle.columns.proofs.ContentLaws.{length-columns}
use Rattle.chain.specs.Moves.{Listed}
use Rattle.visit.specs.declared.Running.{Running}
use Rattle.visit.specs.declared.Visit.{Visit}
use Rattle.visit.specs.Visit.{Within}
use Rattle.columns_visit.specs.Visit.{ColumnsAt, ColumnsVisited}
use Rattle.chain_visit.specs.Visit.{ChainAt, ChainVisited}
use Rattle.ways.specs.Visit.{Stores, stores, KeptBeyond, StoresFit, own_box, WayCarries, Serves, AtWindow, Visited}

-- the plan's settings are the file's
pub settings-same : {b vs : List ℕ} {z : Plan} → Pictured b vs z → settings_in z ≡ (frame_of b).set
settings-same k =
    let f = facts k in
    λ i. record {
      width = f.width i;
      height = f.height i;
      levels = f.levels i;
      guides = f.guides i;
      kind = f.kind i;
      radius = f.radius i;
      smoothing = f.smoothing i;
    }

-- room for the plan's settings is room for the file's
pub room_of_lem : {b vs : List ℕ} {z : Plan} → Pictured b vs z → (way : Way) (f : Room → ℕ) (n : ℕ) → f (room_of way (settings_in z)) ≤ n →
    f (room_of way (frame_of b).set) ≤ n
room_of_lem k way f n h = subst (λ (q : Settings). f (room_of way q) ≤ n) (settings-same k) h

pub beyond-same : (n : ℕ) (a : List ℕ) → KeptBeyond n a a
beyond-same n a = record { long = refl; beyond = refl }

-- ---- a list whose first n numbers are known, and the rest as it was
module _ (n : ℕ) (front xs ys : List ℕ) (long : length front ≡ n) (e : ys ≡ front ++ drop n xs) where
  pub front_of : take n ys ≡ front
  front_of = ap (take n) e ∙ take_at front (drop n xs) n long

  pub beyond-of : n ≤ length xs → KeptBeyond n xs ys
  beyond-of room =
      record {
        long = ap length e ∙ omega (arith, length-append front (drop n xs), long, length-drop n xs);
        beyond = ap (drop n) e ∙ drop_at front (drop n xs) n long;
      }

pub joined : (n : ℕ) (front xs : List ℕ) → take n xs ≡ front → xs ≡ front ++ drop n xs
joined n front xs e = sym (take-append-drop n xs) ∙ ap (λ (l : List ℕ). l ++ drop n xs) e

-- ---- a way that does not serve both kinds serves kind 2
module _ (way : Way) (z : Plan) {vs : List ℕ} (s : Serves way z vs) where
  guided : (BothKinds way → ⊥) → z.kind ≡ 2
  guided n = by s.0
    where
      by : BothKinds way ⊎ (z.kind ≡ 2) → z.kind ≡ 2
      by (inl q) = absurd (n q)
      by (inr q) = q

  pub guided-columns : way ≡ Columns → z.kind ≡ 2
  guided-columns e = guided (λ q. subst BothKinds e q)

  pub guided-chain : way ≡ Chain → z.kind ≡ 2
  guided-chain e = guided (λ q. subst BothKinds e q)

  -- and no plane is given to it, nor to any way in kind 2
  pub plane-serves : joint.PlaneServes z vs
  plane-serves two = by s.1
    where
      by : (vs ≡ []) ⊎ ((way ≡ Joint) × (z.kind ≡ 1)) → vs ≡ []
      by (inl e) = e
      by (inr q) = absurd (omega (arith, two, q.1))

  pub none-columns : way ≡ Columns → vs ≡ []
  none-columns e = plane-serves (guided-columns e)

  pub none-chain : way ≡ Chain → vs ≡ []
  none-chain e = plane-serves (guided-chain e)

-- ---- ways 1 and 4 have the same stores, the box at a level of its own, and carry the same
record JointStores (way : Way) : Type 0 where
  counts-room : (k : Settings) → (room_of way k).counts ≡ k.levels * k.guides
  words-room : (k : Settings) → (room_of way k).words ≡ k.levels * words_per_level k
  counts : (p : Frame) (s t : ℕ) → counts_of way p s t ≡ joint_counts p s t
  words : (p : Frame) (s t : ℕ) → words_of way p s t ≡ occupancy_words p s t
  numbers : (p : Frame) (s t : ℕ) (m : List ℕ) → NumbersOf way p s t m
  box : (p : Frame) (s t c : ℕ) → own_box way p s t c ≡ balance_box_at p s t (joint.box_cut (by_blocks way) p.set.kind c)
  carried : (b vs : List ℕ) (s t c : ℕ) (m hs : List ℕ) (r : Running) → WayCarries way b vs s t c m hs r →
      joint.JointCarried (frame_with b vs) s t c r.sums r.below hs
  carries : (b vs : List ℕ) (s t c : ℕ) (m hs : List ℕ) (r : Running) → joint.JointCarried (frame_with b vs) s t c r.sums r.below hs →
      WayCarries way b vs s t c m hs r

joint-stores : (way : Way) → joint.JointWay way → JointStores way
unfolding room_of counts_of words_of NumbersOf own_box WayCarries
joint-stores way (inl e) =
    rw e
    (record {
      counts-room = λ k. refl;
      words-room = λ k. refl;
      counts = λ p s t. refl;
      words = λ p s t. refl;
      numbers = λ p s t m. tt;
      box = λ p s t c. ap (balance_box_at p s t) (sym (box-cut-joint p.set.kind c));
      carried = λ b vs s t c m hs r g. g;
      carries = λ b vs s t c m hs r g. g;
    })
joint-stores way (inr e) =
    rw e
    (record {
      counts-room = λ k. refl;
      words-room = λ k. refl;
      counts = λ p s t. refl;
      words = λ p s t. refl;
      numbers = λ p s t m. tt;
      box = λ p s t c. refl;
      carried = λ b vs s t c m hs r g. g;
      carries = λ b vs s t c m hs r g. g;
    })

-- the two ways' arm of a match: keys 0 and 3
pub joint-key : (way : Way) → OneOf (0 ∷ 3 ∷ []) (tag_of the_type way) → joint.JointWay way
joint-key Joint h = inl refl
joint-key Columns (inl e) = let z : ◌≡◌ {A = ℕ} 1 0 = e in absurd (omega arith)
joint-key Columns (inr e) = let z : ◌≡◌ {A = ℕ} 1 3 = e in absurd (omega arith)
joint-key Chain (inl e) = let z : ◌≡◌ {A = ℕ} 2 0 = e in absurd (omega arith)
joint-key Chain (inr e) = let z : ◌≡◌ {A = ℕ} 2 3 = e in absurd (omega arith)
joint-key Coarse h = inr refl

-- ---- what is asked, and what is left
-- ways 1 and 4
module _ (way : Way) {b vs : List ℕ} {z : Plan} (k : Pictured b vs z) (cs ws ns : List ℕ) (f : StoresFit way (settings_in z) (stores cs ws ns)) where
  counts-fit : (room_of way (frame_of b).set).counts ≤ length cs
  counts-fit = room_of_lem k way (λ q. q.counts) (length cs) f.counts

  words-fit : (room_of way (frame_of b).set).words ≤ length ws
  words-fit = room_of_lem k way (λ q. q.words) (length ws) f.words

  pub fit-joint : (s t : ℕ) → joint.JointWay way → (s < z.width) × (t < z.height) → Fresh b vs z s t cs ws
  fit-joint s t w q =
      let j = joint-stores way w in
      record {
        pictured = k;
        column = q.0;
        row = q.1;
        cells = subst (λ (n : ℕ). n ≤ length cs) (j.counts-room (frame_of b).set) counts-fit;
        words = subst (λ (n : ℕ). n ≤ length ws) (j.words-room (frame_of b).set) words-fit;
      }

  module _ (hs : List ℕ) (d : List ℤ) (v : Visit) where
    pub joint-at : joint.JointWay way → AtWindow way b vs (stores cs ws ns) hs d v → Within z v
        →
        Held b vs z v.column v.row (joint.box_cut (by_blocks way) z.kind v.cut.0) cs ws d
        × joint.JointCarried (frame_with b vs) v.column v.row v.cut.0 v.running.sums v.running.below hs
    joint-at w g q =
        let j = joint-stores way w in
        let p = frame_with b vs in
        let s = v.column in
        let t = v.row in (
          record {
            pictured = k;
            column = q.column;
            row = q.row;
            joint = record {
              counts =
                  joined (p.set.levels * p.set.guides) (joint_counts p s t) cs
                  (ap (λ (n : ℕ). take n cs) (sym (j.counts-room p.set)) ∙ g.holds.counts ∙ j.counts p s t);
              words =
                  joined (p.set.levels * words_per_level p.set) (occupancy_words p s t) ws
                  (ap (λ (n : ℕ). take n ws) (sym (j.words-room p.set)) ∙ g.holds.words ∙ j.words p s t);
              box =
                  g.balance-box ∙ j.box p s t v.cut.0 ∙ ap (λ (n : ℕ). balance_box_at p s t (joint.box_cut (by_blocks way) n v.cut.0))
                  (sym (facts k).kind);
            };
          },
          j.carried b vs s t v.cut.0 ns hs v.running g.carried,
        )

    pub joint-visited : (x : State) (cs' ws' : List ℕ) → joint.JointWay way → joint.JointVisited way (frame_with b vs) x v cs ws cs' ws' d hs
        → Visited way b vs x (stores cs ws ns) (stores cs' ws' ns) hs d v
    unfolding joint_counts occupancy_words
    joint-visited x cs' ws' w h =
        let j = joint-stores way w in
        let p = frame_with b vs in
        let s = v.column in
        let t = v.row in
        let cells : length (counts_of way p s t) ≡ (room_of way p.set).counts =
        ap length (j.counts p s t)
        ∙ length-tabulate (p.set.levels * p.set.guides) (λ q. count p s t (q / p.set.guides) (q % p.set.guides))
        ∙ sym (j.counts-room p.set) in
        let words : length (words_of way p s t) ≡ (room_of way p.set).words =
        ap length (j.words p s t)
        ∙ length-tabulate (p.set.levels * words_per_level p.set)
        (λ q. occupancy_word p s t (q / words_per_level p.set) (q % words_per_level p.set)) ∙ sym (j.words-room p.set) in
        let counts-are : cs' ≡ counts_of way p s t ++ drop (room_of way p.set).counts cs =
        h.joint.counts ∙ ap₂ (λ (l : List ℕ) (n : ℕ). l ++ drop n cs) (sym (j.counts p s t)) (sym (j.counts-room p.set)) in
        let words_are : ws' ≡ words_of way p s t ++ drop (room_of way p.set).words ws =
        h.joint.words ∙ ap₂ (λ (l : List ℕ) (n : ℕ). l ++ drop n ws) (sym (j.words p s t)) (sym (j.words-room p.set)) in
        record {
          state = h.state;
          here = record {
            holds = record {
              counts = front_of (room_of way p.set).counts (counts_of way p s t) cs cs' cells counts-are;
              words = front_of (room_of way p.set).words (words_of way p s t) ws ws' words words_are;
              numbers = j.numbers p s t ns;
            };
            balance-box = h.joint.box ∙ sym (j.box p s t v.cut.0);
            carried = j.carries b vs s t v.cut.0 ns hs v.running h.carried;
          };
          kept = record {
            counts = beyond-of (room_of way p.set).counts (counts_of way p s t) cs cs' cells counts-are counts-fit;
            words = beyond-of (room_of way p.set).words (words_of way p s t) ws ws' words words_are words-fit;
            numbers = beyond-same _ ns;
          };
        }

-- ways 2 and 3
module _ (way : Way) {b : List ℕ} {z : Plan} (k : Planned b z) (cs ws ns : List ℕ) (f : StoresFit way (settings_in z) (stores cs ws ns)) where
  pub fit-columns : way ≡ Columns → (room_of Columns (frame_of b).set).numbers ≤ length ns
  fit-columns e = let g : StoresFit Columns (settings_in z) (stores cs ws ns) =
      rw e at f in room_of_lem k Columns (λ q. q.numbers) (length ns) g.numbers

  pub fit-chain : way ≡ Chain → (room_of Chain (frame_of b).set).numbers ≤ length ns
  fit-chain e = let g : StoresFit Chain (settings_in z) (stores cs ws ns) = rw e at f in room_of_lem k Chain (λ q. q.numbers) (length ns) g.numbers

  module _ (hs : List ℕ) (d : List ℤ) (v : Visit) where
    pub columns-at : way ≡ Columns → AtWindow way b [] (stores cs ws ns) hs d v → ColumnsAt (frame_of b) v ns × (d ≡ zeros)
    unfolding NumbersOf own_box WayCarries
    columns-at e h =
        let g : AtWindow Columns b [] (stores cs ws ns) hs d v = rw e at h in (
          record {
            state = refl;
            sums = g.carried.0;
            below = g.carried.1;
            store = joined (room_of Columns (frame_of b).set).numbers (column_store (frame_of b) v.column v.row) ns g.holds.numbers;
          },
          g.balance-box,
        )

    pub columns-visited : (s t c n : ℕ) (ns' : List ℕ) → way ≡ Columns → ColumnsVisited (frame_of b) (arrive Columns (frame_of b) s t c n) ns v ns'
        → d ≡ zeros → Visited way b [] (arrive way (frame_of b) s t c n) (stores cs ws ns) (stores cs ws ns') hs d v
    unfolding room_of counts_of words_of NumbersOf own_box WayCarries
    columns-visited s t c n ns' e h q =
        let p = frame_of b in
        let front : length (column_store p v.column v.row) ≡ (room_of Columns p.set).numbers = length-columns p v.column v.row in
        rw e
        (record {
          state = h.state;
          here = record {
            holds = record {
              counts = refl;
              words = refl;
              numbers = front_of (room_of Columns p.set).numbers (column_store p v.column v.row) ns ns' front h.store;
            };
            balance-box = q;
            carried = (h.sums, h.below);
          };
          kept = record {
            counts = beyond-same 0 cs;
            words = beyond-same 0 ws;
            numbers = beyond-of (room_of Columns p.set).numbers (column_store p v.column v.row) ns ns' front h.store (fit-columns e);
          };
        })

    pub chain-at : way ≡ Chain → AtWindow way b [] (stores cs ws ns) hs d v → ChainAt b z v ns × (d ≡ zeros)
    unfolding own_box WayCarries
    chain-at e h =
        let g : AtWindow Chain b [] (stores cs ws ns) hs d v = rw e at h in (
          record {
            sums = g.carried.0;
            listed =
                subst (λ (q : Plan). Listed b q v.column v.row v.running.free ns) (sym k.plan) g.carried.1;
          },
          g.balance-box,
        )

    pub chain-visited : (s t c n : ℕ) (ns' : List ℕ) → way ≡ Chain → ChainVisited b z (arrive Chain (frame_of b) s t c n) ns v ns' → d ≡ zeros →
        Visited way b [] (arrive way (frame_of b) s t c n) (stores cs ws ns) (stores cs ws ns') hs d v
    unfolding room_of counts_of words_of NumbersOf own_box WayCarries
    chain-visited s t c n ns' e h q =
        rw e
        (record {
          state = h.state;
          here = record {
            holds = record { counts = refl; words = refl; numbers = h.stored.store };
            balance-box = q;
            carried = (h.sums, subst (λ (q : Plan). Listed b q v.column v.row v.running.free ns') k.plan h.stored.listed);
          };
          kept =
              record { counts = beyond-same 0 cs; words = beyond-same 0 ws; numbers = record { long = h.stored.long; beyond = h.stored.rest } };
        })

-- with no plane: what is asked and left is said of the file's own values
module _ (way : Way) (b : List ℕ) {vs : List ℕ} (none : vs ≡ []) {z : Stores} {hs : List ℕ} {d : List ℤ} {v : Visit} where
  pub at_own : AtWindow way b vs z hs d v → AtWindow way b [] z hs d v
  at_own = subst (λ (u : List ℕ). AtWindow way b u z hs d v) none

  pub visited-own : {a : Stores} (s t c n : ℕ) → Visited way b [] (arrive way (frame_of b) s t c n) a z hs d v
      → Visited way b vs (arrive way (frame_with b vs) s t c n) a z hs d v
  visited-own {a} s t c n = subst (λ (u : List ℕ). Visited way b u (arrive way (frame_with b u) s t c n) a z hs d v) (sym none)
