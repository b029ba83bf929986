-- The steps of `is_cut_point`, `commit` and `forward`: bars up to a bar line that nothing is carried over are built at once.
-- `Going` is the invariant of `forward`: it begins with no bar (`going_none`), goes on by a bar (`going_more`) and by bars that are
-- committed (`going_committed`), and tells the result (`going_none_found`, `going_found`).
use Prim.Native.Nat.{ℕ, ◌+◌, ◌≤◌, ◌<◌}
use mathlib.Core.Path.{◌≡◌, refl, sym, ap, subst, ◌∙◌}
use mathlib.Core.List.{List}
use native.Mathlib.Decide.{ℕ_discrete}
use native.Mathlib.Omega.{arith}
use lib.ListN.{length, get_or}
use Rattle.sheet.specs.Sheet.{Sheet}
use Rattle.derivations.specs.Minima.{only}
use Rattle.trees.specs.LeastTotal.{NONE, carries, least_total}
use Rattle.rows.specs.declared.slots.Bar.{Bar}
use Rattle.rows.specs.Vectors.{vec, Low}
use Rattle.rows.specs.VectorLaws.{low_eq}
use Rattle.rows.specs.Slots.{Sound}
use Rattle.rows.specs.IdleLaws.{Idle}
use Rattle.filling.specs.Filling.{FillEntry}
use Rattle.std.specs.Prelude.{Option, Some, None}
use Rattle.search.specs.Clauses.{bar_of, prefix_costs, CutPoint, CutVector, BackwardPre, VectorsFrom, BarsBuildPre, Committed}
use Rattle.search.specs.Clauses.{CommittedAs, CommitPre, ForwardPre, FoundIn}
use Rattle.search.proofs.BarLaws.{prefix_low, cut_first, total_last}
use Rattle.search.proofs.BegunLaws.{idle_begun}
use Rattle.search.proofs.CommitLaws.{committed_none}
use Rattle.search.proofs.EnterSteps.{few_bars, bar_stands, at_vec, idle_same}
use Rattle.search.proofs.PassSteps.{Forwarded, forward_none}

-- ---- `is_cut_point`

pub is_cut_point_told : {s : Sheet} {v : List ℕ} → get_or v 0 0 < NONE → Idle s 1 (λ i. get_or v i 0) 1 → Idle s 1 (λ i. get_or v i 0) 2
    → Idle s 1 (λ i. get_or v i 0) 3 → CutVector s v
is_cut_point_told {s} {v} low one two three = record { reached = low; idle = idle }
  where
    idle : (c : ℕ) → 0 < c → c < carries → Idle s 1 (λ i. get_or v i 0) c
    idle c lo hi = elim (ℕ_discrete c 1) [
      | yes e ↦ subst (Idle s 1 (λ i. get_or v i 0)) (sym e) one
      | no e ↦ elim (ℕ_discrete c 2) [
        | yes k ↦ subst (Idle s 1 (λ i. get_or v i 0)) (sym k) two
        | no k ↦ let last : c ≡ 3 = omega arith in subst (Idle s 1 (λ i. get_or v i 0)) (sym last) three
      ]
    ]

-- ---- `commit`

module _ {s : Sheet} {plan us rows tree roots vectors : List ℕ} {start from e n : ℕ}
    (h : CommitPre s plan us rows tree roots vectors start from e n) where
  pub commit_back : BackwardPre s roots vectors from e
  commit_back = record {
    good = h.committable.entry.prepared.good;
    rising = h.committable.rising;
    end_in = h.committable.end_in;
    few = few_bars h.committable.entry;
    roots_are = h.committable.roots_are;
    room = h.vectors_size;
    reached = h.committable.reached;
  }

  pub commit_build : {filled : List ℕ} → VectorsFrom s filled e from → BarsBuildPre s plan us rows tree filled roots start from e n
  commit_build are = record { committable = h.committable; vectors_are = are }

-- ---- `forward`

-- the rows of the bars before bar b are stored, v is the prefix costs there, and the bars before bar `done` are committed
pub record Going (s : Sheet) (rows tree roots : List ℕ) (b : ℕ) (v : List ℕ) (done next : ℕ) : Type 0 where
  pub forwarded : Forwarded s rows roots b v
  pub rising : done ≤ b
  pub cut : CutPoint s done
  pub committed : Committed s tree done next

-- the same after a join
pub going_same : {s : Sheet} {rows rows' tree tree' roots : List ℕ} {b : ℕ} {v : List ℕ} {done done' next next' : ℕ} → rows' ≡ rows
    → tree' ≡ tree → done' ≡ done → next' ≡ next → Going s rows tree roots b v done next → Going s rows' tree' roots b v done' next'
going_same er et ed en p = rw (er, et, ed, en) p

pub forwarded_low : {s : Sheet} {rows roots : List ℕ} {b : ℕ} {v : List ℕ} → Forwarded s rows roots b v → Low v
forwarded_low {s} {b = b} {v} p = low_eq v (prefix_costs s b) p.is (prefix_low s b)

module _ {s : Sheet} {plan us : List ℕ} {order : Option (List ℕ)} {rows tree roots vectors : List ℕ} {start count : ℕ}
    (h : ForwardPre s plan us order rows tree roots vectors start count) where
  pub going_none : {v : List ℕ} → v ≡ vec (only NONE 0) → Going s rows tree roots 0 v 0 0
  going_none ev = record {
    forwarded = forward_none h.entry h.roots_size ev;
    rising = omega arith;
    cut = cut_first s;
    committed = committed_none s tree h.room;
  }

  -- a bar more
  pub going_more : {now tree' roots' : List ℕ} {b : ℕ} {v : List ℕ} {done next : ℕ} {then roots'' w : List ℕ}
      → Going s now tree' roots' b v done next → Forwarded s then roots'' (b + 1) w → Going s then tree' roots'' (b + 1) w done next
  going_more p more =
      record { forwarded = more; rising = omega (arith, p.rising); cut = p.cut; committed = p.committed }

  module _ {now tree' roots' : List ℕ} {b : ℕ} {v : List ℕ} {done next : ℕ} (p : Going s now tree' roots' b v done next) where
    -- rows of a bar are filled ahead, and the table is as sound
    pub going_fill : {bar : Bar} → b < count → bar ≡ bar_of s b → FillEntry s plan us order now bar
    going_fill hb eb = record {
      in_bar_lem = (bar_stands s h.entry.start_is b h.entry.prepared h.entry.onsets (omega (arith, h.entry.count_is)) eb).in_bar_lem;
      ordered = h.ordered;
      sound = p.forwarded.sound;
    }

    pub going_filled : {then : List ℕ} → Sound s then → Going s then tree' roots' b v done next
    going_filled sound = record {
      forwarded = record { roots_are = p.forwarded.roots_are; is = p.forwarded.is; sound = sound };
      rising = p.rising;
      cut = p.cut;
      committed = p.committed;
    }

    total_is : get_or v 0 0 ≡ prefix_costs s b 0
    total_is = at_vec (prefix_costs s b) p.forwarded.is 0 (omega arith)

    -- the bars before bar b are committed too, where it is reached
    pub going_commit : {filled : List ℕ} → b ≤ count → length filled ≡ length vectors → get_or v 0 0 < NONE
        → CommitPre s plan us now tree' roots' filled start done b next
    going_commit hb size low = record {
      committable = record {
        entry = record {
          prepared = h.entry.prepared;
          onsets = h.entry.onsets;
          start_is = h.entry.start_is;
          count_is = refl;
          some_slot = h.entry.some_slot;
          sound = p.forwarded.sound;
        };
        rising = p.rising;
        end_in = omega (arith, h.entry.count_is);
        roots_are = p.forwarded.roots_are;
        reached = omega (arith, total_is);
        cut = p.cut;
        committed = p.committed;
      };
      vectors_size = omega (arith, h.vectors_size);
    }

    pub going_committed : {then tree'' : List ℕ} {k : ℕ} → CutVector s v → CommittedAs s then tree'' b k
        → Going s then tree'' roots' b v b k
    going_committed cut-vector told = record {
      forwarded = (going_filled told.sound).forwarded;
      rising = omega arith;
      cut = λ c lo hi. idle_begun s h.entry.prepared.good b c lo hi
          (idle_same s (λ i. get_or v i 0) (prefix_costs s b) c total_is (at_vec (prefix_costs s b) p.forwarded.is c hi)
          (cut-vector.idle c lo hi));
      committed = told.committed;
    }

    module _ (all : b ≡ count) where
      last : b ≡ s.playing.bars
      last = all ∙ h.entry.count_is

      least_is : get_or v 0 0 ≡ least_total s
      least_is = total_is ∙ ap (λ (n : ℕ). prefix_costs s n 0) last ∙ total_last s h.entry.prepared.good

      pub going_none_found : NONE ≤ get_or v 0 0 → FoundIn s tree' None
      going_none_found k = omega (arith, least_is)

      pub going_last : {filled : List ℕ} → length filled ≡ length vectors → get_or v 0 0 < NONE
          → CommitPre s plan us now tree' roots' filled start done count next
      going_last {filled} size low =
          subst (λ (n : ℕ). CommitPre s plan us now tree' roots' filled start done n next) all
          (going_commit {filled = filled} (omega (arith, all)) size low)

      pub going_found : {then tree'' : List ℕ} {k : ℕ} → get_or v 0 0 < NONE → CommittedAs s then tree'' count k
          → FoundIn s tree'' (Some (record { nodes = k; total = get_or v 0 0 }))
      going_found {then} {tree''} {k} low told =
          (subst (λ (n : ℕ). Committed s tree'' n k) h.entry.count_is told.committed, least_is, omega (arith, least_is))
