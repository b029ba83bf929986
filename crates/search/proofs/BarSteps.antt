-- The steps of `build_bars`: the tree from the first bar to the last. `InBars` is the loop's invariant: it begins where the committed bars
-- end (`in_bars_none`), goes on by a bar that is built (`in_bars_more`), and ends with all of them committed (`in_bars_all`).
use Prim.Native.Nat.{ℕ, ◌+◌, ◌*◌, ◌≤◌, ◌<◌}
use mathlib.Core.Path.{◌≡◌, sym, ap, subst, ◌∙◌}
use mathlib.Core.List.{List, [], ◌∷◌}
use mathlib.Core.Logic.{inl, inr}
use native.Mathlib.Omega.{arith}
use lib.ListN.{length}
use Rattle.slices.specs.Over.{length-over_from}
use Rattle.sheet.specs.Sheet.{Sheet}
use Rattle.sheet.specs.Good.{GoodRules}
use Rattle.sheet.specs.Held.{units}
use Rattle.derivations.specs.Derivation.{Item}
use Rattle.derivations.specs.Minima.{only}
use Rattle.derivations.specs.First.{First}
use Rattle.derivations.specs.Interchange.{Interchangeable, first_interchanged, cell_below}
use Rattle.trees.specs.Instance.{instance_of}
use Rattle.trees.specs.LeastTotal.{NONE, cell_of}
use Rattle.trees.proofs.Laws.{lawful}
use Rattle.trees.specs.Room.{room}
use Rattle.trees.proofs.Found.{cells_least}
use Rattle.rows.specs.declared.slots.Bar.{Bar}
use Rattle.rows.specs.Vectors.{vec}
use Rattle.rows.specs.Memo.{row_at}
use Rattle.rows.specs.PackedLaws.{packed_cell}
use Rattle.rows.specs.Slots.{item_at, Sound}
use Rattle.building.specs.declared.Built.{Built}
use Rattle.building.specs.Clauses.{at, suffix_costs, BuiltAs, BuildPre, Partway}
use Rattle.building.specs.RebuildLaws.{partway_next}
use Rattle.search.specs.Clauses.{bar_item, bars_to, bars_from, bar_suffix_costs, bar_of, RootRow, OnPath, Suffix, BarsBuildPre}
use Rattle.search.specs.Clauses.{CommittedAs}
use Rattle.search.proofs.BarLaws.{bar_next, path_cut, path_own, path_next, interchangeable_bar}
use Rattle.search.proofs.BarLaws.{path_reached}
use Rattle.search.proofs.CommitLaws.{partway_committed, committed_built}
use Rattle.search.proofs.EnterSteps.{bar_item_lem, bar_stands}

-- b bars are built, and some least list passes the carry state behind them
pub record InBars (s : Sheet) (rows tree now : List ℕ) (e b carry next : ℕ) : Type 0 where
  pub partway : Partway s tree now (bars_to s e) (bars_from s e b) (only NONE 0) 0 0 carry next
  pub on_path : OnPath s e b carry
  pub sound : Sound s rows

module _ {s : Sheet} {plan us rows tree vectors roots : List ℕ} {start from e n : ℕ}
    (h : BarsBuildPre s plan us rows tree vectors roots start from e n) where
  abbrev good : GoodRules s.grammar
  good = h.committable.entry.prepared.good

  pub in_bars_none : InBars s rows tree tree e from 0 n
  in_bars_none = record {
    partway = partway_committed s good e h.committable.reached from h.committable.rising h.committable.cut
        h.committable.committed h.committable.end_in;
    on_path = path_cut s e good h.committable.reached from h.committable.rising h.committable.cut;
    sound = h.committable.entry.sound;
  }

  module _ {now rows' : List ℕ} {b carry next : ℕ} (p : InBars s rows' tree now e b carry next) (lo : from ≤ b) (hb : b < e) where
    abbrev g : Item
    g = bar_item s b

    pub bar_carry : carry < 4
    bar_carry = p.partway.few

    below : b < s.playing.bars
    below = omega (arith, h.committable.end_in)

    pub root_room : 16 * b + 4 * carry + 4 ≤ length roots
    root_room = omega (arith, h.committable.roots_are.size, below, bar_carry)

    pub vector_room : 4 * (b + 1) + 4 ≤ length vectors
    vector_room = omega (arith, h.vectors_are.size)

    on : Partway s tree now (bars_to s e) (g ∷ bars_from s e (b + 1)) (only NONE 0) 0 0 carry next
    on =
        subst (λ (gs : List Item). Partway s tree now (bars_to s e) gs (only NONE 0) 0 0 carry next) (bar_next s e b hb)
        p.partway

    -- the bar's row is its own, since no least list passes an idle carry state
    row_own : (y : List ℕ) → RootRow s b carry y → y ≡ vec (packed_cell s g carry)
    row_own y (inl z) = z
    row_own y (inr (idle, _)) = absurd (path_own s e good h.committable.reached b hb carry bar_carry p.on_path idle)

    module _ {y x : List ℕ} (ey : y ≡ row_at roots (16 * b + 4 * carry)) (ex : x ≡ row_at vectors (4 * (b + 1))) where
      suffix : Suffix s e (b + 1) x
      suffix = rw ex (h.vectors_are.each (b + 1) (omega arith) (omega arith))

      row_is : y ≡ vec (packed_cell s g carry)
      row_is =
          let same : 16 * b + 4 * carry ≡ 4 * (4 * b + carry) = omega arith in
          row_own y (subst (RootRow s b carry) (sym (ey ∙ ap (row_at roots) same)) (h.committable.roots_are.each b carry hb bar_carry))

      reached : suffix_costs s (g ∷ []) (at x) carry < NONE
      reached =
          omega (
            arith,
            path_reached s e good h.committable.reached b hb suffix carry bar_carry p.on_path,
            p.on_path,
            h.committable.reached,
          )

      pub bar_build : {bar : Bar} → bar ≡ bar_of s b
          → BuildPre s plan us rows' now bar start 0 (units (20160 * b)) bar.first carry y x next
      bar_build eb =
          let same = bar_item_lem s h.committable.entry.start_is b in
          record {
            entry = record {
              stands = bar_stands s h.committable.entry.start_is b h.committable.entry.prepared h.committable.entry.onsets
                  below eb;
              few = bar_carry;
              sound = p.sound;
            };
            row_is = row_is ∙ ap (λ (i : Item). vec (packed_cell s i carry)) (sym same);
            low = suffix.low;
            reached = subst (λ (i : Item). suffix_costs s (i ∷ []) (at x) carry < NONE) (sym same) reached;
            fits = subst (λ (i : Item). next + room s i ≤ length now) (sym same)
                (omega (arith, on.fits, ap length on.written, length-over_from 0 on.bytes tree));
          }

      abbrev a : ℕ
      a = s.grammar.multiplier

      alike : Interchangeable (instance_of s) a (g ∷ []) (bar_suffix_costs s e (b + 1)) (at x) carry (bar_suffix_costs s e b carry)
      alike = interchangeable_bar s e good h.committable.reached b hb suffix carry bar_carry p.on_path

      pub in_bars_more : {rows'' then : List ℕ} {built : Built}
          → BuiltAs s rows'' now then (item_at s start 0 (units (20160 * b)) ∷ []) (at x) carry next built
          → InBars s rows'' tree then e (b + 1) built.carry built.to
      in_bars_more {rows''} {then} {built} told = record {
        partway = partway_next s good rows'' tree now then (bars_to s e) g (bars_from s e (b + 1)) (only NONE 0) 0 0 carry next x
            (bar_suffix_costs s e b carry) built on alike made;
        on_path = rw made.carry_is
            (path_next s e good h.committable.reached b hb carry made.price.carry bar_carry p.on_path onward);
        sound = made.sound;
      }
        where
          made : BuiltAs s rows'' now then (g ∷ []) (at x) carry next built
          made =
              subst (λ (i : Item). BuiltAs s rows'' now then (i ∷ []) (at x) carry next built)
              (bar_item_lem s h.committable.entry.start_is b) told

          first : First (instance_of s) a (g ∷ []) (bar_suffix_costs s e (b + 1)) carry made.bytes made.price
          first = first_interchanged alike made.first

          onward : cell_of s g carry made.price.carry + bar_suffix_costs s e (b + 1) made.price.carry ≤ bar_suffix_costs s e b carry
          onward =
              let (xs, q, reads, z) = alike.reached in
              omega (
                arith,
                first.least xs q reads,
                z,
                cell_below (lawful s) a NONE (cell_of s) (cells_least s good) g carry made.bytes made.price bar_carry first.reads,
              )

  pub in_bars_all : {now rows' : List ℕ} {b carry next : ℕ} → InBars s rows' tree now e b carry next → b ≡ e
      → CommittedAs s rows' now e next
  in_bars_all {now} {rows'} {b} {carry} {next} p eb = record {
    committed = committed_built s good e h.committable.reached p.sound
        (subst (λ (i : ℕ). Partway s tree now (bars_to s e) (bars_from s e i) (only NONE 0) 0 0 carry next) eb p.partway)
        h.committable.committed.room;
    sound = p.sound;
  }
