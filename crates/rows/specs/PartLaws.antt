-- The parts of a division from one of them on, one after another: each stands again, and the vector over one part more is taken over that
-- part.
use Rattle.std.specs.Prelude.{ℕ, ◌+◌, ◌-◌, ◌*◌, ◌/◌, ◌%◌, ◌≤◌, ◌<◌, ◌≡◌, List, [], ◌∷◌, ◌++◌, length, take, drop, get_or}
use Rattle.std.proofs.Common.{sym, ap, subst, ◌∙◌, add-mul, add-one, arith, length-take, length-drop, take-suc, take_all, get_or-drop}
use Rattle.std.proofs.Math.Option.{some}
use Rattle.std.proofs.Math.Nat.{mul-mod_right, mul-div_cancel_left}
use Rattle.slices.specs.Every.{every_in}
use Rattle.slices.specs.Lookup.{some_below}
use Rattle.sheet.specs.declared.clock.Units.{Units}
use Rattle.sheet.specs.Sheet.{division, Sheet, bar_units}
use Rattle.sheet.specs.Good.{GoodDivision}
use Rattle.sheet.specs.Held.{units}
use Rattle.derivations.specs.Derivation.{Item}
use Rattle.derivations.specs.Minima.{lowest, lowest_cap, only, only_cap}
use Rattle.derivations.specs.Folds.{Cells, forward, onward, forward_snoc}
use Rattle.trees.specs.ValidTrees.{adjoining, rule_at}
use Rattle.trees.specs.LeastTotal.{NONE, carries, cell_of}
use Rattle.trees.proofs.Laws.{adjoining-append}
use Rattle.trees.proofs.RoomLaws.{good_division}
use Rattle.trees.specs.Intervals.{Aligned}
use Rattle.trees.proofs.IntervalLaws.{aligned_part}
use Rattle.expansions.specs.Tables.{UnitsHeld, last_unit}
use Rattle.expansions.specs.Items.{first_at}
use Rattle.plan.specs.Plan.{length_at, child_cell, length_cell}
use Rattle.plan.specs.PlanLaws.{lengths_most, child_at}
use Rattle.rows.specs.declared.slots.Bar.{Bar}
use Rattle.rows.specs.Vectors.{vec, Low}
use Rattle.rows.specs.VectorLaws.{vec_same, vec_at, low_eq, lowest_same}
use Rattle.rows.specs.Slots.{item_at, Stands, Sound}
use Rattle.rows.specs.Rows.{Taken, PartEntry, PartsEntry, parts_at, Parted}

-- no total over a row passes the cap, if none before it does
pub forward_low : (cell : Cells) (gs : List Item) (f : ℕ → ℕ) → ((x : ℕ) → f x ≤ NONE) → (x : ℕ) → forward carries NONE cell gs f x ≤ NONE
unfolding forward
forward_low cell [] f h x = h x
forward_low cell (g ∷ gs) f h x =
    forward_low cell gs (onward carries NONE f (cell g)) (λ y. lowest_cap NONE (λ m. f m + cell g m y) carries) x

same_kids : {h w h' w' : ℕ} {ks ks' : List ℕ} → some (division h w ks) ≡ some (division h' w' ks') → ks ≡ ks'
same_kids e = cc

-- the first n parts are taken: v is the vector over them, and `at` the place of the first onset behind them
pub record PartsDone (s : Sheet) (rows kids : List ℕ) (l : ℕ) (left : Units) (c n lo at : ℕ) (v : List ℕ) : Type 0 where
  pub first : at ≡ first_at s lo
  pub is : v ≡ vec (forward carries NONE (cell_of s) (parts_at s l left (take n kids)) (only NONE c))
  pub sound : Sound s rows

pub parts_low : {s : Sheet} {rows kids : List ℕ} {l : ℕ} {left : Units} {c n lo at : ℕ} {v : List ℕ}
    → PartsDone s rows kids l left c n lo at v → Low v
parts_low {s} {kids = kids} {l} {left} {c} {n} {v = v} d = low_eq v _ d.is (forward_low (cell_of s) _ (only NONE c) (only_cap NONE c))

module _ {s : Sheet} {plan us rows : List ℕ} {bar : Bar} {r i k l : ℕ} {left : Units} {from c : ℕ}
    (e : PartsEntry s plan us rows bar r i k l left from c) where
  abbrev all : List ℕ
  all = e.divides.parts

  -- the parts from part i on
  abbrev pub kids_of : List ℕ
  kids_of = drop i all

  abbrev good : GoodDivision s.grammar.nonterminals e.q e.divides.weight all
  good = good_division s e.in_bar_lem.prepared.good r e.q e.divides.weight all e.divides.rule

  -- the rule is one of the grammar's, and has 2 to 8 parts
  pub rule_below : r < 64
  rule_below = omega (arith, some_below s.grammar.rules r _ e.divides.rule, e.in_bar_lem.prepared.good.most)

  pub parts-length : l < 84
  parts-length = omega (arith, e.divides.shorter, lengths_most s)

  pub parts_two : 2 ≤ k
  parts_two = omega (arith, good.two, e.divides.count)

  pub parts_eight : k ≤ 8
  parts_eight = omega (arith, good.eight, e.divides.count)

  -- nothing is taken yet
  parts_none : {v : List ℕ} → v ≡ vec (only NONE c) → PartsDone s rows kids_of l left c 0 left.0 from v
  unfolding forward
  parts_none h = record { first = e.first; is = h; sound = e.sound }

  pub parts_begin : {v : List ℕ} → v ≡ vec (only NONE c) → PartsDone s rows kids_of l left c (i - i) left.0 from v
  parts_begin {v} h = subst (λ (n : ℕ). PartsDone s rows kids_of l left c n left.0 from v) (omega arith) (parts_none h)

  -- part j
  module _ (j lo : ℕ) (hj : j < k) (is : lo ≡ e.start + j * length_at s l) where
    aligned_next : (q : ℕ) → Aligned (bar.number * bar_units) (item_at s q l (units lo))
    aligned_next q =
        let whole = length_at s e.whole in
        let part : whole / k ≡ length_at s l =
        ap (λ (n : ℕ). n / k) e.divides.whole ∙ mul-div_cancel_left (length_at s l) (omega (arith, parts_two)) in
        let even : whole % k ≡ 0 = ap (λ (n : ℕ). n % k) e.divides.whole ∙ mul-mod_right k (length_at s l) in
        subst (λ (x : ℕ). Aligned (bar.number * bar_units) (record { nonterminal = q; left = x; len = length_at s l })) (sym is)
        (subst (λ (p : ℕ). Aligned (bar.number * bar_units) (record { nonterminal = q; left = e.start + j * p; len = p })) part
        (aligned_part (bar.number * bar_units) (record { nonterminal = e.q; left = e.start; len = whole }) k j q e.aligned even hj))

    child_is : child_cell plan r j ≡ get_or all j 0
    child_is =
        child_at s plan e.in_bar_lem.prepared r e.q e.divides.weight all e.divides.rule j (omega (arith, e.divides.count))

    -- it ends in the longest piece
    pub next_near : lo + length_at s l ≤ last_unit
    next_near = omega (arith, (aligned_next 0).ends, e.in_bar_lem.bar_in, e.in_bar_lem.onsets.good.sixty_four)

    -- and stands
    pub next_stands : (q at : ℕ) → q ≡ child_cell plan r j → at ≡ first_at s lo → Stands s plan us bar q l (units lo) at
    next_stands q at eq ea = record {
      in_bar_lem = e.in_bar_lem;
      nonterminal = rw (eq ∙ child_is)
          (every_in (λ (x : ℕ). x < s.grammar.nonterminals) all j 0 (omega (arith, e.divides.count)) good.parts);
      length_in = e.divides.shorter;
      aligned = aligned_next q;
      first = ea;
    }

    -- one part more is taken, the n-th from part i on
    pub parts_more : {now after v w : List ℕ} {n q at to end : ℕ} → j ≡ i + n → PartsDone s now kids_of l left c n lo at v
        → q ≡ child_cell plan r j → end ≡ lo + length_at s l → to ≡ first_at s end → Taken s after (item_at s q l (units lo)) v 4 w
        → PartsDone s after kids_of l left c (n + 1) end to w
    parts_more {v = v} {w} {n} {q} ej d eq ee et t = record {
      first = et;
      is = t.is ∙ vec_same _ _ same ∙ ap (λ gs. vec (forward carries NONE (cell_of s) gs (only NONE c))) (sym one_more);
      sound = t.sound;
    }
      where
        gs : List Item
        gs = parts_at s l left (take n kids_of)

        g : Item
        g = item_at s q l (units lo)

        f : ℕ → ℕ
        f = forward carries NONE (cell_of s) gs (only NONE c)

        same : (x : ℕ) → x < 4 → lowest NONE (λ m. get_or v m 0 + cell_of s g m x) 4
            ≡ forward carries NONE (cell_of s) (gs ++ (g ∷ [])) (only NONE c) x
        same x h =
            lowest_same NONE (λ m. get_or v m 0 + cell_of s g m x) (λ m. f m + cell_of s g m x) 4
            (λ m hm. ap (◌+ cell_of s g m x) (ap (λ u. get_or u m 0) d.is ∙ vec_at f m hm))
            ∙ sym (forward_snoc carries NONE (cell_of s) gs g (only NONE c) x)

        more : n < length kids_of
        more = omega (arith, length-drop i all, e.divides.count)

        one_more : parts_at s l left (take (n + 1) kids_of) ≡ gs ++ (g ∷ [])
        one_more =
            let p = length_at s l in
            let kid = get_or kids_of n 0 in
            let is-kid : kid ≡ q = get_or-drop i all n 0 ∙ ap (λ (x : ℕ). get_or all x 0) (sym ej) ∙ sym (eq ∙ child_is) in
            let so-many : length (take n kids_of) ≡ n = omega (arith, length-take n kids_of, more) in
            let along : left.0 + n * p ≡ lo = omega (arith, e.left_is, is, ap (λ (x : ℕ). x * p) ej, add-mul i n p) in
            let there : left.0 + length (take n kids_of) * p ≡ lo = ap (λ (x : ℕ). left.0 + x * p) so-many ∙ along in
            ap (adjoining left.0 p) (ap (λ (x : ℕ). take x kids_of) (add-one n) ∙ take-suc kids_of n 0 more)
            ∙ adjoining-append left.0 p (take n kids_of) (kid ∷ [])
            ∙ ap (λ (x : ℕ). gs ++ adjoining x p (kid ∷ [])) there
            ∙ ap (λ (x : ℕ). gs ++ adjoining lo p (x ∷ [])) is-kid

  -- all are taken
  pub parts_all : {now v : List ℕ} {n lo at : ℕ} → k ≤ i + n → PartsDone s now kids_of l left c n lo at v → Parted s now r i l left c v
  parts_all {now} {v} {n} h d = record {
    is = λ q w kids rule. d.is ∙ ap (λ ks. vec (forward carries NONE (cell_of s) (parts_at s l left ks) (only NONE c)))
        (take_all n kids_of (omega (arith, length-drop i all, e.divides.count))
        ∙ ap (λ ks. drop i ks) (same_kids (sym e.divides.rule ∙ rule)));
    sound = d.sound;
  }

-- ---- one turn of the loop over the parts

-- what a call of `first_behind` tells
abbrev pub FirstBehind : (us : List ℕ) → (at right to : ℕ) → Type 0
FirstBehind us at right to =
    (s : Sheet) (u : ℕ) → UnitsHeld s us → at ≡ first_at s u → u ≤ right → right ≤ last_unit → to ≡ first_at s right

module _ {s : Sheet} {plan us rows : List ℕ} {bar : Bar} {r i k l : ℕ} {left : Units} {from c : ℕ} {now v : List ℕ}
    {j lo at : ℕ} {len : Units}
    (e : PartsEntry s plan us rows bar r i k l left from c) (el : len.0 ≡ length_cell plan l) (hi : i ≤ j) (hj : j < k)
    (is : lo + i * len.0 ≡ left.0 + j * len.0) (d : PartsDone s now (kids_of e) l left c (j - i) lo at v) where
  same_len : len.0 ≡ length_at s l
  same_len = el ∙ e.in_bar_lem.prepared.length-at l (parts-length e)

  there : lo ≡ e.start + j * length_at s l
  there =
      let same : lo + i * length_at s l ≡ left.0 + j * length_at s l = rw same_len at is in
      omega (arith, same, e.left_is)

  pub turn_near : lo + len.0 ≤ last_unit
  turn_near = omega (arith, same_len, next_near e j lo hj there)

  -- what `first_behind` asks
  pub turn_asked : (s : Sheet) × (u : ℕ) × UnitsHeld s us × (at ≡ first_at s u) × (u ≤ lo + len.0) × (lo + len.0 ≤ last_unit)
  turn_asked = (s, lo, e.in_bar_lem.onsets, d.first, omega arith, turn_near)

  -- and what it, `child` and `part` tell
  module _ {to q : ℕ} (behind : FirstBehind us at (lo + len.0) to) (eq : q ≡ child_cell plan r j) where
    told : to ≡ first_at s (lo + len.0)
    told = behind s lo e.in_bar_lem.onsets d.first (omega arith) turn_near

    pub turn_part : PartEntry s plan us now bar q l (units lo) at to v
    turn_part = record {
      stands = next_stands e j lo hj there q at eq d.first;
      ends = told ∙ ap (λ (n : ℕ). first_at s (lo + n)) same_len;
      low = parts_low d;
      sound = d.sound;
    }

    pub turn_more : {after w : List ℕ} → Taken s after (item_at s q l (units lo)) v 4 w
        → PartsDone s after (kids_of e) l left c (j + 1 - i) (lo + len.0) to w
    turn_more {after} {w} taken =
        subst (λ (n : ℕ). PartsDone s after (kids_of e) l left c n (lo + len.0) to w) (omega arith)
        (parts_more e j lo hj there (omega arith) d eq (ap (lo +◌) same_len) told taken)

-- what `parts` gives is low
pub parted_low : {s : Sheet} {rows : List ℕ} {r i l : ℕ} {left : Units} {c : ℕ} {x : List ℕ} {q w : ℕ} {kids : List ℕ}
    → rule_at s r ≡ some (division q w kids) → Parted s rows r i l left c x → Low x
parted_low {s} {i = i} {l} {left} {c} {x} {q} {w} {kids} rule p =
    low_eq x (forward carries NONE (cell_of s) (parts_at s l left (drop i kids)) (only NONE c)) (p.is q w kids rule)
    (forward_low (cell_of s) (parts_at s l left (drop i kids)) (only NONE c) (only_cap NONE c))
