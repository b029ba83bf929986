-- The steps of `write_tree` at an item that is read: which rule stands there, and what is left behind a leaf. `PartsSteps` has divisions.
use Prim.Native.Nat.{ℕ, ◌+◌, ◌/◌, ◌≤◌, ◌<◌}
use mathlib.Core.Path.{◌≡◌, sym, ap, subst, ◌∙◌}
use mathlib.Core.Bool.{true}
use mathlib.Core.List.{List, [], ◌∷◌, ◌++◌}
use mathlib.Core.Logic.{◌⊎◌, inl, inr}
use mathlib.Core.Option.{some, none-ne-some}
use native.Mathlib.Decide.{dec_lt}
use native.Mathlib.Omega.{arith}
use lib.ListN.{length, drop, get_or, length-append, drop_of_length-le}
use Rattle.slices.specs.Over.{over_from, over_from-append, length-over_from}
use Rattle.sheet.specs.declared.table.Rule as cell
use Rattle.sheet.specs.declared.table.Rule.TheVariants.{Division, Leaf}
use Rattle.sheet.specs.Sheet.{Rule, division, leaf, Sheet}
use Rattle.derivations.specs.Derivation.{Item, Expansion, Price, derive, Onto, derive_cons}
use Rattle.trees.specs.ValidTrees.{rule_at, adjoining, may_divide, late, placed_from}
use Rattle.trees.specs.Instance.{late_count, at_leaf, at_division, instance_of}
use Rattle.trees.specs.Expansions.{Step, step_of}
use Rattle.trees.specs.Leaves.{leaves_from}
use Rattle.trees.proofs.LeafLaws.{leaves_leaf}
use Rattle.expansions.specs.declared.Interval.{Interval}
use Rattle.expansions.specs.Tables.{unpacked_of, cell_of}
use Rattle.expansions.specs.RuleCells.{leaf≢division}
use Rattle.slices.specs.Lookup.{some_below, drop-step}
use Rattle.expansions.specs.Items.{item_of}
use Rattle.score.specs.declared.tree.Place.{Place}
use Rattle.score.specs.Score.{leaf_lines, entry_lines}
use Rattle.score.specs.Clauses.{carried_into, leaf_text, LeafPre, LeafWritten, text_left, TreePre, TreeWritten}
use Rattle.score.proofs.CountSteps.{cell_at}

-- the place behind a rule
abbrev pub behind_rule : Place → Place
behind_rule p = record { at = p.at + 1; from = p.from; carried = p.carried; to = p.to }

-- ---- what stands at an item

-- rule r is a leaf, and the rest of the list is read against the items that follow
pub record LeafHere (s : Sheet) (q : ℕ) (rest : List Item) (list : List ℕ) (over : Interval) (p : Place) (r n : ℕ) : Type 0 where
  pub weight : ℕ
  pub rule : rule_at s r ≡ some (leaf q weight n)
  pub few_late : late_count s over.left.0 over.len.0 ≤ 3
  pub price : Price
  pub read : derive (instance_of s) (drop (p.at + 1) list) rest (late_count s over.left.0 over.len.0) ≡ some price

-- rule r is a division, and the rest of the list is read against its parts and the items that follow
pub record DivisionHere (s : Sheet) (q : ℕ) (rest : List Item) (list : List ℕ) (over : Interval) (p : Place) (r : ℕ) (ks : List ℕ) : Type 0
  where
    pub weight : ℕ
    pub rule : rule_at s r ≡ some (division q weight ks)
    pub allowed : may_divide s (length ks) over.left.0 over.len.0 ≡ true
    pub price : Price
    pub read : derive (instance_of s) (drop (p.at + 1) list) (adjoining over.left.0 (over.len.0 / length ks) ks ++ rest) p.carried
        ≡ some price

module _ {s : Sheet} {q : ℕ} {rest : List Item} {cells us ps list : List ℕ} {over : Interval} {p : Place} {score : List ℕ}
    (h : TreePre s q rest cells us ps list over p score) where
  abbrev left : ℕ
  left = over.left.0

  abbrev len : ℕ
  len = over.len.0

  abbrev r : ℕ
  r = get_or list p.at 0

  -- a rule is left
  pub rule_left : p.at < length list
  unfolding derive
  rule_left = go (dec_lt p.at (length list))
    where
      none_read : (xs : List ℕ) → xs ≡ [] → derive (instance_of s) xs (item_of q over ∷ rest) p.carried ≡ some h.ahead.price → ⊥
      none_read xs e f = absurd (none-ne-some _ (rw e at f))

      go : Dec (p.at < length list) → p.at < length list
      go (yes l) = l
      go (no l) = absurd (none_read (drop p.at list) (drop_of_length-le list {i = p.at} (omega arith)) h.ahead.read)

  pub front : drop p.at list ≡ r ∷ drop (p.at + 1) list
  front = drop-step list p.at rule_left

  -- it is a leaf's or a division's
  abbrev Here : Type 0
  Here =
      ((n : ℕ) × LeafHere s q rest list over p r n) ⊎ ((ks : List ℕ) × DivisionHere s q rest list over p r ks)

  here : Here
  unfolding at_leaf at_division
  here =
      let read = rw front at h.ahead.read in
      go (derive_cons (instance_of s) r (drop (p.at + 1) list) (item_of q over) rest p.carried h.ahead.price read)
    where
      by : (m : Expansion) (w : Price) → derive (instance_of s) (drop (p.at + 1) list) (m.parts ++ rest) m.carry ≡ some w
          → Step s (item_of q over) p.carried r m → Here
      by m w d (inl l) =
          inl (l.n, record { weight = l.weight; rule = l.rule; few_late = l.few_late; price = w; read = rw l.is at d })
      by m w d (inr l) =
          inr (l.kids, record { weight = l.weight; rule = l.rule; allowed = l.allowed; price = w; read = rw l.is at d })

      go : Onto ((instance_of s).weight r) ((instance_of s).expand (item_of q over) p.carried r)
          (λ m. derive (instance_of s) (drop (p.at + 1) list) (m.parts ++ rest) m.carry) h.ahead.price
          → Here
      go (m, w, e, d, f) = by m w d (step_of s (item_of q over) p.carried r m e)

  pub rule_small : r < 64
  rule_small = go here
    where
      below : (ru : Rule) → rule_at s r ≡ some ru → r < 64
      below ru e = omega (arith, some_below s.grammar.rules r ru e, h.rules.good.most)

      go : Here → r < 64
      go (inl (n, l)) = below _ l.rule
      go (inr (ks, d)) = below _ d.rule

  -- the rule in the table's cell says which
  abbrev InCell : cell.Rule → Type 0
  InCell x = x ≡ unpacked_of (get_or cells r 0)

  in_cell : (x : cell.Rule) → InCell x → cell_of (rule_at s r) ≡ x
  in_cell x e = sym (cell_at s cells h.rules r rule_small) ∙ sym e

  pub leaf_here : (x : cell.Rule) (a b n : ℕ) → InCell x → x ≡ Leaf a b n → LeafHere s q rest list over p r n
  leaf_here x a b n i k = go here
    where
      e : cell_of (rule_at s r) ≡ Leaf a b n
      e = in_cell x i ∙ k

      go : Here → LeafHere s q rest list over p r n
      go (inl (m, l)) =
          let f : Leaf q l.weight m ≡ Leaf a b n = rw l.rule at e in
          let g : m ≡ n = cc in
          subst (LeafHere s q rest list over p r) g l
      go (inr (ks, d)) = absurd (leaf≢division _ _ _ _ _ _ (sym (rw d.rule at e)))

  abbrev pub Divided : ℕ → Type 0
  Divided k = (ks : List ℕ) × (length ks ≡ k) × DivisionHere s q rest list over p r ks

  pub division_here : (x : cell.Rule) (a b k : ℕ) → InCell x → x ≡ Division a b k → Divided k
  division_here x a b k i f = go here
    where
      e : cell_of (rule_at s r) ≡ Division a b k
      e = in_cell x i ∙ f

      go : Here → Divided k
      go (inl (m, l)) = absurd (leaf≢division _ _ _ _ _ _ (rw l.rule at e))
      go (inr (ks, d)) =
          let f : Division q d.weight (length ks) ≡ Division a b k = rw d.rule at e in
          let g : length ks ≡ k = cc in
          (ks, g, d)

  -- ---- a leaf

  -- the text that is left behind the rule
  abbrev after : List ℕ
  after = entry_lines (placed_from s (late s left len) (leaves_from s (drop (p.at + 1) list) rest))

  module _ {n : ℕ} (l : LeafHere s q rest list over p r n) where
    text_leaf : text_left s list (item_of q over ∷ rest) p ≡ leaf_text s over n p ++ after
    unfolding leaf_lines placed_from
    text_leaf =
        ap (λ xs. entry_lines (placed_from s (carried_into s p) (leaves_from s xs (item_of q over ∷ rest)))) front
        ∙ ap (λ ls. entry_lines (placed_from s (carried_into s p) ls))
        (leaves_leaf s (item_of q over) r q l.weight n (drop (p.at + 1) list) l.rule rest)

    room : p.to + (length (leaf_text s over n p) + length after) ≤ length score
    room = omega (arith, h.ahead.room, ap length text_leaf, length-append (leaf_text s over n p) after)

    pub leaf_entry : LeafPre s us ps over n (behind_rule p) score
    leaf_entry =
        record {
          onsets = h.onsets;
          in_bar_lem = h.in_bar_lem;
          stands = record { first = h.ahead.stands.first; before = h.ahead.stands.before; few = h.ahead.stands.few };
          few_late = l.few_late;
          room = omega (arith, room);
        }

    pub leaf_done : (x : Place) (score' : List ℕ) → LeafWritten s over n (behind_rule p) x score score'
        → TreeWritten s q rest list over p x score score'
    leaf_done x score' w =
        let text = leaf_text s over n p in
        let same : text_left s list rest x ≡ after =
        ap (λ cs. entry_lines (placed_from s cs (leaves_from s (drop x.at list) rest))) w.into
        ∙ ap (λ i. entry_lines (placed_from s (late s left len) (leaves_from s (drop i list) rest))) w.at in
        let size : length score' ≡ length score = ap length w.text ∙ length-over_from p.to text score in
        let both = length-append text after in
        let whole = ap length text_leaf in
        record {
          ahead = record {
            stands = w.stands;
            price = l.price;
            read =
                ap (λ i. derive (instance_of s) (drop i list) rest x.carried) w.at
                ∙ ap (derive (instance_of s) (drop (p.at + 1) list) rest) w.carried ∙ l.read;
            room = omega (arith, room, w.to, ap length same, size);
          };
          went_on = record {
            text =
                ap (λ xs. over_from x.to xs score') same ∙ ap (λ i. over_from i after score') w.to
                ∙ ap (over_from (p.to + length text) after) w.text ∙ over_from-append p.to text after score (omega (arith, room))
                ∙ ap (λ xs. over_from p.to xs score) (sym text_leaf);
            end = omega (arith, w.to, ap length same, both, whole);
          };
        }
