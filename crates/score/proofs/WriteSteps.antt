-- The steps of `write_priced` and `write`: what a price tells, and how long the text of a tree is.
use Prim.Native.Nat.{ℕ, ◌≤◌, ◌<◌}
use mathlib.Core.Path.{◌≡◌, sym, ap, ◌∙◌}
use mathlib.Core.Bool.{cond}
use mathlib.Core.List.{List}
use mathlib.Core.Logic.{◌⊎◌, inl, inr}
use native.Mathlib.Omega.{arith}
use borrow.Author.Tests.{le-leb, lt-leb}
use lib.ListN.{length}
use Rattle.sheet.specs.declared.table.GrammarTable.{GrammarTable}
use Rattle.sheet.specs.declared.table.PlayingTable.{PlayingTable}
use Rattle.sheet.specs.Sheet.{Grammar, Sheet}
use Rattle.sheet.specs.Held.{grammar_table, playing_table}
use Rattle.std.proofs.Common.{Result, Ok, Err}
use Rattle.sheet.specs.declared.refusal.Refused.{Refused}
use Rattle.sheet.specs.declared.refusal.Refusal.TheVariants.{ScoreShort}
use Rattle.sheet.specs.Outcome.{Outcome, refused, accepted, accepted_value, accepted_not_refused}
use Rattle.sheet.specs.Refusal.{number_of, outcome_of, value_refused}
use Rattle.sheet.specs.Accepted.{SheetHeld}
use Rattle.sheet.proofs.AcceptedLaws.{on_refused, on_held}
use Rattle.sheet.specs.declared.table.Reading.{Reading}
use Rattle.sheet.specs.Held.{Reads}
use Rattle.trees.specs.ValidTrees.{ValidTree, total_of}
use Rattle.trees.specs.ValidTrees as trees
use Rattle.trees.specs.Room.{tree_most}
use Rattle.trees.proofs.Theorems.{nodes_most}
use Rattle.expansions.specs.Tables.{PackedRules, RulesHeld}
use Rattle.pricing.specs.declared.Priced.{Priced}
use Rattle.pricing.specs.Pricing.{priced, no_tree, price_sheet, priced_of}
use Rattle.pricing.specs.PricingLaws.{tree_priced, tree_or_none}
use Rattle.score.specs.Score.{tree_text}
use Rattle.score.specs.ScoreLaws.{text_size, score_length}
use Rattle.score.specs.LeafRules.{leaf_rules, leaf_rules_most, leaf_rules_entries}
use Rattle.score.specs.Writing.{text_within, write_priced, write_sheet, write_text, written_of, score_after}
use Rattle.score.specs.Clauses.{TextPre, TextWritten}

-- what an entry promises: its result and the score slice are those of the outcome
abbrev pub Promised : Outcome (List ℕ) → Result ℕ Refused → (score score' : List ℕ) → Type 0
Promised o r score score' = (outcome_of r ≡ written_of o) × (score' ≡ score_after o score)

-- a refusal keeps the slice
kept : (o : Outcome (List ℕ)) (e : Refused) → o ≡ refused (number_of e.refusal) e.line → (score : List ℕ) → Promised o (Err e) score score
unfolding score_after
kept o e is score = (sym (ap written_of is), ap (λ x. score_after x score) (sym is))

-- ---- a price

-- the list is a valid tree, and the figures are its own
pub record OwnPrice (s : Sheet) (list : List ℕ) (r : Priced) : Type 0 where
  pub valid : ValidTree s list
  pub is : price_sheet s list ≡ priced (length list) r.weight r.distance r.total

module _ (s : Sheet) (list : List ℕ) where
  pub price_given : (r : Priced) → accepted r ≡ priced_of (price_sheet s list) → OwnPrice s list r
  price_given r e = go (tree_or_none s list)
    where
      go : ((R : ℕ) × (D : ℕ) × trees.Priced s list R D) ⊎ (price_sheet s list ≡ no_tree) → OwnPrice s list r
      go (inl (R, D, p)) =
          let t = tree_priced s list R D p in
          let h : ◌≡◌ {A = Priced} (record { nodes = length list; weight = R; distance = D; total = total_of s R D }) r =
          sym (accepted_value (e ∙ ap priced_of t)) in
          let w = ap (λ (x : Priced). x.weight) h in
          let d = ap (λ (x : Priced). x.distance) h in
          let a = ap (λ (x : Priced). x.total) h in
          record { valid = p.valid; is = t ∙ (λ i. priced (length list) (w i) (d i) (a i)) }
      go (inr n) = absurd (accepted_not_refused (e ∙ ap priced_of n))

  -- 12
  pub sheet_refused : (e : Refused) → refused (number_of e.refusal) e.line ≡ priced_of (price_sheet s list) → (score : List ℕ)
      → Promised (write_sheet s list (length score)) (Err e) score score
  unfolding write_sheet
  sheet_refused e is score =
      kept (write_sheet s list (length score)) e
      (ap (write_priced s list (length score)) (value_refused _ (price_sheet s list) (sym is))) score

-- ---- the text of a tree

module _ {s : Sheet} {g : GrammarTable} {p : PlayingTable} {list : List ℕ} {r : Priced} (h : SheetHeld s g p) (t : OwnPrice s list r)
    (cells : List ℕ) (packed : (x : Grammar) → g ≡ grammar_table x → PackedRules x cells) (leaves : ℕ)
    (counted : (s : Sheet) → RulesHeld s cells → leaves ≡ leaf_rules s list) where
  held : RulesHeld s cells
  held = record { good = h.good.rules; rules = packed s.grammar h.grammar }

  leaves_are : leaves ≡ leaf_rules s list
  leaves_are = counted s held

  onsets_are : p.count ≡ length s.playing.onsets
  unfolding playing_table
  onsets_are = ap (λ (x : PlayingTable). x.count) h.playing

  -- the counts are small
  pub few_leaves : (leaves ≤ tree_most) × (p.count ≤ 512)
  few_leaves = (
    omega (arith, leaves_are, leaf_rules_most s list, nodes_most s h.good list t.valid),
    omega (arith, onsets_are, h.good.onsets.most),
  )

  abbrev text : List ℕ
  text = tree_text s list r.weight r.distance r.total

  -- the size of the text
  pub size_is : text_size leaves p.count ≡ length text
  size_is =
      omega (
        arith,
        score_length s h.good.onsets list t.valid r.weight r.distance r.total,
        leaves_are,
        leaf_rules_entries s list t.valid,
        onsets_are,
      )

  outcome : (room : ℕ) → write_sheet s list room ≡ text_within room text
  unfolding write_sheet
  outcome room = ap (write_priced s list room) t.is

  -- 13
  pub short : (score : List ℕ) (size : ℕ) → size ≡ text_size leaves p.count → length score < size
      → Promised (write_sheet s list (length score)) (Err (record { refusal = ScoreShort; line = 0 })) score score
  unfolding text_within
  short score size q k =
      let no_room_lem = lt-leb (length text) (length score) (omega (arith, k, q, size_is)) in
      kept (write_sheet s list (length score)) (record { refusal = ScoreShort; line = 0 })
      (outcome (length score) ∙ ap (λ b. cond b (accepted text) (refused 13 0)) no_room_lem) score

  pub text_pre : (score : List ℕ) (size : ℕ) → size ≡ text_size leaves p.count → size ≤ length score
      → TextPre s cells p list r.weight r.distance r.total score
  text_pre score size q k =
      record { rules = held; good = h.good.onsets; playing = h.playing; valid = t.valid; room = omega (arith, k, q, size_is) }

  pub sheet_written : (score score' : List ℕ) (size bytes : ℕ) → size ≡ text_size leaves p.count → size ≤ length score
      → TextWritten s list r.weight r.distance r.total bytes score score'
      → Promised (write_sheet s list (length score)) (Ok bytes) score score'
  unfolding text_within score_after
  sheet_written score score' size bytes q k w =
      let room = le-leb (length text) (length score) (omega (arith, k, q, size_is)) in
      let o : write_sheet s list (length score) ≡ accepted text =
      outcome (length score) ∙ ap (λ b. cond b (accepted text) (refused 13 0)) room in
      (ap accepted w.end ∙ ap written_of (sym o), w.text ∙ ap (λ x. score_after x score) (sym o))

-- ---- a text

module _ (text list score : List ℕ) where
  pub text_refused : (e : Refused) → Reads text (Err e) → Promised (write_text text list (length score)) (Err e) score score
  unfolding write_text
  text_refused e h = kept (write_text text list (length score)) e (on_refused text (λ s. write_sheet s list (length score)) e h) score

  pub text_written : (r : Reading) → Reads text (Ok r) → (x : Result ℕ Refused) (score' : List ℕ)
      → ((s : Sheet) → SheetHeld s r.grammar r.playing → Promised (write_sheet s list (length score)) x score score')
      → Promised (write_text text list (length score)) x score score'
  unfolding write_text
  text_written r h x score' f = on_held text (λ s. write_sheet s list (length score)) (λ o. Promised o x score score') r h f
