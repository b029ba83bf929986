-- Laws of the bars: cut in two before each bar, the prefix and suffix costs there, and which carry states least trees pass.
use Prim.Native.Nat.{ℕ, zero, suc, ◌+◌, ◌*◌, ◌/◌, ◌≤◌, ◌<◌, min}
use mathlib.Core.Path.{◌≡◌, refl, sym, ap, subst, ◌∙◌}
use mathlib.Core.List.{List, [], ◌∷◌, ◌++◌, append-nil}
use mathlib.Core.Logic.{◌⊎◌, inl, inr}
use native.Mathlib.Decide.{dec_lt, ℕ_discrete}
use native.Mathlib.Nat.{zero-add}
use native.Mathlib.Omega.{arith}
use lib.ListN.{length, drop, replicate, get_or, length-replicate, get_or-replicate, replicate-append-replicate, drop_of_length-le}
use Rattle.sheet.specs.Sheet.{Sheet, bar_units}
use Rattle.sheet.specs.Good.{GoodRules}
use Rattle.derivations.specs.Derivation.{Item}
use Rattle.derivations.specs.Minima.{lowest, lowest_le, lowest_at, lowest_mono, only, only_cap, only_below}
use Rattle.derivations.specs.Folds.{backward, forward, forward_snoc}
use Rattle.derivations.specs.Interchange.{Interchangeable, interchangeable_item, cut_total}
use Rattle.trees.specs.ValidTrees.{adjoining, bars}
use Rattle.trees.specs.Instance.{instance_of}
use Rattle.trees.specs.LeastTotal.{NONE, carries, cell_of, least_total}
use Rattle.trees.proofs.Laws.{lawful, adjoining-append}
use Rattle.trees.proofs.Found.{cells_least}
use Rattle.rows.specs.Vectors.{vec, Low}
use Rattle.rows.specs.VectorLaws.{vec_at, only_low, lowest_same}
use Rattle.rows.specs.PackedLaws.{packed_cell, packed_cell_is}
use Rattle.rows.specs.PartLaws.{forward_low}
use Rattle.building.specs.Clauses.{at, suffix_costs}
use Rattle.building.specs.RebuildLaws.{row-drop}
use Rattle.building.specs.InterchangeLaws.{suffix_saved}
use Rattle.search.specs.Clauses.{bar_item, bars_from, bars_to, bar_suffix_costs, prefix_costs, RootRow, CutPoint, OnPath}
use Rattle.search.specs.Clauses.{IdleBefore, Suffix}

-- ---- bars in a row

replicate_cut : (b n x : ℕ) → b ≤ n → replicate n x ≡ replicate b x ++ drop b (replicate n x)
replicate_cut zero n x h = refl
replicate_cut (suc b) zero x h = let none : ⊥ = omega arith in absurd none
replicate_cut (suc b) (suc n) x h = ap (x ∷◌) (replicate_cut b n x (omega arith))

module _ (s : Sheet) where
  abbrev start : ℕ
  start = s.grammar.start

  -- one bar more
  bars_more : (b : ℕ) → bars_to s (b + 1) ≡ bars_to s b ++ (bar_item s b ∷ [])
  bars_more b =
      ap (adjoining 0 bar_units) (sym (replicate-append-replicate b 1 start)) ∙ adjoining-append 0 bar_units (replicate b start) (start ∷ [])
      ∙ ap (λ (n : ℕ). bars_to s b ++ adjoining (0 + n * bar_units) bar_units (start ∷ [])) (length-replicate b start)
      ∙ ap (λ (x : ℕ). bars_to s b ++ adjoining x bar_units (start ∷ [])) (zero-add (b * bar_units))

  -- ---- what is before a bar

  pub prefix_low : (b c : ℕ) → prefix_costs s b c ≤ NONE
  prefix_low b c = forward_low (cell_of s) (bars_to s b) (only NONE 0) (only_cap NONE 0) c

  pub prefix_none : (c : ℕ) → prefix_costs s 0 c ≡ only NONE 0 c
  unfolding forward
  prefix_none c = refl

  pub prefix_more : (b x : ℕ) → prefix_costs s (b + 1) x ≡ lowest NONE (λ m. prefix_costs s b m + cell_of s (bar_item s b) m x) carries
  prefix_more b x =
      ap (λ (gs : List Item). forward carries NONE (cell_of s) gs (only NONE 0) x) (bars_more b)
      ∙ forward_snoc carries NONE (cell_of s) (bars_to s b) (bar_item s b) (only NONE 0) x

  -- nothing is carried into the first bar
  pub cut_first : CutPoint s 0
  cut_first c some few = elim (dec_lt (prefix_costs s 0 c) NONE) [
    | yes h ↦ let is : c ≡ 0 = only_below NONE 0 c (omega (arith, prefix_none c)) in absurd (omega arith)
    | no h ↦ inl (omega arith)
  ]

  -- what a bar's row totals: the bar's cells, or the cap where the carry state is idle
  pub root_total : GoodRules s.grammar → (b c : ℕ) (y : List ℕ) → RootRow s b c y → (m : ℕ) → c < carries → m < carries
      → (get_or y m 0 / 64 ≡ cell_of s (bar_item s b) c m) ⊎ (IdleBefore s b c × (get_or y m 0 / 64 ≡ NONE))
  root_total good b c y (inl e) m hc hm =
      inl (ap (λ (x : List ℕ). get_or x m 0 / 64) e ∙ ap (◌/ 64) (vec_at (packed_cell s (bar_item s b) c) m hm)
      ∙ packed_cell_is s good (bar_item s b) c m hc hm)
  root_total good b c y (inr (idle, e)) m hc hm =
      inr (idle, ap (λ (x : List ℕ). get_or x m 0 / 64) e ∙ ap (◌/ 64) (vec_at (λ _. 64 * NONE) m hm))

-- ---- the bars before bar e

module _ (s : Sheet) (e : ℕ) where
  -- bar b is the first of the bars from b on
  pub bar_next : (b : ℕ) → b < e → bars_from s e b ≡ bar_item s b ∷ bars_from s e (b + 1)
  bar_next b h =
      row-drop 0 bar_units (replicate e (start s)) b (omega (arith, length-replicate e (start s)))
      ∙ ap (λ (q : ℕ). record { nonterminal = q; left = 0 + b * bar_units; len = bar_units } ∷ bars_from s e (b + 1))
      (get_or-replicate e b (start s) 0 h)
      ∙ ap (λ (x : ℕ). record { nonterminal = start s; left = x; len = bar_units } ∷ bars_from s e (b + 1)) (zero-add (b * bar_units))

  -- behind the last bar there is none
  pub bars_none : bars_from s e e ≡ []
  bars_none =
      ap (adjoining (0 + e * bar_units) bar_units)
      (drop_of_length-le (replicate e (start s)) {i = e} (omega (arith, length-replicate e (start s))))

  pub bars_cut : (b : ℕ) → b ≤ e → bars_to s e ≡ bars_to s b ++ bars_from s e b
  bars_cut b h =
      ap (adjoining 0 bar_units) (replicate_cut b e (start s) h) ∙ adjoining-append 0 bar_units (replicate b (start s))
      (drop b (replicate e (start s)))
      ∙ ap (λ (n : ℕ). bars_to s b ++ adjoining (0 + n * bar_units) bar_units (drop b (replicate e (start s)))) (length-replicate b (start s))

  pub bar_suffix_next : (b c : ℕ) → b < e
      → bar_suffix_costs s e b c ≡ lowest NONE (λ m. cell_of s (bar_item s b) c m + bar_suffix_costs s e (b + 1) m) carries
  unfolding backward
  bar_suffix_next b c h = ap (λ (gs : List Item). suffix_costs s gs (only NONE 0) c) (bar_next b h)

  pub bar_suffix_end : (c : ℕ) → bar_suffix_costs s e e c ≡ only NONE 0 c
  unfolding backward
  bar_suffix_end c = ap (λ (gs : List Item). suffix_costs s gs (only NONE 0) c) bars_none

  module _ (good : GoodRules s.grammar) where
    -- their least total, by carry states before a bar
    cut : (gs hs : List Item) → suffix_costs s (gs ++ hs) (only NONE 0) 0
        ≡ lowest NONE (λ m. forward carries NONE (cell_of s) gs (only NONE 0) m + suffix_costs s hs (only NONE 0) m) carries
    cut gs hs =
        cut_total (lawful s) s.grammar.multiplier NONE (cell_of s) (cells_least s good) gs hs (only NONE 0) 0 (only_cap NONE 0)
        (omega arith)

    total_whole : suffix_costs s (bars_to s e) (only NONE 0) 0 ≡ prefix_costs s e 0
    unfolding lowest only backward
    total_whole =
        ap (λ (gs : List Item). suffix_costs s gs (only NONE 0) 0) (sym (append-nil (bars_to s e))) ∙ cut (bars_to s e) []
        ∙ omega (arith, prefix_low s e 0)

    pub total_cut : (b : ℕ) → b ≤ e → prefix_costs s e 0 ≡ lowest NONE (λ m. prefix_costs s b m + bar_suffix_costs s e b m) carries
    total_cut b h =
        sym total_whole ∙ ap (λ (gs : List Item). suffix_costs s gs (only NONE 0) 0) (bars_cut b h) ∙ cut (bars_to s b) (bars_from s e b)

    -- no less by any carry state before a bar
    pub total_least : (b c : ℕ) → b ≤ e → c < carries → prefix_costs s e 0 ≤ prefix_costs s b c + bar_suffix_costs s e b c
    total_least b c h hc =
        omega (arith, total_cut b h, lowest_le NONE (λ m. prefix_costs s b m + bar_suffix_costs s e b m) carries c hc)

    -- ---- the carry states that least lists pass

    module _ (reached : prefix_costs s e 0 < NONE) where
      -- none of them is idle
      pub path_busy : (b c : ℕ) → b ≤ e → 0 < c → c < carries → OnPath s e b c → IdleBefore s b c → ⊥
      path_busy b c hb some hc on (inl h) = omega arith
      path_busy b c hb some hc on (inr (_, begun, h)) = elim (dec_lt b e) [
        | yes k ↦
            let same : (m : ℕ) → bar_suffix_costs s e b m ≡ suffix_costs s (bar_item s b ∷ bars_from s e (b + 1)) (only NONE 0) m =
            λ m. ap (λ (gs : List Item). suffix_costs s gs (only NONE 0) m) (bar_next b k) in
            omega (
              arith,
              same 0,
              same c,
              suffix_saved s good (bar_item s b) (bars_from s e (b + 1)) (only NONE 0) c hc begun,
              total_least b 0 hb (omega arith),
            )
        | no k ↦ last (omega arith)
      ]
        where
          last : b ≡ e → ⊥
          last is =
              let low : only NONE 0 c < NONE = omega (arith, bar_suffix_end c, ap (λ (n : ℕ). bar_suffix_costs s e n c) is) in
              let none : c ≡ 0 = only_below NONE 0 c low in
              omega arith

      -- where nothing is carried into a bar, they pass carry state 0
      pub path_cut : (b : ℕ) → b ≤ e → CutPoint s b → OnPath s e b 0
      path_cut b hb cut =
          go (lowest_at NONE (λ m. prefix_costs s b m + bar_suffix_costs s e b m) carries (omega (arith, total_cut b hb)))
        where
          go : (m : ℕ) × (m < carries)
              × (lowest NONE (λ i. prefix_costs s b i + bar_suffix_costs s e b i) carries ≡ prefix_costs s b m + bar_suffix_costs s e b m)
              → OnPath s e b 0
          go (m, hm, is) = elim (ℕ_discrete m 0) [
            | yes z ↦ subst (OnPath s e b) z (omega (arith, is, total_cut b hb))
            | no z ↦
                absurd (path_busy b m hb (omega arith) hm (omega (arith, is, total_cut b hb)) (cut m (omega arith) hm))
          ]

      module _ (b : ℕ) (hb : b < e) where
        -- a carry state that is idle is none of them
        pub path_own : (c : ℕ) → c < carries → OnPath s e b c → IdleBefore s b c → ⊥
        path_own c hc on (inl h) = omega arith
        path_own c hc on (inr (some, begun, h)) = path_busy b c (omega arith) some hc on (inr (some, begun, h))

        -- one leads to the next
        pub path_next : (c m : ℕ) → c < carries → OnPath s e b c
            → cell_of s (bar_item s b) c m + bar_suffix_costs s e (b + 1) m ≤ bar_suffix_costs s e b c → OnPath s e (b + 1) m
        path_next c m hc on h =
            omega (arith, prefix_more s b m, lowest_le NONE (λ i. prefix_costs s b i + cell_of s (bar_item s b) i m) carries c hc)

        module _ {v : List ℕ} (suffix : Suffix s e (b + 1) v) where
          -- a bar that is entered where a least list may pass: v is interchangeable with what is behind it
          pub interchangeable_bar : (c : ℕ) → c < carries → OnPath s e b c
              → Interchangeable (instance_of s) s.grammar.multiplier (bar_item s b ∷ []) (bar_suffix_costs s e (b + 1)) (at v) c
              (bar_suffix_costs s e b c)
          interchangeable_bar c hc on =
              interchangeable_item (lawful s) s.grammar.multiplier NONE (cell_of s) (cells_least s good) (bar_item s b)
              (bar_suffix_costs s e (b + 1))
              (at v) c
              (bar_suffix_costs s e b c)
              hc
              (bar_suffix_next b c hb)
              (omega arith) apart
            where
              apart : (m : ℕ) → m < carries → (at v m ≡ bar_suffix_costs s e (b + 1) m)
                  ⊎ ((bar_suffix_costs s e b c < cell_of s (bar_item s b) c m + bar_suffix_costs s e (b + 1) m)
                  × (bar_suffix_costs s e b c < cell_of s (bar_item s b) c m + at v m))
              apart m hm = elim (dec_lt (bar_suffix_costs s e b c) (cell_of s (bar_item s b) c m + bar_suffix_costs s e (b + 1) m)) [
                | yes k ↦ inr (k, omega (arith, suffix.no_less m hm))
                | no k ↦ inl (suffix.same m hm (path_next c m hc on (omega arith)))
              ]

          -- and there is a least total with it
          pub path_reached : (c : ℕ) → c < carries → OnPath s e b c → suffix_costs s (bar_item s b ∷ []) (at v) c ≡ bar_suffix_costs s e b c
          unfolding backward
          path_reached c hc on =
              let (m, hm, is) = lowest_at NONE (λ i. cell_of s (bar_item s b) c i + bar_suffix_costs s e (b + 1) i) carries
              (omega (arith, bar_suffix_next b c hb)) in
              omega (
                arith,
                bar_suffix_next b c hb,
                is,
                suffix.same m hm (path_next c m hc on (omega (arith, bar_suffix_next b c hb, is))),
                lowest_le NONE (λ i. cell_of s (bar_item s b) c i + at v i) carries m hm,
                lowest_mono NONE (λ i. cell_of s (bar_item s b) c i + bar_suffix_costs s e (b + 1) i) (λ i. cell_of s (bar_item s b) c i + at v i)
                    carries
                    (λ i k. omega (arith, suffix.no_less i k)),
              )

          -- the vector one bar earlier, of the rows of the bar
          module _ (y : ℕ → List ℕ) (rooted : (c : ℕ) → c < carries → RootRow s b c (y c)) {w : List ℕ} (size : length w ≡ 4)
              (is : (c : ℕ) → c < carries → get_or w c 0 ≡ lowest NONE (λ m. get_or (y c) m 0 / 64 + at v m) carries) (low : Low w) where
            pub suffix_more : Suffix s e b w
            unfolding backward
            suffix_more = record { no_less = no_less; same = same; low = low; four = size }
              where
                no_less : (c : ℕ) → c < carries → bar_suffix_costs s e b c ≤ get_or w c 0
                no_less c hc =
                    omega (
                      arith,
                      bar_suffix_next b c hb,
                      is c hc,
                      lowest_mono NONE (λ m. cell_of s (bar_item s b) c m + bar_suffix_costs s e (b + 1) m) (λ m. get_or
                          (y c) m 0 / 64 + at v m) carries each,
                    )
                  where
                    each : (m : ℕ) → m < carries → min NONE (cell_of s (bar_item s b) c m + bar_suffix_costs s e (b + 1) m) ≤ get_or
                        (y c) m 0 / 64 + at v m
                    each m hm = elim (root_total s good b c (y c) (rooted c hc) m hc hm) [
                      | inl z ↦ omega (arith, z, suffix.no_less m hm)
                      | inr (_, z) ↦ omega (arith, z)
                    ]

                same : (c : ℕ) → c < carries → OnPath s e b c → get_or w c 0 ≡ bar_suffix_costs s e b c
                same c hc on =
                    is c hc ∙ lowest_same NONE (λ m. get_or (y c) m 0 / 64 + at v m) (λ m. cell_of s (bar_item s b) c m + at v m) carries each
                    ∙ path_reached c hc on
                  where
                    each : (m : ℕ) → m < carries → get_or (y c) m 0 / 64 + at v m ≡ cell_of s (bar_item s b) c m + at v m
                    each m hm = elim (root_total s good b c (y c) (rooted c hc) m hc hm) [
                      | inl z ↦ ap (◌+ at v m) z
                      | inr (idle, _) ↦ absurd (path_own c hc on idle)
                    ]

  -- behind the last bar
  pub suffix_last : (v : List ℕ) → v ≡ vec (only NONE 0) → Suffix s e e v
  suffix_last v is = record {
    no_less = λ c hc. omega (arith, own c hc);
    same = λ c hc on. own c hc;
    low = only_low v 0 is;
    four = ap length is;
  }
    where
      own : (c : ℕ) → c < carries → get_or v c 0 ≡ bar_suffix_costs s e e c
      own c hc = ap (λ (x : List ℕ). get_or x c 0) is ∙ vec_at (only NONE 0) c hc ∙ sym (bar_suffix_end c)

-- all bars: behind the last nothing is carried
pub total_last : (s : Sheet) → GoodRules s.grammar → prefix_costs s s.playing.bars 0 ≡ least_total s
unfolding least_total bars
total_last s good = sym (total_whole s s.playing.bars good)
