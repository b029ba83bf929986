-- Texts that are the same but for a's field: two that are accepted mean sheets that are the same but for a (`texts_alike`), and every
-- accepted text has such a text for each a (`slid_accepted`). Assumes nothing.
use Prim.Native.Nat.{ℕ, zero, suc, ◌+◌, ◌*◌, ◌/◌, ◌%◌, ◌<◌, ◌≤◌}
use Rattle.std.specs.Prelude.{◌≡◌, eqb, take, drop}
use Rattle.std.proofs.Math.Path.{refl, ap}
use Rattle.std.proofs.Common.{sym, ap₂, subst, ◌∙◌, mod-lt, div-add-mod', arith}
use mathlib.Core.List.{List, [], ◌∷◌, ◌++◌, head-eq_of_cons-eq, tail-eq_of_cons-eq}
use borrow.Author.Tests.{eqb-true}
use Rattle.std.proofs.Math.ListN.{length}
use Rattle.slices.specs.Every.{Every, every_at}
use Rattle.hextext.specs.Text.{bad_line, line_bytes, line_size, lines}
use Rattle.hextext.specs.Written.{pairs_of, line_text}
use Rattle.hextext.specs.Laws.{lines_small, byte_small}
use Rattle.hextext.specs.WrittenLaws.{read_back}
use Rattle.hextext.specs.Formed.{first_line}
use Rattle.sheet.specs.Sheet.{Sheet, TimedSheet}
use Rattle.sheet.specs.Multiplier.{with_multiplier, but_multiplier, AlikeTexts, slid}
use Rattle.sheet.specs.Outcome.{accepted, accepted_not_refused, accepted_value}
use Rattle.sheet.specs.Reading.{byte, head_refusal, nothing, refusal, read_lines, read_sheet}
use Rattle.sheet.specs.Accepted.{Accepts}
use Rattle.sheet.specs.Laws.{demand_zero, cond_zero, read_stop, accepted_formed, accepted_lines}
use Rattle.sheet.specs.HeadLines.{meaning_with, Around, head, headed, Small, small_with, headed_lines, same_head, headed_alike}

-- ---- an accepted text begins with a line of five bytes

record Headed (t : List ℕ) : Type 0 where
  around : Around
  x : ℕ
  y : ℕ
  text_is : t ≡ headed around x y
  small : Small around x y

five : (l : List ℕ) → length l ≡ 5
    → (k : ℕ) × (q : ℕ) × (st : ℕ) × (x : ℕ) × (y : ℕ) × (l ≡ k ∷ q ∷ st ∷ x ∷ y ∷ [])
five [] e = let f : ⊥ = omega arith in absurd f
five (k ∷ []) e = let f : ⊥ = omega arith in absurd f
five (k ∷ q ∷ []) e = let f : ⊥ = omega arith in absurd f
five (k ∷ q ∷ st ∷ []) e = let f : ⊥ = omega arith in absurd f
five (k ∷ q ∷ st ∷ x ∷ []) e = let f : ⊥ = omega arith in absurd f
five (k ∷ q ∷ st ∷ x ∷ y ∷ []) e = (k, q, st, x, y, refl)
five (k ∷ q ∷ st ∷ x ∷ y ∷ z ∷ zs) e = let f : ⊥ = omega arith in absurd f

-- the lines of a headed text but for a's field
abbrev outside : Around → List (List ℕ)
outside c = (c.kind ∷ c.q ∷ c.start ∷ []) ∷ lines c.rest

module _ (t : List ℕ) (m : TimedSheet) (e : read_sheet t ≡ accepted m) where
  formed : bad_line t ≡ 0
  formed = accepted_formed t m e

  by_lines : read_lines nothing 1 (lines t) ≡ accepted m
  by_lines = accepted_lines t m e

  abbrev l : List ℕ
  l = line_bytes t

  abbrev behind : List ℕ
  behind = drop (line_size t) t

  text_lines : lines t ≡ l ∷ lines behind
  text_lines = ap lines (first_line t formed) ∙ read_back l behind (λ i m. byte_small t i)

  -- the first line is not refused, so it has five bytes
  head_count : length l ≡ 5
  unfolding refusal head_refusal
  head_count = go (refusal nothing l) refl
    where
      go : (k : ℕ) → refusal nothing l ≡ k → length l ≡ 5
      go zero q =
          let z = cond_zero (eqb (byte l 0) 0x47) (head_refusal l) 2 q in
          eqb-true (length l) 5 (demand_zero (eqb (length l) 5) 3 _ z.1).0
      go (suc k) q =
          let stopped = read_stop nothing 1 l (lines behind) (suc k) (sym q) (λ z. omega arith) in
          absurd (accepted_not_refused (sym by_lines ∙ ap (read_lines nothing 1) text_lines ∙ stopped))

  own : Headed t
  own = go (five l head_count)
    where
      go : (k : ℕ) × (q : ℕ) × (st : ℕ) × (x : ℕ) × (y : ℕ) × (l ≡ k ∷ q ∷ st ∷ x ∷ y ∷ []) → Headed t
      go (k, q, st, x, y, is) = record {
        around = record { kind = k; q = q; start = st; rest = behind };
        x = x;
        y = y;
        text_is = first_line t formed ∙ ap (λ (bs : List ℕ). line_text bs ++ behind) is;
        small = subst (Every (λ (b : ℕ). b < 256)) is (subst (Every (Every (λ (b : ℕ). b < 256))) text_lines (lines_small t)).0;
      }

  own_lines : lines t ≡ head own.around own.x own.y ∷ lines own.around.rest
  own_lines = ap lines own.text_is ∙ headed_lines own.around own.x own.y own.small

  own_outside : but_multiplier (lines t) ≡ outside own.around
  own_outside = ap but_multiplier own_lines

-- ---- two accepted texts that are the same but for a's field

-- they mean sheets that are the same but for a, and have the same timing
pub meanings_alike : (t u : List ℕ) (m m' : TimedSheet) → read_sheet t ≡ accepted m → read_sheet u ≡ accepted m'
    → AlikeTexts t u → accepted m' ≡ meaning_with m'.sheet.grammar.multiplier (accepted m)
meanings_alike t u m m' e f alike = means ∙ ap (λ (n : ℕ). meaning_with n (accepted m)) (sym own_number)
  where
    h : Headed t
    h = own t m e

    k : Headed u
    k = own u m' f

    number : ℕ
    number = k.x * 256 + k.y

    same : outside k.around ≡ outside h.around
    same = sym (own_outside u m' f) ∙ sym alike ∙ own_outside t m e

    -- the lines of u are those of t with u's field
    lines_moved : lines u ≡ head h.around k.x k.y ∷ lines h.around.rest
    lines_moved =
        own_lines u m' f
        ∙ ap₂ ◌∷◌ (ap (λ (front : List ℕ). front ++ (k.x ∷ k.y ∷ [])) (head-eq_of_cons-eq same)) (tail-eq_of_cons-eq same)

    means : accepted m' ≡ meaning_with number (accepted m)
    means =
        sym (by_lines u m' f) ∙ ap (read_lines nothing 1) lines_moved
        ∙ same_head h.around h.x h.y k.x k.y (lines h.around.rest)
        ∙ ap (λ (ls : List (List ℕ)). meaning_with number (read_lines nothing 1 ls)) (sym (own_lines t m e))
        ∙ ap (meaning_with number) (by_lines t m e)

    own_number : m'.sheet.grammar.multiplier ≡ number
    own_number = ap (λ (x : TimedSheet). x.sheet.grammar.multiplier) (accepted_value means)

pub texts_alike : (t u : List ℕ) (s s' : Sheet) → Accepts t s → Accepts u s' → AlikeTexts t u
    → s' ≡ with_multiplier s'.grammar.multiplier s
texts_alike t u s s' (timing, e) (timing', f) alike =
    ap (λ (x : TimedSheet). x.sheet) (accepted_value (meanings_alike t u _ _ e f alike))

-- texts that differ only in the digits of a are so
pub digits_alike : (t u : List ℕ) (s s' : Sheet) → Accepts t s → Accepts u s'
    → take 6 t ≡ take 6 u → drop 10 t ≡ drop 10 u → AlikeTexts t u
unfolding line_text pairs_of
digits_alike t u s s' (timing, e) (timing', f) before behind =
    own_outside t _ e ∙ ap₂ ◌∷◌ same_front (ap lines (tail-eq_of_cons-eq rests)) ∙ sym (own_outside u _ f)
  where
    h : Headed t
    h = own t _ e

    k : Headed u
    k = own u _ f

    front : Around → List ℕ
    front c = c.kind ∷ c.q ∷ c.start ∷ []

    digits : pairs_of (front h.around) ≡ pairs_of (front k.around)
    digits = ap (take 6) (sym h.text_is) ∙ before ∙ ap (take 6) k.text_is

    rests : 10 ∷ h.around.rest ≡ 10 ∷ k.around.rest
    rests = ap (drop 10) (sym h.text_is) ∙ behind ∙ ap (drop 10) k.text_is

    -- the digits, closed as a line, are read as the bytes
    one_line : {v : List ℕ} (w : Headed v) → lines (line_text (front w.around) ++ []) ≡ front w.around ∷ lines []
    one_line w =
        let b = w.small in
        let small : Every (λ (n : ℕ). n < 256) (front w.around) = (b.0, (b.1.0, (b.1.1.0, tt))) in
        read_back (front w.around) [] (λ i m. every_at (λ (n : ℕ). n < 256) (front w.around) i 0 small (omega arith))

    same_front : front h.around ≡ front k.around
    same_front =
        head-eq_of_cons-eq (sym (one_line h) ∙ ap (λ (ds : List ℕ). lines ((ds ++ (10 ∷ [])) ++ [])) digits ∙ one_line k)

-- ---- every accepted text has such a text for each a

pub slid_accepted : (t : List ℕ) (s : Sheet) (a : ℕ) → Accepts t s → a ≤ 65535 → Accepts (slid a t) (with_multiplier a s)
unfolding slid line_text
slid_accepted t s a (timing, e) most = (timing, means)
  where
    h : Headed t
    h = own t _ e

    number : a / 256 * 256 + a % 256 ≡ a
    number = div-add-mod' a 256

    small : Small h.around (a / 256) (a % 256)
    small = small_with h.around h.x h.y (a / 256) (a % 256) h.small (omega (arith, number)) (mod-lt a (omega arith))

    means : read_sheet (slid a t) ≡ accepted (record { sheet = with_multiplier a s; timing = timing })
    means =
        ap (λ (v : List ℕ). read_sheet (slid a v)) h.text_is
        ∙ headed_alike h.around h.x h.y (a / 256) (a % 256) h.small small
        ∙ ap (λ (n : ℕ). meaning_with n (read_sheet (headed h.around h.x h.y))) number
        ∙ ap (λ (v : List ℕ). meaning_with a (read_sheet v)) (sym h.text_is) ∙ ap (meaning_with a) e

-- it is the same but for a's field
pub slid_alike : (t : List ℕ) (s : Sheet) (a : ℕ) → Accepts t s → a ≤ 65535 → AlikeTexts t (slid a t)
unfolding slid line_text
slid_alike t s a p most = digits_alike t (slid a t) s (with_multiplier a s) p (slid_accepted t s a p most) before behind
  where
    h : Headed t
    h = own t _ p.1

    before : take 6 t ≡ take 6 (slid a t)
    before = ap (take 6) h.text_is ∙ ap (λ (v : List ℕ). take 6 (slid a v)) (sym h.text_is)

    behind : drop 10 t ≡ drop 10 (slid a t)
    behind = ap (drop 10) h.text_is ∙ ap (λ (v : List ℕ). drop 10 (slid a v)) (sym h.text_is)
