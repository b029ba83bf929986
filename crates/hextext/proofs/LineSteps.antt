-- Steps of reading the line that starts at a place of a text: what holds where some of its bytes have been read, how a pair keeps it, and
-- that it gives `NextLine` where the line ends.
use Prim.Native.Nat.{ℕ, ◌+◌, ◌*◌, ◌<◌, ◌≤◌}
use mathlib.Core.Path.{◌≡◌, refl, sym, ap, ◌∙◌}
use mathlib.Core.List.{List, [], ◌∷◌, ◌++◌, append_assoc, append-nil}
use native.Mathlib.Nat.{add-zero}
use native.Mathlib.Omega.{arith}
use lib.ListN.{length, drop, get_or, set, length-append, drop_of_length-le}
use Rattle.slices.specs.Over.{over, over_nil, over_more, over_full, length-over}
use Rattle.slices.specs.Lookup.{drop-step}
use Rattle.hextext.specs.Text.{pair, line_bytes, line_size, NextLine}
use Rattle.hextext.specs.Laws.{bytes_closed, size_closed, bytes_pair, size_pair}

-- the two bytes at a place, and the text behind them
pub two_steps : (t : List ℕ) (i : ℕ) → i + 1 < length t → drop i t ≡ get_or t i 0 ∷ get_or t (i + 1) 0 ∷ drop (i + 1 + 1) t
two_steps t i h = drop-step t i (omega arith) ∙ ap (λ (l : List ℕ). get_or t i 0 ∷ l) (drop-step t (i + 1) h)

-- of the line that starts at `at`, the bytes bs in front of place i have been read
pub record Ahead (text : List ℕ) (at : ℕ) (bs : List ℕ) (i : ℕ) : Type 0 where
  pub place : i ≡ at + 2 * length bs
  pub bytes : line_bytes (drop at text) ≡ bs ++ line_bytes (drop i text)
  pub size : at + line_size (drop at text) ≡ i + line_size (drop i text)

-- none
pub ahead_none : (text : List ℕ) (at : ℕ) → Ahead text at [] at
ahead_none text at = record { place = omega arith; bytes = refl; size = refl }

module _ {text : List ℕ} {at : ℕ} {bs : List ℕ} {i : ℕ} (a : Ahead text at bs i) where
  -- no byte is left
  pub ahead_all : line_bytes (drop i text) ≡ [] → line_bytes (drop at text) ≡ bs
  ahead_all none = a.bytes ∙ ap (λ (l : List ℕ). bs ++ l) none ∙ append-nil bs

  -- a pair is next
  pub ahead_pair : i + 1 < length text → (get_or text i 0 ≡ 10 → ⊥) → (b : ℕ) → b ≡ pair (get_or text i 0) (get_or text (i + 1) 0)
      → Ahead text at (bs ++ (b ∷ [])) (i + 1 + 1)
  ahead_pair h e b is =
      let rest = drop (i + 1 + 1) text in
      let next : line_bytes (drop i text) ≡ b ∷ line_bytes rest =
      ap line_bytes (two_steps text i h) ∙ bytes_pair _ _ rest e ∙ ap (λ (x : ℕ). x ∷ line_bytes rest) (sym is) in
      let s : line_size (drop i text) ≡ 2 + line_size rest = ap line_size (two_steps text i h) ∙ size_pair _ _ rest e in
      let one = length-append bs (b ∷ []) in
      let p = a.place in
      record {
        place = omega arith;
        bytes = a.bytes ∙ ap (λ (l : List ℕ). bs ++ l) next ∙ sym (append_assoc bs (b ∷ []) (line_bytes rest));
        size = a.size ∙ omega arith;
      }

-- the same, and the bytes stand over the slice line₀
pub record Read (text : List ℕ) (at : ℕ) (line₀ line : List ℕ) (count i : ℕ) : Type 0 where
  pub front : List ℕ
  pub counted : length front ≡ count
  pub ahead : Ahead text at front i
  pub held : line ≡ over front line₀

-- nothing has been read
pub read_none : (text : List ℕ) (at : ℕ) (line₀ : List ℕ) → Read text at line₀ line₀ 0 at
read_none text at line₀ = record { front = []; counted = refl; ahead = ahead_none text at; held = sym (over_nil line₀) }

-- some of the line has been read
module _ {text : List ℕ} {at : ℕ} {line₀ line : List ℕ} {count i : ℕ} (r : Read text at line₀ line count i) where
  -- the slice keeps its length
  pub read_length : length line ≡ length line₀
  read_length = ap length r.held ∙ length-over r.front line₀

  -- no byte is left
  ended : {next : ℕ} → line_bytes (drop i text) ≡ [] → i + line_size (drop i text) ≡ next
      → NextLine text at line₀ line (record { count = count; next = next })
  ended none s =
      let whole = ahead_all r.ahead none in
      record {
        count = sym r.counted ∙ ap length (sym whole);
        next = sym s ∙ sym r.ahead.size;
        bytes = r.held ∙ ap (λ (l : List ℕ). over l line₀) (sym whole);
      }

  -- the line ends by its 0A
  pub ended_0_a : i < length text → get_or text i 0 ≡ 10 → NextLine text at line₀ line (record { count = count; next = i + 1 })
  ended_0_a h e =
      let here = drop-step text i h in
      ended (ap line_bytes here ∙ bytes_closed _ e _) (ap (λ (k : ℕ). i + k) (ap line_size here ∙ size_closed _ e _))

  -- by a last byte that is no pair
  pub ended_last : i + 1 ≡ length text → NextLine text at line₀ line (record { count = count; next = i + 1 })
  unfolding line_bytes line_size
  ended_last h =
      let here : drop i text ≡ get_or text i 0 ∷ [] =
      rw (drop-step text i (omega arith), drop_of_length-le text {i = i + 1} (omega arith)) in
      ended (ap line_bytes here) (ap (λ (l : List ℕ). i + line_size l) here)

  -- by the end of the text
  pub ended_past : length text ≤ i → NextLine text at line₀ line (record { count = count; next = i })
  unfolding line_bytes line_size
  ended_past h =
      let here : drop i text ≡ [] = drop_of_length-le text h in
      ended (ap line_bytes here) (ap (λ (l : List ℕ). i + line_size l) here ∙ add-zero i)

  -- a pair is next
  module _ (h : i + 1 < length text) (e : get_or text i 0 ≡ 10 → ⊥)
      (b : ℕ) (is : b ≡ pair (get_or text i 0) (get_or text (i + 1) 0)) where
    read_pair : (line₁ : List ℕ) → line₁ ≡ over (r.front ++ (b ∷ [])) line₀
        → Read text at line₀ line₁ (count + 1) (i + 1 + 1)
    read_pair line₁ w =
        record {
          front = r.front ++ (b ∷ []);
          counted = simp length-append (omega arith);
          ahead = ahead_pair r.ahead h e b is;
          held = w;
        }

    -- with a cell for its byte
    pub read_written : count < length line → Read text at line₀ (set line count b) (count + 1) (i + 1 + 1)
    read_written k =
        read_pair (set line count b) (rw (r.held, ← r.counted) (over_more r.front line₀ b (omega (arith, read_length))))

    -- with none
    pub read_dropped : length line ≤ count → Read text at line₀ line (count + 1) (i + 1 + 1)
    read_dropped k = read_pair line (r.held ∙ over_full r.front line₀ b (omega (arith, read_length)))
