-- Steps of writing bytes as a line into a slice: what holds where some of them have been written, how one more keeps it, and that it gives
-- `LineWritten` where the line is closed.
use Prim.Native.Nat.{ℕ, ◌+◌, ◌*◌, ◌/◌, ◌%◌, ◌<◌, ◌≤◌}
use mathlib.Core.Path.{◌≡◌, refl, sym, ap, ◌∙◌}
use mathlib.Core.Bool.{true, false}
use mathlib.Core.List.{List, [], ◌∷◌, ◌++◌, append_assoc}
use native.Mathlib.Numerals.{add-one}
use native.Mathlib.Omega.{arith}
use lib.ListN.{length, take, get_or, set, length-append, length-set}
use lib.Seq.{take-suc, take_all, length-take-le}
use borrow.Author.Tests.{le-leb, lt-leb}
use Rattle.slices.specs.Over.{over_from, over_from_nil, over_from_more}
use Rattle.hextext.specs.Written.{digit_of, pairs_of, line_text, has_room, LineWritten}
use Rattle.hextext.specs.WrittenLaws.{pairs_append, length_pairs, length-line}

-- the pairs of the first i bytes stand in the slice from place `at` on, in front of place k, and there is room for the whole line
pub record Wrote (bytes : List ℕ) (at : ℕ) (out₀ out : List ℕ) (k i : ℕ) : Type 0 where
  pub within : i ≤ length bytes
  pub place : k ≡ at + 2 * i
  pub room : at + 2 * length bytes < length out₀
  pub size : length out ≡ length out₀
  pub text : out ≡ over_from at (pairs_of (take i bytes)) out₀

-- one cell more
put : (at : ℕ) (ps xs ys : List ℕ) (k b : ℕ) → ys ≡ over_from at ps xs → k ≡ at + length ps → k < length xs
    → set ys k b ≡ over_from at (ps ++ (b ∷ [])) xs
put at ps xs ys k b e q h = rw (e, q) (over_from_more at ps xs b (omega arith))

-- the pairs of one byte more
pairs_more : (bs : List ℕ) (i h l : ℕ) → i < length bs → h ≡ digit_of (get_or bs i 0 / 16) → l ≡ digit_of (get_or bs i 0 % 16)
    → pairs_of (take i bs) ++ (h ∷ []) ++ (l ∷ []) ≡ pairs_of (take (i + 1) bs)
unfolding pairs_of
pairs_more bs i h l lt p q =
    let b = get_or bs i 0 in
    rw (p, q, add-one, take-suc bs i 0, pairs_append)
    (append_assoc (pairs_of (take i bs)) (digit_of (b / 16) ∷ []) (digit_of (b % 16) ∷ []))

module _ (bytes : List ℕ) (at : ℕ) (out₀ : List ℕ) where
  -- nothing has been written
  pub wrote_none : at + 2 * length bytes < length out₀ → Wrote bytes at out₀ out₀ at 0
  unfolding pairs_of
  wrote_none h = record { within = omega arith; place = omega arith; room = h; size = refl; text = sym (over_from_nil at out₀) }

  -- there is no room for the line
  pub no_room_lem : length out₀ ≤ at + 2 * length bytes → LineWritten bytes at out₀ out₀ at
  unfolding has_room
  no_room_lem h =
      let e : has_room bytes at out₀ ≡ false =
      lt-leb (at + length (line_text bytes)) (length out₀) (omega (arith, length-line bytes)) in
      record { text = rw e; end = rw e }

module _ {bytes : List ℕ} {at : ℕ} {out₀ out : List ℕ} {k i : ℕ} (w : Wrote bytes at out₀ out k i) where
  length_front : length (pairs_of (take i bytes)) ≡ 2 * i
  length_front = length_pairs (take i bytes) ∙ ap (λ (n : ℕ). 2 * n) (length-take-le i bytes w.within)

  -- one byte more
  pub wrote_more : (h l : ℕ) → i < length bytes → h ≡ digit_of (get_or bytes i 0 / 16) → l ≡ digit_of (get_or bytes i 0 % 16)
      → Wrote bytes at out₀ (set (set out k h) (k + 1) l) (k + 2) (i + 1)
  wrote_more h l lt p q =
      let n = length_front in
      let ps = pairs_of (take i bytes) in
      let high : set out k h ≡ over_from at (ps ++ (h ∷ [])) out₀ =
      put at ps out₀ out k h w.text (omega arith) (omega arith) in
      let m : length (ps ++ (h ∷ [])) ≡ 2 * i + 1 = length-append ps (h ∷ []) ∙ ap (λ (x : ℕ). x + 1) n in
      record {
        within = omega arith;
        place = omega arith;
        room = w.room;
        size = length-set (set out k h) (k + 1) l ∙ length-set out k h ∙ w.size;
        text =
            put at (ps ++ (h ∷ [])) out₀ (set out k h) (k + 1) l high (omega arith) (omega arith)
            ∙ ap (λ (t : List ℕ). over_from at t out₀) (pairs_more bytes i h l lt p q);
      }

  -- all bytes have been written, and the 0A
  pub wrote_line : length bytes ≤ i → LineWritten bytes at out₀ (set out k 10) (k + 1)
  unfolding has_room line_text
  wrote_line h =
      let e : has_room bytes at out₀ ≡ true =
      le-leb (at + length (line_text bytes)) (length out₀) (omega (arith, length-line bytes)) in
      let n = length_front in
      let all : pairs_of (take i bytes) ≡ pairs_of bytes = ap pairs_of (take_all i bytes h) in
      record {
        text = rw e
            (put at (pairs_of (take i bytes)) out₀ out k 10 w.text (omega arith) (omega arith)
            ∙ ap (λ (t : List ℕ). over_from at (t ++ (10 ∷ [])) out₀) all);
        end = rw e (omega (arith, length-line bytes));
      }
