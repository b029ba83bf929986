-- The bytes of score lines, put into an array field by field.
use Prim.Native.Nat.{ℕ, zero, suc, ◌+◌, ◌≤◌, ◌<◌}
use mathlib.Core.Path.{◌≡◌, refl, sym, ap, ◌∙◌}
use mathlib.Core.List.{List, [], ◌∷◌, ◌++◌, append_assoc}
use native.Mathlib.Omega.{arith}
use lib.ListN.{length, take, drop, set, replicate, length-append, length-drop}
use lib.Seq.{length-take-le}
use Rattle.slices.specs.Over.{over_from, over-drop}
use borrow.Rule.Slice.PartMut.{put_mid}
use Rattle.slices.specs.Pad.{pad, length-pad, pad_nil, pad_more, pad_over, pad_whole}
use Rattle.hextext.specs.Fields.{big_endian, length-big_endian}
use Rattle.score.specs.Score.{head_line, leaf_front, leaf_line}
use Rattle.score.specs.ScoreLaws.{leaf_front_bytes}
use Rattle.score.specs.Clauses.{LineHeld}

-- ---- fields one behind the other

put_first : (n a : ℕ) → 0 < n → set (replicate n 0) 0 a ≡ pad n 0 (a ∷ [])
put_first n a h = pad_more n 0 [] (replicate n 0) 0 a (pad_nil n 0) refl h

put_two : (n a b : ℕ) → 1 < n → set (set (replicate n 0) 0 a) 1 b ≡ pad n 0 (a ∷ b ∷ [])
put_two n a b h = pad_more n 0 (a ∷ []) (set (replicate n 0) 0 a) 1 b (put_first n a (omega arith)) refl h

-- a number of `count` bytes behind k bytes
put_number : (n : ℕ) (l xs ys : List ℕ) (k count x : ℕ) → xs ≡ pad n 0 l → length l ≡ k → k ≤ n → ys ≡ over_from k (big_endian count x) xs
    → (ys ≡ pad n 0 (l ++ big_endian count x)) × (length (l ++ big_endian count x) ≡ k + count)
put_number n l xs ys k count x e s h f =
    (f ∙ pad_over n 0 l xs k (big_endian count x) e s h, omega (arith, length-append l (big_endian count x), length-big_endian count x))

-- the head
pub head_made : (bars total R D : ℕ) (a b c : List ℕ)
    → a ≡ over_from 2 (big_endian 8 total) (set (set (replicate 26 0) 0 0x54) 1 bars) → b ≡ over_from 10 (big_endian 8 R) a
    → c ≡ over_from 18 (big_endian 8 D) b → c ≡ head_line bars total R D
unfolding head_line
head_made bars total R D a b c ea eb ec = go (put_number 26 front _ a 2 8 total (put_two 26 0x54 bars (omega arith)) refl (omega arith) ea)
  where
    front : List ℕ
    front = 0x54 ∷ bars ∷ []

    t : List ℕ
    t = big_endian 8 total

    w : List ℕ
    w = big_endian 8 R

    d : List ℕ
    d = big_endian 8 D

    last : (c ≡ pad 26 0 (((front ++ t) ++ w) ++ d)) × (length (((front ++ t) ++ w) ++ d) ≡ 26) → c ≡ head_line bars total R D
    last (e, s) = e ∙ pad_whole 26 0 (((front ++ t) ++ w) ++ d) s ∙ simp append_assoc

    more : (b ≡ pad 26 0 ((front ++ t) ++ w)) × (length ((front ++ t) ++ w) ≡ 18) → c ≡ head_line bars total R D
    more (e, s) = last (put_number 26 ((front ++ t) ++ w) b c 18 8 D e s (omega arith) ec)

    go : (a ≡ pad 26 0 (front ++ t)) × (length (front ++ t) ≡ 10) → c ≡ head_line bars total R D
    go (e, s) = more (put_number 26 (front ++ t) a b 10 8 R e s (omega arith) eb)

-- ---- a leaf's line

module _ (left len n : ℕ) where
  pub front_made : (placed : ℕ) (line x y : List ℕ) → line ≡ replicate 44 0 → x ≡ over_from 1 (big_endian 4 left) (set line 0 0x53)
      → y ≡ over_from 5 (big_endian 2 len) x → set (set y 7 n) 8 placed ≡ pad 44 0 (leaf_front left len n placed)
  unfolding leaf_front
  front_made placed line x y z ex ey =
      go (put_number 44 kind _ x 1 4 left (ap (λ xs. set xs 0 0x53) z ∙ put_first 44 0x53 (omega arith)) refl (omega arith) ex)
    where
      kind : List ℕ
      kind = 0x53 ∷ []

      l : List ℕ
      l = big_endian 4 left

      k : List ℕ
      k = big_endian 2 len

      last : (y ≡ pad 44 0 ((kind ++ l) ++ k)) × (length ((kind ++ l) ++ k) ≡ 7)
          → set (set y 7 n) 8 placed ≡ pad 44 0 (leaf_front left len n placed)
      last (e, s) =
          let b = (kind ++ l) ++ k in
          let size : length (b ++ (n ∷ [])) ≡ 8 = omega (arith, length-append b (n ∷ [])) in
          pad_more 44 0 (b ++ (n ∷ [])) (set y 7 n) 8 placed (pad_more 44 0 b y 7 n e s (omega arith)) size (omega arith)
          ∙ ap (pad 44 0) (simp append_assoc)

      go : (x ≡ pad 44 0 (kind ++ l)) × (length (kind ++ l) ≡ 5) → set (set y 7 n) 8 placed ≡ pad 44 0 (leaf_front left len n placed)
      go (e, s) = last (put_number 44 (kind ++ l) x y 5 2 len e s (omega arith) ey)

-- the bytes before place n, then bs, then the bytes behind them
over_mid : (n : ℕ) (bs xs : List ℕ) → n + length bs ≤ length xs → take n xs ++ (bs ++ drop (length bs) (drop n xs)) ≡ over_from n bs xs
unfolding over_from
over_mid zero bs xs h = sym (over-drop bs xs (omega arith))
over_mid (suc n) bs [] h = absurd (omega arith)
over_mid (suc n) bs (x ∷ xs) h = ap (λ l. x ∷ l) (over_mid n bs xs (omega arith))

-- the pitches, copied behind the nine bytes
pub pitched : (left len n placed first k m : ℕ) (pitches bytes row : List ℕ) → placed ≤ 35 → first + placed ≤ length pitches
    → bytes ≡ pad 44 0 (leaf_front left len n placed) → k ≡ placed → m ≡ placed → row ≡ take m (drop first pitches)
    → LineHeld (leaf_line (record { left = left; len = len; n = n; pitches = take placed (drop first pitches) })) (9 + placed)
    (put_mid 9 k bytes row)
unfolding leaf_line
pitched left len n placed first k m pitches bytes row few within e ek em er =
    let nine = leaf_front_bytes left len n placed in
    let room : length bytes ≡ 44 = ap length e ∙ length-pad 44 0 _ in
    let here : row ≡ take placed (drop first pitches) = er ∙ ap (λ i. take i (drop first pitches)) em in
    let size : length row ≡ placed =
    ap length here ∙ length-take-le placed (drop first pitches) (omega (arith, length-drop first pitches)) in
    let all : leaf_front left len n (length row) ++ row
    ≡ leaf_line (record { left = left; len = len; n = n; pitches = take placed (drop first pitches) }) =
    ap (λ xs. leaf_front left len n (length xs) ++ xs) here in
    let whole : leaf_front left len n placed ++ row ≡ leaf_front left len n (length row) ++ row =
    ap (λ i. leaf_front left len n i ++ row) (sym size) in
    record {
      size = omega (arith, nine, length-append (leaf_front left len n placed) row, ap length whole, ap length all);
      cells =
          ap (λ i. take 9 bytes ++ (row ++ drop i (drop 9 bytes))) (ek ∙ sym size) ∙ over_mid 9 row bytes (omega arith)
          ∙ pad_over 44 0 (leaf_front left len n placed) bytes 9 row e nine (omega arith) ∙ ap (pad 44 0) (whole ∙ all);
    }
