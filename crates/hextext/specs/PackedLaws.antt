-- Laws of a line packed into numbers: one byte more, and each byte of the first eight and of the last eight. Assumes nothing.
use Rattle.std.specs.Prelude.{ℕ, zero, suc, ◌+◌, ◌*◌, ◌-◌, ◌/◌, ◌%◌, ◌^◌, ◌<◌, ◌≤◌, ◌≡◌, Bool, cond, Some, None, List, [], ◌∷◌, ◌++◌, take}
use Rattle.std.specs.Prelude.{drop, get_or, eqb, ltb}
use Rattle.std.proofs.Math.Path.{refl, sym, ap}
use Rattle.std.proofs.Common.{◌∙◌, arith, length-append, drop_of_length-le, length-take-le, get_or-take, take_at, shr-shr, eq-eqb, ne_eqb}
use Rattle.std.proofs.Common.{lt-ltb, le-ltb}
use Rattle.std.proofs.Math.Bool.{true, false}
use Rattle.std.proofs.lemmas.Bool.{false≢true}
use Rattle.std.proofs.Math.Decide.{ℕ_discrete, dec_lt}
use Rattle.std.proofs.Math.ListN.{length}
use Rattle.std.proofs.lemmas.List.{take-append-le}
use Rattle.slices.specs.Every.{Every}
use Rattle.hextext.specs.declared.line.Line.{Line}
use Rattle.hextext.specs.Text.{line_bytes, line_size}
use Rattle.hextext.specs.Packed.{formed_from, formed, with_byte, tail_from, tail_of, front_of, packed, no_line, or_none, line_read, line_if}
use Rattle.hextext.specs.Laws.{bytes_pair}
use Rattle.hextext.specs.OnePass.{form_close}

-- ---- one byte more

-- in the number of the last eight
tail_more : (x : ℕ) (bs : List ℕ) (b : ℕ) → tail_from x (bs ++ (b ∷ [])) ≡ with_byte (tail_from x bs) b
unfolding tail_from
tail_more x [] b = refl
tail_more x (c ∷ bs) b = tail_more (with_byte x c) bs b

-- ---- the bytes of a number

-- the byte at place j from the end
abbrev pub byte_back : (x j : ℕ) → ℕ
byte_back x j = x / 2 ^ (8 * j) % 256

-- what stands before the last k bytes of it
before_last : (x j k : ℕ) → x / 2 ^ (8 * j) / 2 ^ (8 * k) ≡ x / 2 ^ (8 * (j + k))
before_last x j k = let e : 8 * j + 8 * k ≡ 8 * (j + k) = omega arith in shr-shr x (8 * j) (8 * k) ∙ ap (λ (n : ℕ). x / 2 ^ n) e

-- a number of two bytes, and of four
two_bytes : (y : ℕ) → y % 65536 ≡ y / 256 % 256 * 256 + y % 256
two_bytes y = omega arith

four_bytes : (y : ℕ) → y % 4294967296 ≡ y / 65536 % 65536 * 65536 + y % 65536
four_bytes y = omega arith

-- four bytes of a number, of which the last is at place j from the end
four_back : (x j : ℕ)
    → x / 2 ^ (8 * j) % 4294967296
    ≡ (byte_back x (j + 3) * 256 + byte_back x (j + 2)) * 65536 + (byte_back x (j + 1) * 256 + byte_back x j)
four_back x j =
    let y = x / 2 ^ (8 * j) in
    let high : y / 65536 / 256 ≡ y / 16777216 = shr-shr y 16 8 in
    four_bytes y
    ∙ (λ i.
    (two_bytes (y / 65536) ∙ (λ k. (high ∙ before_last x j 3) k % 256 * 256 + before_last x j 2 k % 256)) i * 65536
    + (two_bytes y ∙ (λ k. before_last x j 1 k % 256 * 256 + y % 256)) i)

-- a byte more moves each of the others by one place, up to the eighth
shifted : (x b j : ℕ) → b < 256 → j < 7 → byte_back (with_byte x b) (suc j) ≡ byte_back x j
shifted x b zero h k = omega arith
shifted x b (suc zero) h k = omega arith
shifted x b (suc (suc zero)) h k = omega arith
shifted x b (suc (suc (suc zero))) h k = omega arith
shifted x b (suc (suc (suc (suc zero)))) h k = omega arith
shifted x b (suc (suc (suc (suc (suc zero))))) h k = omega arith
shifted x b (suc (suc (suc (suc (suc (suc zero)))))) h k = omega arith
shifted x b (suc (suc (suc (suc (suc (suc (suc j))))))) h k = let f : ⊥ = omega arith in absurd f

-- of a number behind which some bytes stand, those that are left of the eight
tail_past : (x : ℕ) (bs : List ℕ) (j : ℕ) → Every (λ (b : ℕ). b < 256) bs → length bs ≤ j → j < 8
    → byte_back (tail_from x bs) j ≡ byte_back x (j - length bs)
unfolding tail_from
tail_past x [] j s h k = ap (byte_back x) (omega arith)
tail_past x (b ∷ bs) j s h k =
    let more = with_byte x b in
    let e : j - length bs ≡ suc (j - suc (length bs)) = omega arith in
    tail_past more bs j s.1 (omega arith) k ∙ ap (byte_back more) e ∙ shifted x b (j - suc (length bs)) s.0 (omega arith)

-- and the bytes themselves
tail_byte : (x : ℕ) (bs : List ℕ) (j : ℕ) → Every (λ (b : ℕ). b < 256) bs → j < length bs → j < 8
    → byte_back (tail_from x bs) j ≡ get_or bs (length bs - suc j) 0
unfolding tail_from
tail_byte x [] j s h k = let f : ⊥ = omega arith in absurd f
tail_byte x (b ∷ bs) j s h k = go (dec_lt j (length bs)) (tail_byte more bs j s.1)
  where
    more : ℕ
    more = with_byte x b

    go : Dec (j < length bs) → (j < length bs → j < 8 → byte_back (tail_from more bs) j ≡ get_or bs (length bs - suc j) 0)
        → byte_back (tail_from more bs) j ≡ get_or (b ∷ bs) (suc (length bs) - suc j) 0
    go (yes l) behind =
        let e : suc (length bs) - suc j ≡ suc (length bs - suc j) = omega arith in
        behind l k ∙ ap (λ (i : ℕ). get_or (b ∷ bs) i 0) (sym e)
    go (no l) behind =
        let e : suc (length bs) - suc j ≡ 0 = omega arith in
        let z : j - length bs ≡ 0 = omega arith in
        let low : byte_back more 0 ≡ b = omega (arith, s.0) in
        tail_past more bs j s.1 (omega arith) k ∙ ap (byte_back more) z ∙ low ∙ ap (λ (i : ℕ). get_or (b ∷ bs) i 0) (sym e)

-- byte i of a line, one of its last eight
pub tail_at : (bs : List ℕ) (i : ℕ) → Every (λ (b : ℕ). b < 256) bs → i < length bs → length bs ≤ i + 8
    → byte_back (tail_of bs) (length bs - i - 1) ≡ get_or bs i 0
tail_at bs i s h k =
    let e : length bs - suc (length bs - i - 1) ≡ i = omega arith in
    tail_byte 0 bs (length bs - i - 1) s (omega arith) (omega arith) ∙ ap (λ (m : ℕ). get_or bs m 0) e

-- four bytes from byte i on, of a line of at most eight
pub tail_four : (bs : List ℕ) (i : ℕ) → Every (λ (b : ℕ). b < 256) bs → i + 4 ≤ length bs → length bs ≤ 8
    → tail_of bs / 2 ^ (8 * (length bs - i - 4)) % 4294967296
    ≡ (get_or bs i 0 * 256 + get_or bs (i + 1) 0) * 65536 + (get_or bs (i + 2) 0 * 256 + get_or bs (i + 2 + 1) 0)
tail_four bs i s h k =
    let j = length bs - i - 4 in
    let at : (m n : ℕ) → m < length bs → j + n ≡ length bs - m - 1 → byte_back (tail_of bs) (j + n) ≡ get_or bs m 0 =
    λ m n l e. ap (byte_back (tail_of bs)) e ∙ tail_at bs m s l (omega arith) in
    let last : j ≡ length bs - (i + 2 + 1) - 1 = omega arith in
    four_back (tail_of bs) j
    ∙ (λ x.
    (at i 3 (omega arith) (omega arith) x * 256 + at (i + 1) 2 (omega arith) (omega arith) x) * 65536
    + (at (i + 2) 1 (omega arith) (omega arith) x * 256
    + (ap (byte_back (tail_of bs)) last ∙ tail_at bs (i + 2 + 1) s (omega arith) (omega arith)) x))

-- a line's first bytes are bytes
every_take : (P : ℕ → Type 0) (n : ℕ) (bs : List ℕ) → Every P bs → Every P (take n bs)
every_take P zero bs s = tt
every_take P (suc n) [] s = tt
every_take P (suc n) (b ∷ bs) s = (s.0, every_take P n bs s.1)

-- byte i of a line that has more than eight, one of its first eight
pub front_at : (bs : List ℕ) (i : ℕ) → Every (λ (b : ℕ). b < 256) bs → 8 < length bs → i < 8
    → byte_back (front_of bs) (7 - i) ≡ get_or bs i 0
unfolding front_of
front_at bs i s h k =
    let n : length (take 8 bs) ≡ 8 = length-take-le 8 bs (omega arith) in
    let e : length (take 8 bs) - i - 1 ≡ 7 - i = omega arith in
    rw (lt-ltb 8 (length bs) h)
    (ap (byte_back (tail_of (take 8 bs))) (sym e)
    ∙ tail_at (take 8 bs) i (every_take (λ (b : ℕ). b < 256) 8 bs s) (omega arith) (omega arith) ∙ get_or-take 8 bs i 0 k)

-- ---- a line with one byte more

-- its kind
kind_more : (bs : List ℕ) (b : ℕ) → get_or (bs ++ (b ∷ [])) 0 0 ≡ cond (eqb (length bs) 0) b (get_or bs 0 0)
kind_more [] b = refl
kind_more (c ∷ bs) b = rw (ne_eqb (length (c ∷ bs)) 0 (λ e. omega arith)) refl

-- its first eight bytes
front_more : (bs : List ℕ) (b : ℕ) → front_of (bs ++ (b ∷ [])) ≡ cond (eqb (length bs) 8) (tail_of bs) (front_of bs)
unfolding front_of
front_more bs b = go (ℕ_discrete (length bs) 8) (dec_lt 8 (length bs))
  where
    n : length (bs ++ (b ∷ [])) ≡ length bs + 1
    n = length-append bs (b ∷ [])

    go : Dec (length bs ≡ 8) → Dec (8 < length bs)
        → cond (ltb 8 (length (bs ++ (b ∷ [])))) (tail_of (take 8 (bs ++ (b ∷ [])))) 0
        ≡ cond (eqb (length bs) 8) (tail_of bs) (cond (ltb 8 (length bs)) (tail_of (take 8 bs)) 0)
    go (yes e) l =
        rw (lt-ltb 8 (length (bs ++ (b ∷ []))) (omega (arith, n)), eq-eqb (length bs) 8 e)
        (ap tail_of (take_at bs (b ∷ []) 8 e))
    go (no e) (yes l) =
        rw (lt-ltb 8 (length (bs ++ (b ∷ []))) (omega (arith, n)), ne_eqb (length bs) 8 e, lt-ltb 8 (length bs) l)
        (ap tail_of (take-append-le 8 bs (b ∷ []) (omega arith)))
    go (no e) (no l) =
        rw (le-ltb 8 (length (bs ++ (b ∷ []))) (omega (arith, n, e)), ne_eqb (length bs) 8 e, le-ltb 8 (length bs) (omega arith)) refl

-- the line
pub packed_more : (bs : List ℕ) (b : ℕ)
    → packed (bs ++ (b ∷ [])) 0
    ≡ record {
      kind = cond (eqb (length bs) 0) b (get_or bs 0 0);
      count = length bs + 1;
      front = cond (eqb (length bs) 8) (tail_of bs) (front_of bs);
      tail = with_byte (tail_of bs) b;
      next = 0;
    }
unfolding packed
packed_more bs b = λ j.
    record {
      kind = kind_more bs b j;
      count = length-append bs (b ∷ []) j;
      front = front_more bs b j;
      tail = tail_more 0 bs b j;
      next = 0;
    }

-- ---- the line that starts at a place

-- a line that is well formed has a byte
formed_some : (u : List ℕ) → formed u ≡ true → 0 < length (line_bytes u)
unfolding formed_from
formed_some [] e = absurd (false≢true e)
formed_some (h ∷ []) e = absurd (false≢true e)
formed_some (h ∷ l ∷ t) e = go (ℕ_discrete h 10)
  where
    go : Dec (h ≡ 10) → 0 < length (line_bytes (h ∷ l ∷ t))
    go (yes k) = absurd (false≢true (sym (form_close false h (l ∷ t) k) ∙ e))
    go (no f) = rw (bytes_pair h l t f) (omega arith)

-- so count 0 says that a line is bad, and any other that it is well formed, and which it is
module _ (t : List ℕ) (i : ℕ) where
  pub line_bad : (line_read t i).count ≡ 0 → formed (drop i t) ≡ false
  unfolding line_read packed
  line_bad e = go (formed (drop i t)) refl
    where
      go : (x : Bool) → formed (drop i t) ≡ x → x ≡ false
      go false z = refl
      go true z =
          let line = packed (line_bytes (drop i t)) (i + line_size (drop i t)) in
          let counted : length (line_bytes (drop i t)) ≡ 0 = sym (ap (λ (x : Bool). (or_none x line).count) z) ∙ e in
          let f : ⊥ = omega (arith, formed_some (drop i t) z) in absurd f

  pub line_good : ((line_read t i).count ≡ 0 → ⊥)
      → (formed (drop i t) ≡ true) × (line_read t i ≡ packed (line_bytes (drop i t)) (i + line_size (drop i t)))
  unfolding line_read
  line_good f = go (formed (drop i t)) refl
    where
      go : (x : Bool) → formed (drop i t) ≡ x
          → (formed (drop i t) ≡ true) × (line_read t i ≡ packed (line_bytes (drop i t)) (i + line_size (drop i t)))
      go true z = (z, ap (λ (x : Bool). or_none x (packed (line_bytes (drop i t)) (i + line_size (drop i t)))) z)
      go false z = absurd (f (ap (λ (x : Bool). (or_none x (packed (line_bytes (drop i t)) (i + line_size (drop i t)))).count) z))

-- the place behind it
pub line_next : (t : List ℕ) (i : ℕ) (l : Line) → l ≡ line_read t i → (l.count ≡ 0 → ⊥)
    → l.next ≡ i + line_size (drop i t)
unfolding packed
line_next t i l is filled =
    ap (λ (x : Line). x.next) (is ∙ (line_good t i (λ e. filled (ap (λ (x : Line). x.count) is ∙ e))).1)

-- past the end of the text there is none
pub line_none : (t : List ℕ) (i : ℕ) → length t ≤ i → line_read t i ≡ no_line
unfolding line_read formed_from
line_none t i h = rw (drop_of_length-le t {i = i} h) refl

-- ---- a line as it is answered

some_not_none : {l : Line} → Some l ≡ None → ⊥
some_not_none e = let f : false ≡ true = cc in false≢true f

-- some line is well formed, and the one that is read
pub line_if_some : {l m : Line} → Some l ≡ line_if m → (l ≡ m) × (l.count ≡ 0 → ⊥)
unfolding line_if
line_if_some {l} {m} e = go (ℕ_discrete m.count 0)
  where
    go : Dec (m.count ≡ 0) → (l ≡ m) × (l.count ≡ 0 → ⊥)
    go (yes z) = absurd (some_not_none (e ∙ ap (λ t. cond t None (Some m)) (eq-eqb m.count 0 z)))
    go (no f) =
        let s : Some l ≡ Some m = e ∙ ap (λ t. cond t None (Some m)) (ne_eqb m.count 0 f) in
        let is : l ≡ m = cc in
        (is, λ z. f (ap (λ (x : Line). x.count) (sym is) ∙ z))

-- none has no byte
pub line_if_none : (m : Line) → None ≡ line_if m → m.count ≡ 0
unfolding line_if
line_if_none m e = go (ℕ_discrete m.count 0)
  where
    go : Dec (m.count ≡ 0) → m.count ≡ 0
    go (yes z) = z
    go (no f) = absurd (some_not_none (sym (e ∙ ap (λ t. cond t None (Some m)) (ne_eqb m.count 0 f))))

-- and back
pub line_if_is : {m : Line} → (m.count ≡ 0 → ⊥) → Some m ≡ line_if m
unfolding line_if
line_if_is {m} f = ap (λ t. cond t None (Some m)) (sym (ne_eqb m.count 0 f))

pub line_if_not : (m : Line) → m.count ≡ 0 → None ≡ line_if m
unfolding line_if
line_if_not m z = ap (λ t. cond t None (Some m)) (sym (eq-eqb m.count 0 z))
