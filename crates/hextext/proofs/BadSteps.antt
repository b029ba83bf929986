-- Steps of looking over the lines of a text for a bad one. Assumes nothing.
use Prim.Native.Nat.{ℕ, ◌+◌, ◌<◌, ◌≤◌}
use mathlib.Core.Path.{◌≡◌, refl, sym, ap, ◌∙◌}
use mathlib.Core.Bool.{false}
use mathlib.Core.List.{List}
use native.Mathlib.Omega.{arith}
use lib.ListN.{length, drop, length-drop, drop_of_length-le}
use lib.Seq.{drop-drop}
use Rattle.hextext.specs.declared.line.Line.{Line}
use Rattle.hextext.specs.Text.{first, bad_from, line_size}
use Rattle.hextext.specs.Packed.{line_read}
use Rattle.hextext.specs.PackedLaws.{line_bad, line_good, line_next}
use Rattle.hextext.specs.OnePass.{bad_on, bad_here}

-- no line is left
pub bad_past : (n : ℕ) (t : List ℕ) (i : ℕ) → length t ≤ i → bad_from n first (drop i t) ≡ 0
unfolding bad_from
bad_past n t i h = rw (drop_of_length-le t {i = i} h) refl

module _ (t : List ℕ) (i : ℕ) (l : Line) (is : l ≡ line_read t i) where
  -- the next line is bad
  pub bad_stop : (n : ℕ) → i < length t → l.count ≡ 0 → bad_from n first (drop i t) ≡ n
  bad_stop n h e =
      bad_here n false (drop i t) (λ _. omega (arith, length-drop i t)) (line_bad t i (sym (ap (λ (x : Line). x.count) is) ∙ e))

  -- it is not, and the lines behind it start where it says
  pub bad_next : (l.count ≡ 0 → ⊥) → (n : ℕ) → bad_from n first (drop i t) ≡ bad_from (n + 1) first (drop l.next t)
  bad_next filled n =
      bad_on n false (drop i t) (line_good t i (λ e. filled (ap (λ (x : Line). x.count) is ∙ e))).0
      ∙ ap (bad_from (n + 1) first)
      (drop-drop (line_size (drop i t)) i t ∙ ap (λ (k : ℕ). drop k t) (sym (line_next t i l is filled)))
