-- Wrong answers that the contracts rule out, by computation: what each would give, and that the contract is false of it.
use Rattle.std.specs.Prelude.{ℕ, ◌≡◌, List, [], ◌∷◌, get_or}
use Rattle.std.proofs.Common.{sym, ap, ◌∙◌, arith}
use Rattle.slices.specs.Over.{over, over_from}
use Rattle.hextext.specs.declared.Next.{Next}
use Rattle.hextext.specs.Text.{first, bad_from, line_bytes, line_size, NextLine}
use Rattle.hextext.specs.Packed.{line_read}
use Rattle.hextext.specs.Written.{line_text, has_room, LineWritten}

-- the text `41` closed by 0A, which spells byte 65
abbrev text : List ℕ
text = 52 ∷ 49 ∷ 10 ∷ []

-- `bad_from` that does not number the line that is bad: the text `4G` is bad at line 1
numbered_from_0 : bad_from 1 first (52 ∷ 71 ∷ 10 ∷ []) ≡ 0 → ⊥
unfolding bad_from
numbered_from_0 e = omega arith

-- `line_at` that gives a count one short, one that does not pack a line's last byte, and one that takes an empty line as well formed
count_one_short : (line_read text 0).count ≡ 0 → ⊥
unfolding line_read
count_one_short e = omega arith

last_byte_not_packed : (line_read text 0).tail ≡ 0 → ⊥
unfolding line_read
last_byte_not_packed e = omega arith

empty_line_taken : (line_read (10 ∷ text) 0).next ≡ 1 → ⊥
unfolding line_read
empty_line_taken e = omega arith

-- `next_line` that does not store a line's last byte
last_byte_not_stored : (r : Next) → NextLine text 0 (0 ∷ []) (0 ∷ []) r → ⊥
unfolding line_bytes over
last_byte_not_stored r h = let z : ◌≡◌ {A = ℕ} 0 65 = ap (λ (l : List ℕ). get_or l 0 0) h.bytes in omega arith

-- `next_line` that stays at the line's 0A
stays_at_close : (r : Next) (line₁ : List ℕ) → r.next ≡ 2 → NextLine text 0 [] line₁ r → ⊥
unfolding line_size
stays_at_close r line₁ e h = let z : ◌≡◌ {A = ℕ} 2 3 = sym e ∙ h.next in omega arith

-- `write_line` with letters in lower case, `0a` for byte 10
lower_case : (r : ℕ) → LineWritten (10 ∷ []) 0 (0 ∷ 0 ∷ 0 ∷ []) (48 ∷ 97 ∷ 10 ∷ []) r → ⊥
unfolding line_text has_room over_from over
lower_case r h = let z : ◌≡◌ {A = ℕ} 97 65 = ap (λ (l : List ℕ). get_or l 1 0) h.text in omega arith
