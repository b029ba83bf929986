-- A text written as a literal, byte after byte, and a text repeated.
use Rattle.std.specs.Prelude.{ℕ, zero, suc, List, ◌++◌}
use Prim.Native.Char.{code}
use Prim.Native.String.{String, [], ◌∷◌}
use mathlib.Core.List as list

abbrev pub text_of : String → List ℕ
text_of [] = list.[]
text_of (c ∷ s) = list.◌∷◌ (code c) (text_of s)

abbrev pub times : ℕ → List ℕ → List ℕ
times zero t = list.[]
times (suc n) t = t ++ times n t
