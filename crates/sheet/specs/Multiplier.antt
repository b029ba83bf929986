-- Sliding the multiplier (document 02, (xiv), "For two sheets alike except that a grows"): a sheet with another a, and texts that are the
-- same but for a's field. Two such texts that are accepted mean sheets that are the same but for a (`MultiplierLaws.texts_alike`).
use Rattle.std.specs.Prelude.{ℕ, ◌/◌, ◌%◌, ◌≡◌, List, [], ◌∷◌, ◌++◌, take, drop}
use Rattle.hextext.specs.Text.{lines}
use Rattle.hextext.specs.Written.{pairs_of}
use Rattle.sheet.specs.Sheet.{Grammar, Sheet}

-- "two sheets alike except that a grows": the sheet with the multiplier a in the place of its own
abbrev pub grammar_with : ℕ → Grammar → Grammar
grammar_with a g = record { nonterminals = g.nonterminals; start = g.start; multiplier = a; rules = g.rules }

abbrev pub with_multiplier : ℕ → Sheet → Sheet
with_multiplier a s = record { grammar = grammar_with a s.grammar; playing = s.playing }

-- of a text's lines all but a's field, which is bytes 3 and 4 of the first
abbrev pub but_multiplier : List (List ℕ) → List (List ℕ)
but_multiplier [] = []
but_multiplier (l ∷ ls) = (take 3 l ++ drop 5 l) ∷ ls

-- two texts alike except for a: the same lines but for a's field
abbrev pub AlikeTexts : (t u : List ℕ) → Type 0
AlikeTexts t u = but_multiplier (lines t) ≡ but_multiplier (lines u)

-- a text with the four digits of a in the place of its own, which stand behind two digits each of kind, Q and start nonterminal
unfoldable pub slid : ℕ → List ℕ → List ℕ
unfolding pairs_of
slid a t = take 6 t ++ (pairs_of (a / 256 ∷ a % 256 ∷ []) ++ drop 10 t)
