-- How the tempo moves (document 02, (vii); source document 003, equation 18): from one duration to the next, and behind a bar of a sheet.
-- Floats are IEEE 754's binary64, of which `lib.Ieee` has the operations, each rounded once. Durations are in microseconds.
use Rattle.std.specs.Prelude.{ℕ, ◌+◌, ◌≡◌, Bool, false, cond, ◌&&◌, List, pos, leb, ltb, Float, Result}
use Rattle.std.specs.Float.{fin, binary64}
use Rattle.std.specs.Float.Ieee.{of_int, div, sub, mul}
use Rattle.sheet.specs.Sheet.{Timing, lasting}
use Rattle.sheet.specs.declared.refusal.Refused.{Refused}
use Rattle.sheet.specs.Outcome.{Outcome, accepted, and_then}
use Rattle.sheet.specs.Refusal.{outcome_of, answer_value, on_value}
use Rattle.sheet.specs.Reading.{shortest_bar, longest_bar, read_sheet}
use Rattle.tempo.specs.declared.between.Tempo.{Tempo}
use Rattle.tempo.specs.declared.between.Tempo.TheVariants.{Steady, Faster, Slower}
use Rattle.tempo.specs.declared.between.TempoRecord.{TempoRecord}
use Rattle.tempo.specs.declared.remark.Remark.{Remark}

-- the floats 0, 1 and 100, which is 25 × 2 ^ 2
abbrev pub none : Float
none = fin false 0 (pos 0)

abbrev pub one : Float
one = fin false 1 (pos 0)

abbrev pub hundred : Float
hundred = fin false 25 (pos 2)

-- a whole number as a float
abbrev pub float : ℕ → Float
float n = of_int binary64 (pos n)

-- "The percentage is 100 × (a1 / a2 - 1) in 64-bit floats (source document 003), rounded after the division, after the subtraction and
-- after the product"
unfoldable pub percent_of : (a1 a2 : ℕ) → Float
percent_of a1 a2 = mul binary64 hundred (sub binary64 (div binary64 (float a1) (float a2)) one)

-- "The bits are fixed for every pair of durations from 1,000 to 60,000,000"
unfoldable pub in_range : (a : ℕ) → Bool
in_range a = leb shortest_bar a && leb a longest_bar

-- "For adjoining bar durations a1 and a2 the answer is steady when they are equal, faster with a percentage when a1 is larger, slower with
-- a percentage when it is smaller"; "other pairs give steady"
abbrev pub tempo_of : (a1 a2 : ℕ) → Tempo
tempo_of a1 a2 =
    cond (in_range a1)
    (cond (in_range a2)
    (cond (ltb a2 a1) (Faster (percent_of a1 a2)) (cond (ltb a1 a2) (Slower (percent_of a1 a2)) Steady))
    Steady)
    Steady

-- the number of each case: 0 steady, 1 faster, 2 slower; and its percentage, "0 when steady"
abbrev pub kind_of : Tempo → ℕ
kind_of Steady = 0
kind_of (Faster p) = 1
kind_of (Slower p) = 2

abbrev pub percent_in : Tempo → Float
percent_in Steady = none
percent_in (Faster p) = p
percent_in (Slower p) = p

-- "A bar's tempo record keeps its percentage beside the two durations, its own and the next bar's, 0 when steady"
abbrev pub record_of : (a1 a2 : ℕ) → TempoRecord
record_of a1 a2 = record { duration = a1; next = a2; percentage = percent_in (tempo_of a1 a2) }

abbrev pub no_record : TempoRecord
no_record = record { duration = 0; next = 0; percentage = none }

-- "for a sheet and i it is bar i's (from 0), all 0 where no bar follows". A bar lasts from its bar line to the next, tapped or not
unfoldable pub record_at : (bars : ℕ) → Timing → (i : ℕ) → TempoRecord
record_at bars timing i = cond (ltb (i + 1) bars) (record_of (lasting timing i) (lasting timing (i + 1))) no_record

-- of a text, with the refusals of its sheet
unfoldable pub record_text : (text : List ℕ) → (i : ℕ) → Outcome TempoRecord
record_text text i = and_then (read_sheet text) (λ x. accepted (record_at x.sheet.playing.bars x.timing i))

-- what is given for a bar: its record, and the case of its two durations, which are 0 where there is none
abbrev pub remark_with : TempoRecord → Remark
remark_with bar = record { tempo = tempo_of bar.duration bar.next; bar = bar }

abbrev pub no_remark : Remark
no_remark = remark_with no_record

-- of a text
abbrev pub remark_of : Outcome TempoRecord → Outcome Remark
remark_of o = on_value remark_with o

-- what is answered: a remark, or a refusal; and its remark, the case steady and zeros in a refusal
abbrev pub Answer : Type 0
Answer = Result Remark Refused

abbrev pub remark_in : Answer → Remark
remark_in r = answer_value no_remark r

-- the promise of `remark_at`, for every text and every i
abbrev pub Remarks : (text : List ℕ) → (i : ℕ) → Answer → Type 0
Remarks text i r = outcome_of r ≡ remark_of (record_text text i)
