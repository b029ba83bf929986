-- Worked examples, which antt computes: two durations with the case and the percentage's bits, and the remarks of a tapped sheet.
use Rattle.std.specs.Prelude.{ℕ, ◌≡◌, refl, true, List, [], ◌∷◌, ◌++◌, map, pos}
use Rattle.std.specs.Float.{fin, binary64}
use Rattle.std.specs.Float.Ieee.{mul, sub, div, of_int, to_bits}
use Rattle.sheet.specs.Literal.{text_of}
use Rattle.sheet.specs.Cases.{grammar_s}
use Rattle.sheet.specs.Outcome.{Outcome, number_in, line_in, value_in}
use Rattle.sheet.specs.Reading.{read_sheet}
use Rattle.tempo.specs.declared.between.Tempo.TheVariants.{Steady, Faster, Slower}
use Rattle.tempo.specs.declared.remark.Remark.{Remark}
use Rattle.tempo.specs.Tempo.{hundred, in_range, percent_of, tempo_of, kind_of, record_of, record_at, record_text}
use Rattle.tempo.specs.Tempo.{no_remark, remark_of}

-- the case of two durations, and the bits of the percentage
abbrev pub cells : (a1 a2 : ℕ) → List ℕ
cells a1 a2 = kind_of (tempo_of a1 a2) ∷ to_bits binary64 (record_of a1 a2).percentage ∷ []

-- half the duration is 100 percent faster, twice the duration 50 percent slower
half : tempo_of 2_000_000 1_000_000 ≡ Faster hundred
unfolding in_range percent_of mul sub div of_int
half = refl

twice : tempo_of 1_000_000 2_000_000 ≡ Slower (fin true 25 (pos 1))
unfolding in_range percent_of mul sub div of_int
twice = refl

-- 5.263157894736836 and -5.000000000000004, as the shortest decimals that name these floats
pub shorter : cells 2_000_000 1_900_000 ≡ 1 ∷ 0x40150D79435E50D1 ∷ []
unfolding in_range percent_of mul sub div of_int to_bits
shorter = refl

longer : cells 1_900_000 2_000_000 ≡ 2 ∷ 0xC014000000000005 ∷ []
unfolding in_range percent_of mul sub div of_int to_bits
longer = refl

-- source document 003's two examples: from 0.255 s to 0.259 s the speed falls by 2 %, here -1.5444015444015413; from 0.389 s to 0.241 s it
-- rises by 61 %, here 61.41078838174274
source_slower : cells 255_000 259_000 ≡ 2 ∷ 0xBFF8B5DE64D18B50 ∷ []
unfolding in_range percent_of mul sub div of_int to_bits
source_slower = refl

source_faster : cells 389_000 241_000 ≡ 1 ∷ 0x404EB494B6B494B7 ∷ []
unfolding in_range percent_of mul sub div of_int to_bits
source_faster = refl

-- the longest durations that are a microsecond apart, 1.6666666935449825e-6; and the ends of the range, 5999900 and -99.99833333333333
nearest : cells 60_000_000 59_999_999 ≡ 1 ∷ 0x3EBBF64768C00000 ∷ []
unfolding in_range percent_of mul sub div of_int to_bits
nearest = refl

most : cells 60_000_000 1000 ≡ 1 ∷ 0x4156E34700000000 ∷ []
unfolding in_range percent_of mul sub div of_int to_bits
most = refl

least : cells 1000 60_000_000 ≡ 2 ∷ 0xC058FFE4B17E4B18 ∷ []
unfolding in_range percent_of mul sub div of_int to_bits
least = refl

-- equal durations, and pairs with one out of range on either side
equal : tempo_of 2_000_000 2_000_000 ≡ Steady
unfolding in_range
equal = refl

short_first : tempo_of 999 2_000_000 ≡ Steady
unfolding in_range
short_first = refl

long_second : tempo_of 2_000_000 60_000_001 ≡ Steady
unfolding in_range
long_second = refl

-- ---- sheets

-- S's grammar over four tapped bars, of 2,000,000, 1,900,000, 1,900,000 and 1,900,100 microseconds
abbrev pub rushing : List ℕ
rushing =
    grammar_s
    ++ text_of "450400000000\n42004C4B40\n42006ACFC0\n420087CDA0\n4200A4CB80\n4200C1C9C4\n4E004C4B403C40\n"

-- the number, the line, the case, the durations and the percentage's bits of what is given
abbrev pub remark_cells : Outcome Remark → List ℕ
remark_cells o =
    let r = value_in no_remark o in
    number_in o ∷ line_in o ∷ kind_of r.tempo ∷ r.bar.duration ∷ r.bar.next ∷ to_bits binary64 r.bar.percentage ∷ []

abbrev pub remark_at : (text : List ℕ) → (i : ℕ) → List ℕ
remark_at text i = remark_cells (remark_of (record_text text i))

-- behind each bar, behind the last and past it; and of a refused text
pub rushing_remarks : map (remark_at rushing) (0 ∷ 1 ∷ 2 ∷ 3 ∷ 4 ∷ [])
    ≡ (0 ∷ 0 ∷ 1 ∷ 2_000_000 ∷ 1_900_000 ∷ 0x40150D79435E50D1 ∷ [])
    ∷ (0 ∷ 0 ∷ 0 ∷ 1_900_000 ∷ 1_900_000 ∷ 0 ∷ [])
    ∷ (0 ∷ 0 ∷ 2 ∷ 1_900_000 ∷ 1_900_100 ∷ 0xBF758E87D5A40A00 ∷ [])
    ∷ (0 ∷ 0 ∷ 0 ∷ 0 ∷ 0 ∷ 0 ∷ [])
    ∷ (0 ∷ 0 ∷ 0 ∷ 0 ∷ 0 ∷ 0 ∷ [])
    ∷ []
unfolding read_sheet record_at record_text in_range percent_of mul sub div of_int to_bits
rushing_remarks = refl

refused_remark : remark_at (text_of "4G\n") 0 ≡ 2 ∷ 1 ∷ 0 ∷ 0 ∷ 0 ∷ 0 ∷ []
unfolding read_sheet record_at record_text in_range to_bits
refused_remark = refl
