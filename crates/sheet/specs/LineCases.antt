-- Worked examples of lines read in one pass, by computation: an onset's line, a division's line of thirteen bytes, and lines that are not
-- well formed.
use Rattle.std.specs.Prelude.{◌≡◌, refl}
use Rattle.sheet.specs.Literal.{text_of}
use Rattle.hextext.specs.Packed.{no_line, line_read}

-- `4E0010C8E03E40` at place 15 of a text, behind another such line: kind 4E, seven bytes, all in the last eight, and the place behind it
onset_line : line_read (text_of "4E000000003C40\n4E0010C8E03E40\n") 15
    ≡ record { kind = 0x4E; count = 7; front = 0; tail = 0x4E0010C8E03E40; next = 30 }
unfolding line_read
onset_line = refl

-- a division into eight parts has thirteen bytes: the first eight and the last eight
division_line : line_read (text_of "44000006080102030405060708\n") 0
    ≡ record { kind = 0x44; count = 13; front = 0x4400000608010203; tail = 0x0102030405060708; next = 27 }
unfolding line_read
division_line = refl

-- an empty line, odd digits, a lower-case digit, a byte 0D, a line that is not closed
empty_line : line_read (text_of "\n41\n") 0 ≡ no_line
unfolding line_read
empty_line = refl

odd_line : line_read (text_of "414\n") 0 ≡ no_line
unfolding line_read
odd_line = refl

lower_case_line : line_read (text_of "4a\n") 0 ≡ no_line
unfolding line_read
lower_case_line = refl

return_line : line_read (text_of "41\r\n") 0 ≡ no_line
unfolding line_read
return_line = refl

open_line : line_read (text_of "41\n41") 3 ≡ no_line
unfolding line_read
open_line = refl
