-- Document 01, "Numbers to check against": the two lines of the job program's example, the refused one, and rows of
-- both widths, as texts. Assumes nothing.
use mathlib.Core.Path.{◌≡◌, refl}
use Rattle.std.specs.Prelude.{None, Some}
use Rattle.std.specs.declared.option.Option.{Option}
use mathlib.Core.List.{List, [], ◌∷◌, ◌++◌, flatten}
use Prim.Native.Nat.{ℕ}
use lib.ListN.{replicate, set}
use Rattle.cells.specs.declared.Width.TheVariants.{Bits32, Bits16}
use Rattle.cells.specs.Places.{half_at, get_at}
use Rattle.cells.specs.State.{state}
use Rattle.lines.specs.Lines.{value, columns, output_lines, field_lines, lines_from, lines_of}
use Rattle.word.specs.Refusal.{number_of, bit_of}
use Rattle.word.specs.declared.Refusal.TheVariants.{UnnamedBit, UnsetRead}
use Rattle.lines.specs.Text.{pushed, wrote, empty_text, made, decimal_up_to, decimal, hex_digit, hex, values, text_of, line_of, finished_text, bit_text, refused_text}
use Rattle.job.specs.Fields.{job_width, field_at, fields_up_to, fields_from}
use Rattle.job.specs.Kinds.{settings_kind, load_register, issue, output_rows, output_register, read_kind}
use Rattle.job.specs.Settings.{slot_of, thread_right, settings_right}
use Rattle.job.proofs.Examples.{worked}
use Rattle.lines.specs.Cursor.{answered_cursor, line_cursor, next_in, next_from, next_line}
use Rattle.lines.specs.declared.Cursor.{Cursor}
use Rattle.lines.specs.declared.found.Found.{Found}
use Rattle.lines.specs.declared.found.What.{What}
use Rattle.lines.specs.declared.found.What.TheVariants.{Row, Register}

-- `finished 1`
finished_1 : finished_text 1 ≡ 102 ∷ 105 ∷ 110 ∷ 105 ∷ 115 ∷ 104 ∷ 101 ∷ 100 ∷ 32 ∷ 49 ∷ 10 ∷ []
unfolding finished_text decimal decimal_up_to
finished_1 = refl

-- `G 0 3 00000009`: register 3 of thread 0 is 9
register_0_3 : text_of (line_of (Register 0 3) [] (0 ∷ 12 ∷ 0 ∷ 9 ∷ []))
    ≡ 71 ∷ 32 ∷ 48 ∷ 32 ∷ 51 ∷ 32 ∷ 48 ∷ 48 ∷ 48 ∷ 48 ∷ 48 ∷ 48 ∷ 48 ∷ 57 ∷ 10 ∷ []
unfolding text_of line_of decimal decimal_up_to values hex hex_digit
register_0_3 = refl

-- `refused 8 at 180`
refused_8 : refused_text (number_of UnsetRead) 180 (bit_of UnsetRead) ≡ 114 ∷ 101 ∷ 102 ∷ 117 ∷ 115 ∷ 101 ∷ 100 ∷ 32 ∷ 56 ∷ 32 ∷ 97 ∷ 116 ∷ 32 ∷ 49 ∷ 56 ∷ 48 ∷ 10 ∷ []
unfolding bit_text refused_text decimal decimal_up_to
refused_8 = refl

-- `refused 3 at 172 bit 16`
refused_3 : refused_text (number_of (UnnamedBit 16)) 172 (bit_of (UnnamedBit 16))
    ≡ 114 ∷ 101 ∷ 102 ∷ 117 ∷ 115 ∷ 101 ∷ 100 ∷ 32 ∷ 51 ∷ 32 ∷ 97 ∷ 116 ∷ 32 ∷ 49 ∷ 55 ∷ 50 ∷ 32 ∷ 98 ∷ 105 ∷ 116 ∷ 32 ∷ 49 ∷ 54 ∷ 10 ∷ []
unfolding bit_text refused_text decimal decimal_up_to
refused_3 = refl

-- `D 1 deadbeef 00000000 ..`, sixteen values: row 1 begins at place 16
row_1 : text_of (line_of (Row Bits32 1) (replicate 16 7 ++ 0xDEADBEEF ∷ []) [])
    ≡ 68 ∷ 32 ∷ 49 ∷ 32 ∷ 100 ∷ 101 ∷ 97 ∷ 100 ∷ 98 ∷ 101 ∷ 101 ∷ 102
    ∷ flatten (replicate 15 (32 ∷ 48 ∷ 48 ∷ 48 ∷ 48 ∷ 48 ∷ 48 ∷ 48 ∷ 48 ∷ [])) ++ 10 ∷ []
unfolding text_of line_of columns get_at decimal decimal_up_to values hex hex_digit flatten
row_1 = refl

-- in the BF16 mode row 0 is the low halves of lent row 0, `D 0 0007 beef ..`, and row 512 its high halves, `D 512 3f80 dead ..`
abbrev lent : List ℕ
lent = 0x3F800007 ∷ replicate 8191 0xDEADBEEF

row_0 : text_of (line_of (Row Bits16 0) lent []) ≡ 68 ∷ 32 ∷ 48 ∷ 32 ∷ 48 ∷ 48 ∷ 48 ∷ 55 ∷ flatten (replicate 15 (32 ∷ 98 ∷ 101 ∷ 101 ∷ 102 ∷ [])) ++ 10 ∷ []
unfolding text_of line_of columns get_at half_at decimal decimal_up_to values hex hex_digit flatten
row_0 = refl

row_512 : text_of (line_of (Row Bits16 512) lent [])
    ≡ 68 ∷ 32 ∷ 53 ∷ 49 ∷ 50 ∷ 32 ∷ 51 ∷ 102 ∷ 56 ∷ 48 ∷ flatten (replicate 15 (32 ∷ 100 ∷ 101 ∷ 97 ∷ 100 ∷ [])) ++ 10 ∷ []
unfolding text_of line_of columns get_at half_at decimal decimal_up_to values hex hex_digit flatten
row_512 = refl

-- a text of bytes: the first ones are those that were written
text_of_it : (made (finished_text 1)).len ≡ 11
unfolding finished_text decimal decimal_up_to empty_text wrote pushed
text_of_it = refl

-- output rows 7 and 8 at 0, output register 0/3 at 6: three lines, then the end
abbrev outputs : List ℕ
outputs = 6 ∷ 3 ∷ 0 ∷ 7 ∷ 0 ∷ 2 ∷ 7 ∷ 2 ∷ 0 ∷ 0 ∷ 3 ∷ []

abbrev cursor : ℕ → ℕ → Cursor
cursor at i = line_cursor at i

abbrev shown : What → Cursor → Option Found
shown w c = Some (record { what = w; after = c })

reads : (next_line outputs answered_cursor ∷ next_line outputs (cursor 0 1) ∷ next_line outputs (cursor 0 2) ∷ next_line outputs (cursor 6 1) ∷ [])
    ≡ shown (Row Bits32 7) (cursor 0 1) ∷ shown (Row Bits32 8) (cursor 0 2) ∷ shown (Register 0 3) (cursor 6 1) ∷ None ∷ []
unfolding next_line next_from next_in fields_from fields_up_to field_at job_width read_kind output_rows output_register
reads = refl

-- the paper's job has one line, at 180
worked_line : next_line worked answered_cursor ≡ shown (Register 0 3) (cursor 180 1)
unfolding worked next_line next_from next_in fields_from fields_up_to field_at job_width read_kind settings_kind settings_right thread_right slot_of load_register issue output_register
worked_line = refl

-- with flags 0 instead of 1, and output rows 512 and 513 behind it, its next line is a row of the BF16 mode
bf16_line : next_line (set worked 4 0 ++ 6 ∷ 3 ∷ 0 ∷ 0 ∷ 2 ∷ 2 ∷ []) (cursor 180 1) ≡ shown (Row Bits16 512) (cursor 185 1)
unfolding worked next_line next_from next_in fields_from fields_up_to field_at job_width read_kind output_rows output_register
bf16_line = refl

worked_lines : lines_of worked (state [] [] [] (0 ∷ 12 ∷ 0 ∷ 9 ∷ [])) ≡ value 0 3 9 ∷ []
unfolding worked lines_of lines_from field_lines output_lines fields_from fields_up_to field_at job_width read_kind settings_kind settings_right thread_right slot_of load_register issue output_register
worked_lines = refl
