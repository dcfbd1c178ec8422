-- Programs that can be printed: their names are words in capitals that aren't reserved, their
-- numbers have 1 to 18 digits, their literals 1 to 160 bytes without control characters, and their
-- pictures as many symbols as a picture can have, or a mask.
use Rattle.std.specs.Prelude.{ℕ, ◌≡◌, ◌^◌, ◌+◌, ◌==◌, nat_le, nat_lt, Bool, true, not, ◌&&◌, List, map, slice_index, Option, Some, None}
use Rattle.std.specs.Char.{to_ascii_uppercase}
use Rattle.std.specs.List.{list_all}
use Rattle.std.specs.Option.{is_some}
use Rattle.cob_base.specs.Bytes.{comma}
use Rattle.cob_tree.specs.declared.entry.Entry.{Entry}
use Rattle.cob_tree.specs.declared.entry.Span.{Span}
use Rattle.cob_tree.specs.declared.file.FileEntry.{FileEntry}
use Rattle.cob_tree.specs.declared.picture.Picture.{Picture}
use Rattle.cob_tree.specs.declared.picture.Picture.TheVariants as pictures
use Rattle.cob_tree.specs.declared.program.Paragraph.{Paragraph}
use Rattle.cob_tree.specs.declared.program.Program.{Program}
use Rattle.edit_fields.specs.Reading.{is_written_out, mask_fault_of}
use Rattle.control_flow_theory.specs.language.All.{all}
use Rattle.program_facts.specs.well_scoped.Part.{if_any}
use Rattle.grammar_laws.specs.form_results.Giving.{Each}
use Rattle.round_trip.specs.printable.printable_tokens.Header.{IsHeaderName}
use Rattle.round_trip.specs.printable.printable_tokens.Printable.{is_printable_text}
use Rattle.round_trip.specs.printable.Part.{is_printable_name, is_printable_place, is_printable_operand}
use Rattle.round_trip.specs.printable.Statement.{are_printable_sentences}

-- ---- files and entries

-- a file, with its ASSIGN and status item
abbrev pub is_printable_file : FileEntry → Bool
is_printable_file file =
    is_printable_name file.name && is_printable_text file.assign
    && if_any is_printable_place file.status

-- the letter is a capital
abbrev pub is_capital : ℕ → Bool
is_capital byte = to_ascii_uppercase byte == byte

-- a mask can be printed: its counts are written out, its letters are capitals, and it doesn't begin
-- with a comma, which would be taken for one before the picture
abbrev pub is_printable_mask : List ℕ → Bool
is_printable_mask mask =
    not (is_some (mask_fault_of mask)) && is_written_out mask && list_all is_capital mask
    && not (slice_index mask 0 == comma)

-- a picture can be printed: a number has 1 to 18 digits, a text up to 65,535 characters
abbrev pub is_printable_picture : Picture → Bool
is_printable_picture (pictures.Number signed whole part) =
    nat_le 1 (whole + part) && nat_le (whole + part) 18
is_printable_picture (pictures.Letters count) = nat_le 1 count && nat_le count 65535
is_printable_picture (pictures.Any count) = nat_le 1 count && nat_le count 65535
is_printable_picture (pictures.Edited mask) = is_printable_mask mask

-- a value or a range of values can be printed
abbrev pub is_printable_span : Span → Bool
is_printable_span span = is_printable_operand span.from && if_any is_printable_operand span.to

-- what OCCURS counts can be printed: it has at most 18 digits
abbrev pub is_printable_count : ℕ → Bool
is_printable_count count = nat_lt count (10 ^ 18)

-- an entry can be printed
abbrev pub is_printable_entry : Entry → Bool
is_printable_entry entry =
    nat_lt entry.level 100 && if_any is_printable_name entry.name
    && if_any is_printable_picture entry.picture && if_any is_printable_count entry.occurs
    && if_any is_printable_operand entry.value && all (map is_printable_span entry.ranges)

-- ---- paragraphs

-- the name of a paragraph or a section, which may be digits, can be printed, where it has one
abbrev pub IfNamed : Option (List ℕ) → Type 0
IfNamed None = Unit {0}
IfNamed (Some name) = IsHeaderName name

-- a paragraph
pub record IsPrintableParagraph (paragraph : Paragraph) : Type 0 where
  pub name : IfNamed paragraph.name
  pub section : IfNamed paragraph.section
  pub sentences : are_printable_sentences paragraph.sentences ≡ true

-- ---- all of it

-- a program
pub record IsPrintableProgram (program : Program) : Type 0 where
  pub name : is_printable_name program.name ≡ true
  pub files : all (map is_printable_file program.files) ≡ true
  pub entries : all (map is_printable_entry program.entries) ≡ true
  pub paragraphs : Each IsPrintableParagraph program.paragraphs
