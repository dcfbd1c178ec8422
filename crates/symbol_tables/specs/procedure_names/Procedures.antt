-- Which paragraphs and sections a division has, as its headers tell: a name at the beginning of the
-- division or after a period is a header, and SECTION after it makes it a section (ISO 1989:1985,
-- PROCEDURE DIVISION). Paragraphs have numbers in the order of the text. A section without a
-- paragraph has an empty one, as has a division without any, and sentences before a first name are
-- a paragraph without name.
use Rattle.std.specs.Prelude.{ℕ, ◌+◌, ◌-◌, ◌^◌, ◌≤◌, ◌==◌, Bool, true, false, ◌&&◌, nat_lt, nat_le, codes, List, [], ◌∷◌, ◌++◌, length, position, slice_get, unwrap_or, Option, Some, None, if◌then◌else◌}
use Rattle.std.specs.List.{list_all}
use Rattle.std.specs.Str.{bytes_eq}
use Rattle.cob_words.specs.Table.{with_word}
use Rattle.cobol_lex.specs.declared.token.Token.{Token}
use Rattle.cobol_lex.specs.declared.token.TokenKind.{TokenKind}
use Rattle.cobol_lex.specs.declared.token.TokenKind.TheVariants as kinds
use Rattle.parser_combinators.specs.declared.note.NameKind.TheVariants.{Duplicate}
use Rattle.parser_combinators.specs.declared.note.Note.{Note}
use Rattle.parser_combinators.specs.declared.note.Position.{Position}
use Rattle.parser_combinators.specs.Form.{next, begins_by}
use Rattle.parser_combinators.specs.Part.{is_key, is_period}
use Rattle.parser_combinators.specs.words.Word.{is_free}
use Rattle.symbol_tables.specs.declared.procedure_names.table.Header.{Header}
use Rattle.symbol_tables.specs.declared.procedure_names.table.ProcedureTable.{ProcedureTable}
use Rattle.symbol_tables.specs.declared.procedure_names.scan.Awaited.{Awaited}
use Rattle.symbol_tables.specs.declared.procedure_names.scan.Awaited.TheVariants as awaited
use Rattle.symbol_tables.specs.declared.procedure_names.scan.Scan.{Scan}

-- ---- headers

-- the byte is a digit
abbrev pub is_digit : ℕ → Bool
is_digit byte = nat_le 48 byte && nat_le byte 57

-- there are 1 to 30 bytes
abbrev pub is_short : ℕ → Bool
is_short bytes = nat_lt 0 bytes && nat_le bytes 30

-- each byte is a digit
abbrev pub are_digits : List ℕ → Bool
are_digits digits = list_all is_digit digits

-- digits that are a word
abbrev pub is_number : List ℕ → Bool
is_number digits = is_short (length digits) && are_digits digits

-- the name that a header may have: a word that isn't reserved, or digits
unfoldable pub header_name : TokenKind → Option (List ℕ)
header_name (kinds.Word word) = if is_free word then Some word else None
header_name (kinds.Digits digits) = if is_number digits then Some digits else None
header_name _ = None

-- ---- paragraphs as they are counted

-- the scan before the first token: nothing is found yet
abbrev pub start : Scan
start = record {
  found = record { names = []; headers = []; starts = []; count = 0 };
  awaited = awaited.Division;
}

-- the table with this header, where its name is new
abbrev pub named_by : Option ℕ → List ℕ → Header → ProcedureTable → ProcedureTable
named_by (Some number) name header table = table
named_by None name header table =
    record table { names = with_word table.names name; headers = table.headers ++ header ∷ [] }

-- the name, unless an earlier header has it
abbrev pub with_name : List ℕ → Header → ProcedureTable → ProcedureTable
with_name name header table = named_by (position (bytes_eq name) table.names) name header table

-- how many paragraphs there are, with one more where a section has none
abbrev pub with_empty : Awaited → ℕ → ℕ
with_empty awaited.Division count = count
with_empty awaited.Section count = count + 1
with_empty awaited.Nothing count = count

-- how many paragraphs were found, with the empty one that a section may need
abbrev pub whole_count : Scan → ℕ
whole_count scan = with_empty scan.awaited scan.found.count

-- the table with a section whose first paragraph has this number
abbrev pub with_section : List ℕ → (index first : ℕ) → ProcedureTable → ProcedureTable
with_section name index first table =
    with_name name (record { first = first; section = Some (length table.starts); index = index })
    (record table { starts = table.starts ++ first ∷ []; count = first })

-- the table with one paragraph more, of this name
abbrev pub with_paragraph : List ℕ → (index : ℕ) → ProcedureTable → ProcedureTable
with_paragraph name index table =
    with_name name (record { first = table.count; section = None; index = index })
    (record table { count = table.count + 1 })

-- the table after sentences without a header, which are a paragraph where one is awaited
abbrev pub with_sentences : Awaited → ProcedureTable → ProcedureTable
with_sentences awaited.Division table = record table { count = table.count + 1 }
with_sentences awaited.Section table = record table { count = table.count + 1 }
with_sentences awaited.Nothing table = table

-- the scan after the header of a section
abbrev pub section_headed : List ℕ → (index : ℕ) → Scan → Scan
section_headed name index scan = record {
  found = with_section name index (whole_count scan) scan.found;
  awaited = awaited.Section;
}

-- a paragraph begins here
abbrev pub paragraph_headed : List ℕ → (index : ℕ) → Scan → Scan
paragraph_headed name index scan = record {
  found = with_paragraph name index scan.found;
  awaited = awaited.Nothing;
}

-- a section or a paragraph begins here
abbrev pub headed : (is_section : Bool) → List ℕ → (index : ℕ) → Scan → Scan
headed true name index scan = section_headed name index scan
headed false name index scan = paragraph_headed name index scan

-- the scan after what begins without a header: sentences, unless it is END
abbrev pub unheaded : (is_end : Bool) → Scan → Scan
unheaded true scan = scan
unheaded false scan = record {
  found = with_sentences scan.awaited scan.found;
  awaited = awaited.Nothing;
}

-- what begins here: a header if there is a name, else sentences or the end
abbrev pub begun_by : Option (List ℕ) → (is_section is_end : Bool) → (index : ℕ) → Scan → Scan
begun_by (Some name) is_section is_end index scan = headed is_section name index scan
begun_by None is_section is_end index scan = unheaded is_end scan

-- the scan after a token that is where a header may be, with the tokens after it
abbrev pub begun : TokenKind → List Token → (index : ℕ) → Scan → Scan
begun kind behind index scan =
    begun_by (header_name kind) (begins_by (is_key (codes "SECTION")) (next behind))
    (is_key (codes "END") kind) index scan

-- ---- the tokens from the left

-- the scan after this token, where a header may begin with it or not
abbrev pub turned : (may_head : Bool) → TokenKind → List Token → (index : ℕ) → Scan → Scan
turned true kind behind index scan = begun kind behind index scan
turned false kind behind index scan = scan

-- the scan after these tokens
unfoldable pub scanned : List Token → (may_head : Bool) → (index : ℕ) → Scan → Scan
scanned [] may_head index scan = scan
scanned (t ∷ ts) may_head index scan =
    scanned ts (is_period t.kind) (index + 1) (turned may_head t.kind ts index scan)

-- how many paragraphs a division has; one without paragraphs has an empty one
abbrev pub at_least_one : ℕ → ℕ
at_least_one count = if count == 0 then 1 else count

-- the paragraphs and sections of a division, at its end
abbrev pub closed : Scan → ProcedureTable
closed scan = record scan.found { count = at_least_one (whole_count scan) }

-- the paragraphs and sections of these tokens, before which there are so many
abbrev pub procedures_of : List Token → (index : ℕ) → ProcedureTable
procedures_of tokens index = closed (scanned tokens true index start)

-- the scan found no more names, sections and paragraphs than this
pub record IsWithin (limit : ℕ) (scan : Scan) : Type 0 where
  pub names : length scan.found.names ≤ limit
  -- the sections
  pub starts : length scan.found.starts ≤ limit
  pub count : whole_count scan ≤ limit

-- there is room for one more name, section and paragraph
abbrev pub HasRoom : Scan → Type 0
HasRoom scan = IsWithin (2 ^ 32 - 2) scan

-- ---- what a name stands for

-- the header with this number
abbrev pub header_at : Option ℕ → ProcedureTable → Option Header
header_at None table = None
header_at (Some number) table = slice_get table.headers number

-- the first header with this name
abbrev pub header_of : ProcedureTable → List ℕ → Option Header
header_of table name = header_at (position (bytes_eq name) table.names) table

-- a section ends before the next one begins
abbrev pub last_of : ProcedureTable → Header → ℕ
last_of table header = last_by table header.section header.first
  where
    last_by : ProcedureTable → Option ℕ → ℕ → ℕ
    last_by table None first = first
    last_by table (Some section) first =
        unwrap_or (slice_get table.starts (section + 1)) table.count - 1

-- the first and the last paragraph of the procedure with this name, which are its entry and exit
abbrev pub range_of : ProcedureTable → Option Header → Option (ℕ × ℕ)
range_of table None = None
range_of table (Some header) = Some (header.first, last_of table header)

-- a header with the name of an earlier one
abbrev pub duplicate_fault : Option Header → Position → Option Note
duplicate_fault None position = None
duplicate_fault (Some header) position =
    if header.index == position.index then None
    else Some (record { kind = Duplicate; position = position })
