-- What isn't in the subset: the kind of each fault of reading, and its line.
use Rattle.std.specs.Prelude.{ℕ, List, ◌++◌, codes}
use Rattle.std.specs.Fmt.{decimal}
use Rattle.cob_tree.specs.declared.fault.NameFault.{NameFault}
use Rattle.cob_tree.specs.declared.fault.NameFault.TheVariants as name
use Rattle.cob_tree.specs.declared.fault.ParseFault.{ParseFault}
use Rattle.cob_tree.specs.declared.fault.ParseFault.TheVariants as parse
use Rattle.ref_format.specs.declared.fault.FormatFault.{FormatFault}
use Rattle.ref_format.specs.declared.fault.FormatFault.TheVariants as format
use Rattle.cobol_lex.specs.declared.fault.LexFault.{LexFault}
use Rattle.cobol_lex.specs.declared.fault.LexFault.TheVariants as lex
use Rattle.cobol_read.specs.declared.refusal.ReadFault.{ReadFault}
use Rattle.cobol_read.specs.declared.refusal.ReadFault.TheVariants as read

-- a kind of fault, at a line of the source
abbrev pub at_line : (kind : List ℕ) → (line : ℕ) → List ℕ
at_line kind line = kind ++ codes " LINE " ++ decimal line

-- the kind and line of a fault of the format
abbrev pub format_kind : FormatFault → List ℕ
format_kind (format.BadIndicator line) = at_line (codes "BAD-INDICATOR") line
format_kind (format.BadByte line) = at_line (codes "BAD-BYTE") line
format_kind (format.BadContinuation line) = at_line (codes "BAD-CONTINUATION") line

-- the kind and line of a fault of a token
abbrev pub lex_kind : LexFault → List ℕ
lex_kind (lex.OpenLiteral line) = at_line (codes "OPEN-LITERAL") line
lex_kind (lex.BadWord line) = at_line (codes "BAD-WORD") line
lex_kind (lex.BadNumber line) = at_line (codes "BAD-NUMBER") line
lex_kind (lex.TooManyDigits line) = at_line (codes "TOO-MANY-DIGITS") line

-- the kind and line of a fault of a name
abbrev pub name_kind : NameFault → List ℕ
name_kind (name.Duplicate line) = at_line (codes "DUPLICATE") line
name_kind (name.Unknown line) = at_line (codes "UNKNOWN") line
name_kind (name.Ambiguous line) = at_line (codes "AMBIGUOUS") line
name_kind (name.Level line) = at_line (codes "LEVEL") line
name_kind (name.Picture line) = at_line (codes "PICTURE") line
name_kind (name.Redefines line) = at_line (codes "REDEFINES") line
name_kind (name.Value line) = at_line (codes "VALUE") line
name_kind (name.Usage line) = at_line (codes "USAGE") line

-- the kind and line of a fault of the syntax or of a name
abbrev pub parse_kind : ParseFault → List ℕ
parse_kind (parse.Syntax line) = at_line (codes "SYNTAX") line
parse_kind (parse.Name fault) = name_kind fault

-- the kind and line of a fault of reading
abbrev pub kind_at : ReadFault → List ℕ
kind_at (read.Format fault) = format_kind fault
kind_at (read.Lex fault) = lex_kind fault
kind_at (read.LeftOut word line) = at_line (codes "LEFT-OUT " ++ word) line
kind_at (read.Power line) = at_line (codes "LEFT-OUT **") line
kind_at (read.Parse fault) = parse_kind fault
