-- What names don't change.
use Rattle.std.specs.Prelude.{◌≡◌, List, drop}
use Rattle.cob_tree.specs.declared.entry.Entry.{Entry}
use Rattle.cobol_lex.specs.declared.token.Token.{Token}
use Rattle.cobol_grammar.specs.data_forms.Divisions.{divisions}
use Rattle.symbol_tables.specs.data_names.Names.{Names}
use Rattle.parser_combinators.specs.Form.{Input, Got}
use Rattle.parser_combinators.specs.Reading.{start}
use Rattle.grammar_laws.specs.whole_counts.status_readings.Alike.{Alike}
use Rattle.cobol_read.specs.declared.program.ProgramDraft.{ProgramDraft}
use Rattle.cobol_read.specs.Program.{nameless, statements_at, declarations_of, paragraphs, program}
use Rattle.cobol_read.specs.Status.{status}
use Rattle.end_to_end_laws.specs.read_programs.division_readings.Same.{SameDivisions}

-- the divisions before the PROCEDURE DIVISION are read alike over any names and entries
abbrev pub DivisionsReadTheSame : Type 0
DivisionsReadTheSame =
    (names others : Names) (entries more : List Entry) →
    Alike (divisions (status names entries)) (divisions (status others more)) SameDivisions

-- where headers are counted among all tokens, these paragraphs are read
pub record AreReadThere (tokens : List Token) (draft : ProgramDraft) (end : Input) : Type 0 where
  -- where the paragraphs begin
  pub input : Input
  -- so many tokens come before
  pub taken : input.taken ≡ statements_at tokens (nameless tokens)
  pub rest : input.rest ≡ drop input.taken tokens
  -- from there the paragraphs are read
  pub reads : (paragraphs (declarations_of tokens)).reads input ≡ Got draft.paragraphs end

-- the paragraphs of a program are read where its headers are counted
abbrev pub ParagraphsAreReadWhereCounted : Type 0
ParagraphsAreReadWhereCounted =
    (tokens : List Token) (draft : ProgramDraft) (end : Input) →
    (program (declarations_of tokens)).reads (start tokens) ≡ Got draft end →
    AreReadThere tokens draft end
