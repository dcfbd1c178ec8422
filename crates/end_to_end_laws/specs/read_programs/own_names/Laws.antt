-- What programs declare.
use Rattle.std.specs.Prelude.{◌≡◌, List}
use Rattle.cobol_lex.specs.declared.token.Token.{Token}
use Rattle.parser_combinators.specs.Form.{Input, Got}
use Rattle.parser_combinators.specs.Reading.{start}
use Rattle.cobol_grammar.specs.declared.data_forms.draft.Divisions.{Divisions}
use Rattle.symbol_tables.specs.data_names.Names.{names_of}
use Rattle.declaration_checks.specs.declared.declaring.Declared.{Declared}
use Rattle.declaration_checks.specs.Declaring.{declared_of}
use Rattle.cobol_read.specs.declared.program.ProgramDraft.{ProgramDraft}
use Rattle.cobol_read.specs.Program.{declarations_of, program}
use Rattle.end_to_end_laws.specs.read_programs.division_readings.Same.{SameDivisions}

-- the same entries with the same fault, and files with the same names
pub record DeclareAlike (one other : Declared) : Type 0 where
  pub entries : one.entries ≡ other.entries
  pub fault : one.fault ≡ other.fault
  pub names : names_of one.files one.entries ≡ names_of other.files other.entries

-- divisions that are the same but for status items declare alike
abbrev pub AlikeDivisionsDeclareAlike : Type 0
AlikeDivisionsDeclareAlike =
    (one other : Divisions) → SameDivisions one other →
    DeclareAlike (declared_of one) (declared_of other)

-- the tokens declare what the divisions do that are read over what they declare
pub record AreItsOwn (tokens : List Token) (declared : Declared) : Type 0 where
  pub names : (declarations_of tokens).names ≡ names_of declared.files declared.entries
  pub entries : (declarations_of tokens).entries ≡ declared.entries
  pub fault : (declarations_of tokens).fault ≡ declared.fault

-- what is declared before a program is read is what its divisions declare
abbrev pub ProgramsAreReadOverTheirOwnNames : Type 0
ProgramsAreReadOverTheirOwnNames =
    (tokens : List Token) (draft : ProgramDraft) (end : Input) →
    (program (declarations_of tokens)).reads (start tokens) ≡ Got draft end →
    AreItsOwn tokens (declared_of draft.divisions)
