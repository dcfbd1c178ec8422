-- How many tokens stand before the paragraphs of a program.
use Rattle.std.proofs.Common.{◌≡◌, suc, ◌+◌, List, [], ◌∷◌, ◌++◌, length, refl, ap, sym, ◌∙◌, append_assoc, length-append, arith}
use Rattle.std.specs.Prelude.{codes}
use Rattle.cob_tree.specs.declared.entry.Entry.{Entry}
use Rattle.cob_tree.specs.declared.program.Program.{Program}
use Rattle.cobol_lex.specs.declared.token.Token.{Token}
use Rattle.cobol_lex.specs.declared.token.TokenKind.{TokenKind}
use Rattle.cobol_print.specs.declared.units.unit.PrintUnit.{PrintUnit}
use Rattle.cobol_print.specs.units.Unit.{header}
use Rattle.cobol_print.specs.units.Division.{program_id, environment_units, data_units, paragraphs_units, procedure_units, program_units}
use Rattle.cobol_print.specs.Unit.{all_tokens}
use Rattle.round_trip.specs.spelled_forms.Spelling.{kinds_of}
use Rattle.round_trip.specs.spelling.data_spelling.Kinds.{header_kinds, divisions_kinds}
use Rattle.round_trip.specs.spelling.data_spelling.Sections.{Fd, IsSorted}
use Rattle.round_trip.proofs.spelling_lemmas.data_spelling_lemmas.Units.{divisions-tokens}
use Rattle.end_to_end_laws.specs.read_programs.readable_programs.Readable.{units_before, tokens_before}

pub all-append : (units more : List PrintUnit) → all_tokens (units ++ more) ≡ all_tokens units ++ all_tokens more
all-append [] more = refl
all-append (unit ∷ units) more = ap (λ list. unit.tokens ++ list) (all-append units more) ∙ sym (append_assoc unit.tokens (all_tokens units) (all_tokens more))

all-length : (units more : List PrintUnit) → length (all_tokens (units ++ more)) ≡ length (all_tokens units) + length (all_tokens more)
all-length units more = ap length (all-append units more) ∙ length-append (all_tokens units) (all_tokens more)

-- as many kinds as tokens
pub kinds-count : (tokens : List Token) → length (kinds_of tokens) ≡ length tokens
kinds-count [] = refl
kinds-count (t ∷ tokens) = ap suc (kinds-count tokens)

-- the tokens of the PROCEDURE DIVISION
abbrev pub procedure_kinds : Program → List TokenKind
procedure_kinds program = header_kinds (codes "PROCEDURE") (codes "DIVISION") ++ all_tokens (paragraphs_units program program.paragraphs)

module _ (program : Program) (fds : List Fd) (storage : List Entry) (sorted : IsSorted fds storage program.entries) where
  pub all-kinds : all_tokens (program_units program) ≡ divisions_kinds program fds storage ++ procedure_kinds program
  all-kinds = divisions-tokens program fds storage sorted

  abbrev front : List PrintUnit
  front = header (codes "IDENTIFICATION") (codes "DIVISION") ∷ program_id program.name ∷ environment_units program program.files ++ data_units program program.entries

  pub before-is : tokens_before program ≡ length (divisions_kinds program fds storage) + 3
  before-is =
      let head : List PrintUnit = header (codes "PROCEDURE") (codes "DIVISION") ∷ [] in
      let one : tokens_before program ≡ length (all_tokens front) + 3 = all-length front head in
      let two : length (all_tokens (program_units program)) ≡ length (all_tokens front) + length (procedure_kinds program) = all-length front (procedure_units program program.paragraphs) in
      let three = ap length all-kinds ∙ length-append (divisions_kinds program fds storage) (procedure_kinds program) in
      omega (arith, one, two, three)

-- and those of the paragraphs behind them
pub split-units : (program : Program) → all_tokens (program_units program) ≡ all_tokens (units_before program) ++ all_tokens (paragraphs_units program program.paragraphs)
split-units program =
    let front : List PrintUnit = header (codes "IDENTIFICATION") (codes "DIVISION") ∷ program_id program.name ∷ environment_units program program.files ++ data_units program program.entries in
    let head : List PrintUnit = header (codes "PROCEDURE") (codes "DIVISION") ∷ [] in
    let back = all_tokens (paragraphs_units program program.paragraphs) in
    all-append front (procedure_units program program.paragraphs) ∙ (sym (append_assoc (all_tokens front) (all_tokens head) back) ∙ ap (λ list. list ++ back) (sym (all-append front head)))
