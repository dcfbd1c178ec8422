-- In a whole program that is read EXIT stands alone.
use Rattle.std.proofs.Common.{◌≡◌, ◌<◌, ◌+◌, ℕ, true, List, length, None, sym, subst, arith}
use Rattle.std.specs.Prelude.{codes}
use Rattle.cob_tree.specs.declared.program.Program.{Program}
use Rattle.grammar_laws.specs.short_lists.lone_exits.Alone.{paragraphs_exit_alone, exits_alone}
use Rattle.parser_combinators.specs.Reading.{start}
use Rattle.parser_combinators.proofs.MakerLaws as makers
use Rattle.cobol_grammar.proofs.data_forms_lemmas.DivisionLaws.{divisions}
use Rattle.cobol_grammar.proofs.PartLaws as part_laws
use Rattle.cobol_read.specs.declared.program.Declarations.{Declarations}
use Rattle.cob_base.specs.Limit.{max_tokens}
use Rattle.cobol_read.specs.Program as forms
use Rattle.cobol_read.specs.Program.{declarations_of}
use Rattle.cobol_read.specs.Reading.{HasSyntax, Reads}
use Rattle.cobol_read.specs.StatusLaws as status_laws
use Rattle.cobol_read.proofs.ProgramLaws as program_laws
use Rattle.grammar_laws.specs.short_lists.Giving.{GivesOfFew}
use Rattle.grammar_laws.proofs.short_lists_lemmas.Giving.{any, pure, ◌>>=◌, ◌>>◌}
use Rattle.grammar_laws.proofs.short_lists_lemmas.exit_stmts_lemmas.Paragraphs as paragraph_forms

-- ---- what the form of a program gives

header_law : makers.Law true forms.header
unfolding forms.header
header_law = makers.◌>>◌ (makers.key (codes "PROCEDURE")) (makers.◌>>◌ (makers.key (codes "DIVISION")) (makers.◌>>◌ makers.period makers.pure))

module _ (bound : ℕ) (known : Declarations) where
  procedure_division : GivesOfFew bound (forms.procedure_division known) (λ found. paragraphs_exit_alone found ≡ true)
  unfolding forms.procedure_division
  procedure_division =
      header_law >> paragraph_forms.division bound (part_laws.parts known.names known.entries known.procedures)

  program : GivesOfFew bound (forms.program known) (λ draft. paragraphs_exit_alone draft.paragraphs ≡ true)
  unfolding forms.program
  program = any (divisions (status_laws.status known.names known.entries)) >>= (λ before. procedure_division >>= (λ found. pure (λ w _. w)))

-- ---- of the tokens of a source

syntax-alone : (bytes : List ℕ) (found : Program) → HasSyntax bytes found None → exits_alone found ≡ true
syntax-alone bytes found h =
    let known = declarations_of h.tokens in
    let read = (program_laws.program known).lawful.complete (start h.tokens) h.draft h.spelled.0 h.spelled.1 in
    let few : length h.tokens < max_tokens + 1 = let n = h.has_words.has_few.few in omega (arith, n) in
    subst (λ program. exits_alone program ≡ true) (sym h.is)
    ((program (max_tokens + 1) known).gives (start h.tokens) h.draft h.spelled.0 read few).1

pub read-alone : (bytes : List ℕ) (program : Program) → Reads bytes program → exits_alone program ≡ true
read-alone bytes program reads = syntax-alone bytes program reads.has_room.has_syntax
