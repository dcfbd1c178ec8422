-- No range of a program that is read has as many nodes as a state item has numbers.
use Rattle.std.proofs.Common.{◌≤◌, ◌+◌, ℕ, true, List, None, subst, sym, arith}
use Rattle.std.specs.Prelude.{codes}
use Rattle.cob_base.specs.Limit.{max_tokens}
use Rattle.cob_tree.specs.declared.program.Program.{Program}
use Rattle.parser_combinators.specs.Reading.{start}
use Rattle.parser_combinators.proofs.MakerLaws as makers
use Rattle.cobol_grammar.proofs.data_forms_lemmas.DivisionLaws.{divisions}
use Rattle.cobol_grammar.proofs.PartLaws as part_laws
use Rattle.cobol_read.specs.declared.program.Declarations.{Declarations}
use Rattle.cobol_read.specs.Program as forms
use Rattle.cobol_read.specs.Program.{declarations_of}
use Rattle.cobol_read.specs.Reading.{HasSyntax, Reads}
use Rattle.cobol_read.specs.StatusLaws as status_laws
use Rattle.cobol_read.proofs.ProgramLaws as program_laws
use Rattle.end_to_end_laws.proofs.rewriting_lemmas.weights.Weights.{paragraphs_weigh}
use Rattle.end_to_end_laws.proofs.rewriting_lemmas.weights.Weighing.{Weighs, any, pure, ◌>>=◌}
use Rattle.end_to_end_laws.proofs.rewriting_lemmas.weights.Paragraphs as paragraph_forms

-- ---- what the form of a program gives

header_law : makers.Law true forms.header
unfolding forms.header
header_law = makers.◌>>◌ (makers.key (codes "PROCEDURE")) (makers.◌>>◌ (makers.key (codes "DIVISION")) (makers.◌>>◌ makers.period makers.pure))

module _ (known : Declarations) where
  procedure_division : Weighs 2 (forms.procedure_division known) paragraphs_weigh
  unfolding forms.procedure_division
  procedure_division =
      any header_law >>= (λ _. paragraph_forms.division (part_laws.parts known.names known.entries known.procedures))

  program : Weighs 2 (forms.program known) (λ draft. paragraphs_weigh draft.paragraphs)
  unfolding forms.program
  program = any (divisions (status_laws.status known.names known.entries)) >>= (λ before. procedure_division >>= (λ found. pure (omega arith)))

-- ---- of the tokens of a source

syntax-weighs : (bytes : List ℕ) (found : Program) → HasSyntax bytes found None → paragraphs_weigh found.paragraphs ≤ max_tokens + 2
syntax-weighs bytes found h =
    let known = declarations_of h.tokens in
    let read = (program_laws.program known).lawful.complete (start h.tokens) h.draft h.spelled.0 h.spelled.1 in
    let few = h.has_words.has_few.few in
    let weight = (program known).gives (start h.tokens) h.draft h.spelled.0 read in
    subst (λ (program : Program). paragraphs_weigh program.paragraphs ≤ max_tokens + 2) (sym h.is) (omega (arith, few, weight))

pub read-weighs : (bytes : List ℕ) (program : Program) → Reads bytes program → paragraphs_weigh program.paragraphs ≤ max_tokens + 2
read-weighs bytes program reads = syntax-weighs bytes program reads.has_room.has_syntax
