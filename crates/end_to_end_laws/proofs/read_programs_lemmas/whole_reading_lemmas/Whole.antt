-- What a whole program gives, over what its own tokens declare.
use Rattle.std.proofs.Common.{◌≡◌, ℕ, Bool, true, false, if◌then◌else◌, List, [], Option, Some, None, refl, sym, ◌∙◌, subst}
use Rattle.std.specs.Prelude.{codes}
use Rattle.cob_tree.specs.declared.program.Program.{Program}
use Rattle.cobol_lex.specs.declared.token.Token.{Token}
use Rattle.parser_combinators.specs.declared.note.Note.{Note}
use Rattle.parser_combinators.specs.Note.{precedes, earliest}
use Rattle.parser_combinators.specs.Form.{Outcome, Got, Stop}
use Rattle.parser_combinators.specs.Reading.{start}
use Rattle.parser_combinators.proofs.MakerLaws as makers
use Rattle.cobol_grammar.specs.declared.data_forms.draft.Divisions.{Divisions}
use Rattle.cobol_grammar.proofs.data_forms_lemmas.DivisionLaws.{divisions}
use Rattle.declaration_checks.specs.Declaring.{declared_of}
use Rattle.cobol_grammar.proofs.PartLaws as part_laws
use Rattle.cobol_read.specs.declared.program.Declarations.{Declarations}
use Rattle.cobol_read.specs.Program as forms
use Rattle.cobol_read.specs.Program.{nameless, statements_at, declared_by, declarations_from, declarations_of}
use Rattle.cobol_read.specs.Reading.{HasSyntax, Reads}
use Rattle.cobol_read.specs.StatusLaws as status_laws
use Rattle.cobol_read.proofs.ProgramLaws as program_laws
use Rattle.grammar_laws.specs.form_results.Giving.{Gives}
use Rattle.grammar_laws.specs.form_results.Numbered.{IsNumbered}
use Rattle.grammar_laws.proofs.form_results_lemmas.Giving.{any, still, pure, ◌>>=◌, ◌>>◌}
use Rattle.grammar_laws.proofs.well_scoped_lemmas.named_tokens_lemmas.Tokens.{numbered}
use Rattle.program_facts.specs.whole_counts.Whole.{counts_whole}
use Rattle.grammar_laws.specs.whole_counts.whole_entries.Fitting.{NamesFit}
use Rattle.grammar_laws.proofs.whole_counts_lemmas.whole_entries_lemmas.Declared.{entries-short}
use Rattle.grammar_laws.proofs.whole_counts_lemmas.whole_entries_lemmas.Fitting.{entries-fit}
use Rattle.grammar_laws.specs.whole_counts.whole_stmts.Paragraph.{paragraphs_count_whole}
use Rattle.grammar_laws.proofs.whole_counts_lemmas.whole_stmts_lemmas.Paragraphs as paragraph_forms
use Rattle.grammar_laws.proofs.whole_counts_lemmas.whole_division_lemmas.Parts as division_parts

none_of : (early late : Option Note) → earliest early late ≡ None → (early ≡ None) × (late ≡ None)
none_of None late e = (refl, e)
none_of (Some early) None e = absurd cc
none_of (Some early) (Some late) e = go (precedes late early) e
  where
    go : (b : Bool) → (if b then Some late else Some early) ≡ None → (Some early ≡ None) × (Some late ≡ None)
    go true e = absurd cc
    go false e = absurd cc

-- ---- what the form of a program gives

header_law : makers.Law true forms.header
unfolding forms.header
header_law = makers.◌>>◌ (makers.key (codes "PROCEDURE")) (makers.◌>>◌ (makers.key (codes "DIVISION")) (makers.◌>>◌ makers.period makers.pure))

module _ (known : Declarations) (fit : NamesFit known.names known.entries) where
  procedure_division : Gives IsNumbered (forms.procedure_division known) (λ found. paragraphs_count_whole known.entries found ≡ true)
  unfolding forms.procedure_division
  procedure_division =
      any header_law >> still (paragraph_forms.division known.entries (part_laws.parts known.names known.entries known.procedures)
      (division_parts.parts known.names known.entries known.procedures fit))

  program : Gives IsNumbered (forms.program known) (λ draft. paragraphs_count_whole known.entries draft.paragraphs ≡ true)
  unfolding forms.program
  program = any (divisions (status_laws.status known.names known.entries)) >>= (λ before. procedure_division >>= (λ found. pure (λ w _. w)))

-- ---- over what its own tokens declare

declared-fit : (tokens : List Token) (from : ℕ) (o : Outcome Divisions) →
    NamesFit (declarations_from tokens (declared_by o) from).names (declarations_from tokens (declared_by o) from).entries
declared-fit tokens from (Got found behind) = entries-fit (declared_of found).files (declared_of found).entries (entries-short found)
declared-fit tokens from (Stop why rest) = entries-fit [] [] refl

syntax-whole : (bytes : List ℕ) (found : Program) → HasSyntax bytes found None → counts_whole found ≡ true
syntax-whole bytes found h =
    let words = h.has_words.has_few in
    let known = declarations_of h.tokens in
    let none = none_of known.fault h.noted (sym h.fault_is) in
    let read = (program_laws.program known).lawful.complete (start h.tokens) h.draft h.spelled.0 h.spelled.1 in
    let are = numbered words.has_tokens.text h.tokens words.has_tokens.lexed in
    let fit = declared-fit h.tokens (statements_at h.tokens (nameless h.tokens)) (nameless h.tokens) in
    subst (λ program. counts_whole program ≡ true) (sym h.is)
    ((program known fit).gives (start h.tokens) h.draft h.spelled.0 read are (h.spelled.3 ∙ none.1)).1

pub read-whole : (bytes : List ℕ) (program : Program) → Reads bytes program → counts_whole program ≡ true
read-whole bytes program reads = syntax-whole bytes program reads.has_room.has_syntax
