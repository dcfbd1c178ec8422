-- A program that is read has a paragraph.
use Rattle.std.proofs.Common.{◌<◌, ℕ, List, [], ◌∷◌, length, sym, subst, arith}
use Rattle.cob_tree.specs.declared.program.Paragraph.{Paragraph}
use Rattle.cob_tree.specs.declared.program.Program.{Program}
use Rattle.parser_combinators.specs.Form.{Input}
use Rattle.parser_combinators.specs.Reading.{start}
use Rattle.cobol_grammar.specs.stmt_forms.Part.{Parts}
use Rattle.cobol_grammar.specs.stmt_forms.Paragraph as paragraphs
use Rattle.cobol_grammar.specs.stmt_forms.Paragraph.{at_least_one, with_pending}
use Rattle.cobol_grammar.specs.Whole.{parts_of}
use Rattle.cobol_read.specs.declared.program.Declarations.{Declarations}
use Rattle.cobol_read.specs.declared.program.ProgramDraft.{ProgramDraft}
use Rattle.cobol_read.specs.Program as forms
use Rattle.cobol_read.specs.Program.{declarations_of}
use Rattle.cobol_read.specs.Reading.{Reads}

abbrev HasSome : List Paragraph → Type 0
HasSome found = 0 < length found

one-at-least : (found : List Paragraph) → HasSome (at_least_one found)
one-at-least [] = omega arith
one-at-least (first ∷ others) = omega arith

paragraphs-some : {Side Known : Type 0} (parts : Parts Side Known) (p : Input) (found : List Paragraph) (q : Input) → (paragraphs.paragraphs parts).spells p found q → HasSome found
unfolding paragraphs.paragraphs
paragraphs-some parts p found q h =
    let last = h.3 in
    subst HasSome last.3.0 (one-at-least (with_pending last.0.pending last.0.done))

division-some : {Side Known : Type 0} (parts : Parts Side Known) (p : Input) (found : List Paragraph) (q : Input) → (paragraphs.division parts).spells p found q → HasSome found
unfolding paragraphs.division
division-some parts p found q h =
    let ended = h.3 in
    let last = ended.3 in
    subst HasSome last.3.0 (paragraphs-some parts p h.0 h.1 h.2)

procedures-some : (known : Declarations) (p : Input) (found : List Paragraph) (q : Input) → (forms.procedure_division known).spells p found q → HasSome found
unfolding forms.procedure_division
procedures-some known p found q h = division-some (parts_of known.names known.entries known.procedures) h.1 found q h.3

program-some : (known : Declarations) (p : Input) (draft : ProgramDraft) (q : Input) → (forms.program known).spells p draft q → HasSome draft.paragraphs
unfolding forms.program
program-some known p draft q h =
    let found = h.3 in
    subst (λ (d : ProgramDraft). HasSome d.paragraphs) found.3.0 (procedures-some known h.1 found.0 found.1 found.2)

pub read_some : (bytes : List ℕ) (program : Program) → Reads bytes program → 0 < length program.paragraphs
read_some bytes program reads =
    let syntax = reads.has_room.has_syntax in
    let spelled = syntax.spelled in
    subst (λ (p : Program). HasSome p.paragraphs) (sym syntax.is) (program-some (declarations_of syntax.tokens) (start syntax.tokens) syntax.draft spelled.0 spelled.1)
