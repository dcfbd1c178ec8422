-- No token is left behind a program.
use Rattle.std.proofs.Common.{◌≡◌, List, [], sym, ap, ◌∙◌}
use Rattle.cob_tree.specs.declared.program.Paragraph.{Paragraph}
use Rattle.parser_combinators.specs.Form.{Input, Got}
use Rattle.parser_combinators.specs.Part.{ended}
use Rattle.parser_combinators.proofs.Lawful.{then_got, got_is}
use Rattle.parser_combinators.proofs.Reader.{ended_rest}
use Rattle.cobol_grammar.specs.data_forms.Divisions.{divisions}
use Rattle.cobol_grammar.specs.stmt_forms.Part.{Parts}
use Rattle.cobol_grammar.specs.stmt_forms.Paragraph as paragraphs
use Rattle.cobol_grammar.specs.Whole.{parts_of}
use Rattle.cobol_read.specs.declared.program.Declarations.{Declarations}
use Rattle.cobol_read.specs.declared.program.ProgramDraft.{ProgramDraft}
use Rattle.cobol_read.specs.Program as forms
use Rattle.cobol_read.specs.Status.{status}

division_ends : {Side Known : Type 0} (parts : Parts Side Known) (p : Input) (found : List Paragraph) (q : Input) → (paragraphs.division parts).reads p ≡ Got found q → q.rest ≡ []
unfolding paragraphs.division
division_ends parts p found q e =
    let a = then_got ((paragraphs.paragraphs parts).reads p) _ found q e in
    let b = then_got ((paragraphs.end_part parts).reads a.1) _ found q a.3 in
    let c = then_got (ended.reads b.1) _ found q b.3 in
    ap (λ r. r.rest) (sym (got_is a.0 found c.1 q c.3).1) ∙ (ended_rest b.1 c.0 c.1 c.2).1

procedures_end : (known : Declarations) (p : Input) (found : List Paragraph) (q : Input) → (forms.procedure_division known).reads p ≡ Got found q → q.rest ≡ []
unfolding forms.procedure_division
procedures_end known p found q e =
    let a = then_got (forms.header.reads p) _ found q e in
    division_ends (parts_of known.names known.entries known.procedures) a.1 found q a.3

pub program_ends : (known : Declarations) (p : Input) (draft : ProgramDraft) (q : Input) → (forms.program known).reads p ≡ Got draft q → q.rest ≡ []
unfolding forms.program
program_ends known p draft q e =
    let a = then_got ((divisions (status known.names known.entries)).reads p) _ draft q e in
    let b = then_got ((forms.procedure_division known).reads a.1) _ draft q a.3 in
    ap (λ r. r.rest) (sym (got_is (record { divisions = a.0; paragraphs = b.0 }) draft b.1 q b.3).1)
    ∙ procedures_end known a.1 b.0 b.1 b.2
