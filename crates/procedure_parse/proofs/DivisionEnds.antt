-- No token is left behind a division.
use Rattle.std.proofs.Common.{◌≡◌, List, [], sym, ap, ◌∙◌}
use Rattle.cob_tree.specs.declared.program.Paragraph.{Paragraph}
use Rattle.parser_combinators.specs.Form.{Input, Got}
use Rattle.parser_combinators.specs.Part.{ended}
use Rattle.parser_combinators.proofs.Lawful.{then_got, got_is}
use Rattle.parser_combinators.proofs.Reader.{ended_rest}
use Rattle.cobol_grammar.specs.stmt_forms.Part.{Parts}
use Rattle.cobol_grammar.specs.stmt_forms.Paragraph as forms

pub division_ends : {Side Known : Type 0} (parts : Parts Side Known) (p : Input) (found : List Paragraph) (q : Input) → (forms.division parts).reads p ≡ Got found q → q.rest ≡ []
unfolding forms.division
division_ends parts p found q e =
    let a = then_got ((forms.paragraphs parts).reads p) _ found q e in
    let b = then_got ((forms.end_part parts).reads a.1) _ found q a.3 in
    let c = then_got (ended.reads b.1) _ found q b.3 in
    ap (λ r. r.rest) (sym (got_is a.0 found c.1 q c.3).1) ∙ (ended_rest b.1 c.0 c.1 c.2).1
