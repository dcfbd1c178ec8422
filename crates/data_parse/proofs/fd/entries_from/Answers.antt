use Rattle.std.proofs.lemmas.Result.{err_from_is_err_and}
use Rattle.parser_combinators.proofs.Loops.{goes_on, ends_err, is_done, shrinks}
use Rattle.parser_combinators.proofs.MakerLaws.{added}
use Rattle.parser_combinators.specs.words.Constant.{is_digits}
use Rattle.cobol_grammar.specs.data_forms.Entry as entry_forms
use Rattle.cobol_grammar.proofs.data_forms_lemmas.EntryLaws as laws
use Rattle.data_parse.proofs.fd.entries_from.Goals as goal

pub returns-in_err-found : goal.returns-in_err-found
returns-in_err-found c =
    let p = err_from_is_err_and c.from_residual.result c.from_residual.ensures.1 in
    rw (p.1, p.2) (ends_err is_digits (λ front. added front laws.entry) c.items.found c.in_err-found.field-0.0 c.items.cursor c.entry_behind.new.cursor _ c.items-test.ensures c.in_err-found.ensures c.items.invariant)

pub items-smaller : goal.items-smaller
items-smaller c = shrinks (added c.items.found laws.entry) _ _ _ c.in_ok-found.ensures

pub items-preserved : goal.items-preserved
items-preserved c = goes_on is_digits (λ front. added front laws.entry) c.items.found _ c.items.cursor _ _ c.items-test.ensures c.in_ok-found.ensures c.items.invariant

pub returns : goal.returns
returns c = is_done is_digits (λ front. added front laws.entry) c.items.found c.items.cursor _ c.items-test.ensures c.items.invariant
