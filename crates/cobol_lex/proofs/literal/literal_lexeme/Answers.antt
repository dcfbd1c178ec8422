use Rattle.std.proofs.Common.{sym, ap, ◌∙◌, ◌≤◌, ◌+◌, rules, length, drop, arith, get_or, length-drop}
use Rattle.cobol_lex.specs.Literal.{quoted_by}
use Rattle.cobol_lex.proofs.LexemeLemmas.{rest_whole}
use Rattle.cobol_lex.proofs.LiteralLemmas.{quoted_within}
use Rattle.cobol_lex.proofs.literal.literal_lexeme.Goals as goal

pub overflow_add-result : goal.overflow_add-result
overflow_add-result c =
    let bytes = c.args.bytes.now in
    let mark = get_or bytes 0 0 in
    let within : c.in-Some.field-0.taken ≤ length (drop 1 bytes) =
    quoted_within mark (drop 1 bytes) c.in-Some.field-0 (sym (c.in_ok-value.ensures ∙ ap (quoted_by mark) (rest_whole bytes)) ∙ c.in-Some.is) in
    let shorter : 1 + c.in-Some.field-0.taken ≤ length bytes = omega (arith, length-drop 1 bytes, c.in-len1-up.len_at_least) in
    search rules
