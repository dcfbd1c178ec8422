use Rattle.std.proofs.Common.{sym, ◌∙◌, ap, length, get_or}
use Rattle.cobol_lex.specs.Number.{number_kind}
use Rattle.cobol_lex.specs.Lexeme.{lexeme_of, mark_lexeme}
use Rattle.cobol_lex.proofs.LexemeLemmas.{plain_lexeme-number, plain_lexeme-mark, lexeme_answers, rest_whole, answers_along, answers_itself}
use Rattle.cobol_lex.proofs.lexeme.plain_lexeme.Goals as goal

pub returns-then-begins_number : goal.returns-then-begins_number
returns-then-begins_number c =
    let run = c.number_run-run.result.now in
    answers_along _ _ _ _
    (plain_lexeme-number c.args.before c.args.line c.args.bytes.now (sym c.is_quote.ensures ∙ c.if-is_quote.false) (sym c.begins_number.ensures ∙ c.if-begins_number.true)
    ∙ ap (λ r. lexeme_of (length r) (number_kind c.args.line r)) (sym c.number_run-run.ensures))
    c.lexeme_of.ensures
    (lexeme_answers (length run) (number_kind c.args.line run) c.number_kind.result c.number_kind.ensures)

pub returns-else-is_letter : goal.returns-else-is_letter
returns-else-is_letter c =
    let bytes = c.args.bytes.now in
    let same = c.mark_lexeme.ensures ∙ ap (mark_lexeme c.args.line (get_or bytes 0 0)) (rest_whole bytes) in
    let plain = plain_lexeme-mark c.args.before c.args.line bytes c.in-len1-up.len_at_least (sym c.is_quote.ensures ∙ c.if-is_quote.false) (sym c.begins_number.ensures ∙ c.if-begins_number.false) (sym c.is_letter.ensures ∙ c.if-is_letter.false) in
    answers_along _ _ _ _ plain same (answers_itself _)
