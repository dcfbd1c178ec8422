use Rattle.std.proofs.Common.{◌+◌, ◌∷◌, drop, sym, ap, ◌∙◌, arith}
use Rattle.std.specs.Str.Lines.{lines}
use Rattle.std.proofs.lemmas.List.{take_rest}
use Rattle.ref_format.proofs.LineLemmas.{lines-first, lines-last}
use Rattle.ref_format.proofs.line.first_line.Goals as goal

pub returns-then-end-bytes-clause-first : goal.returns-then-end-bytes-clause-first
returns-then-end-bytes-clause-first c = lines-last c.args.bytes.now _ c.line_end-end.ensures.before c.requires c.if-end-bytes.true

pub returns-else-end-bytes-clause-first : goal.returns-else-end-bytes-clause-first
returns-else-end-bytes-clause-first c =
    let bytes = c.args.bytes.now in
    let end = c.line_end-end.result in
    lines-first bytes end c.line_end-end.ensures.before (omega arith) (c.line_end-end.ensures.found (omega arith))
    ∙ ap (λ line. line ∷ lines (drop (end + 1) bytes)) (sym c.without_return.ensures)
    ∙ ap (λ rest. c.without_return.result.now ∷ lines rest) (sym (take_rest bytes (end + 1)))
