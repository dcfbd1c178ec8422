use Rattle.std.proofs.Common.{◌∙◌, ap, arith, get_or, length}
use Rattle.cobol_run.specs.Frames.{last_of, rest_of, sentences_before}
use Rattle.cobol_run.proofs.MachineLemmas.{rest_found, rest_past}
use Rattle.cobol_run.proofs.machine.Machine.go_to.Goals as goal

pub returns-in_ok-push_sentences-clause-rest : goal.returns-in_ok-push_sentences-clause-rest
returns-in_ok-push_sentences-clause-rest c =
    let last = last_of c.args.self.now.plan.program.now c.args.number in
    c.in_ok-push_sentences.ensures.rest last
    ∙ ap (λ list. sentences_before last list (rest_of last c.leave.new.frames)) c.as_slice-sentences.ensures
    ∙ ap (sentences_before last (get_or c.as_slice-paragraphs.result.now c.args.number c.index-paragraphs-number.result).sentences) (c.leave.ensures.rest last)
    ∙ rest_found c.args.self.now.plan.program.now c.args.number c.as_slice-paragraphs.result.now c.index-paragraphs-number.result c.as_slice-paragraphs.ensures c.if-number-paragraphs.true

pub returns-else-number-paragraphs-clause-rest : goal.returns-else-number-paragraphs-clause-rest
returns-else-number-paragraphs-clause-rest c =
    c.leave.ensures.rest (last_of c.args.self.now.plan.program.now c.args.number)
    ∙ rest_past c.args.self.now.plan.program.now c.args.number (omega (arith, c.if-number-paragraphs.false, ap length c.as_slice-paragraphs.ensures))
