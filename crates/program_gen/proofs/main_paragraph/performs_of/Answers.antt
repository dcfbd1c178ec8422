use Rattle.std.proofs.Common.{◌+◌, ◌-◌, ◌++◌, [], ◌∷◌, sym, ap, ◌∙◌}
use Rattle.std.proofs.lemmas.List.{append_assoc}
use Rattle.program_gen.specs.Generated.{performs_of, perform_group, sentence}
use Rattle.program_gen.proofs.GroupLemmas.{performs_begin}
use Rattle.program_gen.proofs.main_paragraph.performs_of.Goals as goal

pub loop-group-preserved : goal.loop-group-preserved
loop-group-preserved c =
    let later = performs_of (c.args.n + 1 - (c.loop-group.group + 1)) (c.loop-group.group + 1) in
    ap (λ s. s ++ later) (c.in_ok-push.ensures.ok ∙ ap (λ s. c.loop-group.sentences ++ s ∷ []) (c.in_ok-sentence.ensures ∙ ap sentence c.perform_group.ensures))
    ∙ append_assoc c.loop-group.sentences (sentence (perform_group c.loop-group.group) ∷ []) later
    ∙ ap (λ s. c.loop-group.sentences ++ s) (sym (performs_begin c.args.n c.loop-group.group c.loop-group-test.true))
    ∙ c.loop-group.invariant
