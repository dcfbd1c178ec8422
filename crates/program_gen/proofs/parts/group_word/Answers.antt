use Rattle.std.proofs.Common.{◌++◌, sym, ap, subst, ◌∙◌}
use Rattle.std.specs.Prelude.{codes}
use Rattle.cob_words.specs.numbered.Stem.{IsStem}
use Rattle.program_gen.proofs.NameLemmas.{group_is_stem}
use Rattle.program_gen.proofs.parts.group_word.Goals as goal

pub numbered-requires : goal.numbered-requires
numbered-requires c =
    subst IsStem (sym (c.as_slice.ensures ∙ c.in_ok-add.ensures.ok ∙ ap (λ t. t ++ codes "-") c.in_ok-stem.ensures))
    (group_is_stem c.args.group c.requires)
