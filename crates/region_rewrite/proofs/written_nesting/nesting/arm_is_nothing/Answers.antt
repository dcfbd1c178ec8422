use Rattle.std.proofs.Common.{◌&&◌, ap, ap₂, ◌∙◌}
use Rattle.branch_tree.specs.Tree.{seen_body}
use Rattle.region_rewrite.specs.written_nesting.Nesting.{is_nothing}
use Rattle.region_rewrite.proofs.written_nesting_lemmas.NestingRows.{arm_nothing}
use Rattle.region_rewrite.proofs.written_nesting.nesting.arm_is_nothing.Goals as goal

pub returns : goal.returns
returns c =
    c.both.ensures
    ∙ ap₂ (λ a b. a && b) c.is_nothing.ensures c.last_is_nothing.ensures
    ∙ arm_nothing c.args.tree.now
