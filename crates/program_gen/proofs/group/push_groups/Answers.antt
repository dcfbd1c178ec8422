use Rattle.std.proofs.Common.{◌+◌, ◌-◌, ◌++◌, sym, ap, ◌∙◌}
use Rattle.std.proofs.lemmas.List.{append_assoc}
use Rattle.program_gen.specs.Generated.{groups_of, group_of, next_of}
use Rattle.program_gen.proofs.GroupLemmas.{groups_begin}
use Rattle.program_gen.proofs.group.push_groups.Goals as goal

pub loop-group-preserved : goal.loop-group-preserved
loop-group-preserved c =
    let left = c.args.n + 1 - (c.loop-group.group + 1) in
    let x = c.loop-group.x in
    let used = next_of (next_of (next_of x)) in
    ap (λ z. c.push_group.new.paragraphs ++ groups_of left (c.loop-group.group + 1) z) c.in_ok-x.ensures.last
    ∙ ap (λ ps. ps ++ groups_of left (c.loop-group.group + 1) used) c.in_ok-x.ensures.added
    ∙ append_assoc c.loop-group.paragraphs (group_of c.loop-group.group x) (groups_of left (c.loop-group.group + 1) used)
    ∙ ap (λ ps. c.loop-group.paragraphs ++ ps) (sym (groups_begin c.args.n c.loop-group.group x c.loop-group-test.true))
    ∙ c.loop-group.invariant
