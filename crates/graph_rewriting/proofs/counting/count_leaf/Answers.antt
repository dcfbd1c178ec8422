use Rattle.std.proofs.Common.{ap, sym, ◌∙◌}
use Rattle.std.specs.Option.{option_copied, option_copied_mut}
use Rattle.graph_rewriting.proofs.CountRows.{counts_past, counts_empty, counts_leaf, rewrites_value}
use Rattle.graph_rewriting.proofs.counting.count_leaf.Goals as goal

pub returns-in-None : goal.returns-in-None
returns-in-None c =
    counts_past c.args.keys.now c.args.comes c.args.label c.args.slots.now
    (sym c.get.ensures.value ∙ ap option_copied c.in-None.is)

pub returns-in-None-get_mut : goal.returns-in-None-get_mut
returns-in-None-get_mut c =
    counts_empty c.args.keys.now c.args.comes c.args.label c.in-Some.key.now c.args.slots.now
    (sym c.get.ensures.value ∙ ap option_copied c.in-Some.is)
    (sym c.get_mut.ensures.value ∙ ap option_copied_mut c.in-None-get_mut.is)

pub returns-in-Some-get_mut : goal.returns-in-Some-get_mut
returns-in-Some-get_mut c =
    let before = c.in-Some-get_mut.kept.now in
    let key = c.in-Some.key.now in
    counts_leaf c.args.keys.now c.args.comes c.args.label key c.args.slots.now _ before c.turn.new.kept
    (sym c.get.ensures.value ∙ ap option_copied c.in-Some.is)
    (rewrites_value c.args.slots.now key before c.turn.new.kept
    (sym c.get_mut.ensures.value ∙ ap option_copied_mut c.in-Some-get_mut.is))
    c.turn.ensures.node c.turn.ensures.count
