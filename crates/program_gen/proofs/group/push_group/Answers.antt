use Rattle.std.proofs.Common.{ap, refl, ◌∙◌}
use Rattle.program_gen.specs.Generated.{jumping, leaving, next_of}
use Rattle.program_gen.proofs.GroupLemmas.{four_behind, grown}
use Rattle.program_gen.proofs.group.push_group.Goals as goal

pub returns-clause-added : goal.returns-clause-added
returns-clause-added c =
    let ps = c.args.paragraphs.now in
    let g = c.args.group in
    let x = c.args.x in
    let second = c.next_of-second.ensures ∙ ap next_of c.next_of-first.ensures in
    let third = c.next_of-third.ensures ∙ ap next_of second in
    let a = c.in_ok-jumping.ensures ∙ ap (jumping g 1) c.next_of-first.ensures in
    let b = c.in_ok-jumping-2.ensures ∙ ap (jumping g 2) second in
    let d = c.in_ok-jumping-3.ensures ∙ ap (jumping g 3) third in
    let one = grown _ _ _ _ _ c.in_ok-push.ensures.ok refl a in
    let two = grown _ _ _ _ _ c.in_ok-push-2.ensures.ok one b in
    let three = grown _ _ _ _ _ c.in_ok-push-3.ensures.ok two d in
    let four = grown _ _ _ _ _ c.in_ok-push-4.ensures.ok three c.in_ok-leaving.ensures in
    four ∙ four_behind ps (jumping g 1 (next_of x)) (jumping g 2 (next_of (next_of x))) (jumping g 3 (next_of (next_of (next_of x)))) (leaving g)
