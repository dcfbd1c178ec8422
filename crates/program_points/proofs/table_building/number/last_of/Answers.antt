use Rattle.std.proofs.Common.{◌+◌, ◌∙◌, get_or, refl, sym, Some, arith}
use Rattle.std.proofs.lemmas.Option.{slice_get-get_or}
use Rattle.program_points.proofs.table_building_lemmas.Sections.{at-up, last-past, last-here, last-later}
use Rattle.program_points.proofs.table_building.number.last_of.Goals as goal

pub returns-then-up-paragraphs : goal.returns-then-up-paragraphs
returns-then-up-paragraphs c = last-past c.args.paragraphs.now c.args.number (c.args.number + 1) refl (omega arith)

pub returns-then-is_some : goal.returns-then-is_some
returns-then-is_some c =
    let ps = c.args.paragraphs.now in
    let n = c.args.number in
    let other = get_or ps (n + 1) c.index-paragraphs-up.result in
    last-here ps n other (at-up ps n (n + 1) (Some other) refl (slice_get-get_or ps (n + 1) c.index-paragraphs-up.result c.if-up-paragraphs.false)) (sym c.is_some.ensures ∙ c.if-is_some.true)

pub returns : goal.returns
returns c =
    let ps = c.args.paragraphs.now in
    let n = c.args.number in
    let other = get_or ps (n + 1) c.index-paragraphs-up.result in
    last-later ps n c.args.next other (at-up ps n (n + 1) (Some other) refl (slice_get-get_or ps (n + 1) c.index-paragraphs-up.result c.if-up-paragraphs.false)) (sym c.is_some.ensures ∙ c.if-is_some.false)
    (c.requires (omega (arith, c.if-up-paragraphs.false)))
