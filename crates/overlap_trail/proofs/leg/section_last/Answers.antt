use Rattle.std.proofs.Common.{◌≡◌, ◌∙◌, suc, drop, get_or, slice_get, Some, refl, ap, sym, arith}
use Rattle.std.proofs.lemmas.Option.{slice_get-get_or}
use Rattle.control_flow_theory.specs.language.Control.{section_last}
use Rattle.program_points.proofs.table_building_lemmas.Sections.{last-later}
use Rattle.overlap_trail.proofs.leg.section_last.Goals as goal

pub loop-next-preserved : goal.loop-next-preserved
loop-next-preserved c =
    let ps = c.args.paragraphs.now in
    let last = c.loop-next.last in
    let next = c.loop-next.next in
    let other = get_or ps next c.index-paragraphs-next.result in
    let up : suc last ≡ next = omega (arith, c.loop-next.invariant.up) in
    let there : slice_get ps (suc last) ≡ Some other = ap (λ n. slice_get ps n) up ∙ slice_get-get_or ps next c.index-paragraphs-next.result c.loop-next-test.true in
    record {
      up = refl;
      last = c.loop-next.invariant.last ∙ sym (last-later ps last (section_last (suc last) (drop (suc (suc last)) ps)) other there (sym c.is_some.ensures ∙ c.if-is_some.false) refl)
          ∙ ap (λ n. section_last n (drop (suc n) ps)) up;
    }
