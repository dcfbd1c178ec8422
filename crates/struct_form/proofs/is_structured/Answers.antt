use Rattle.std.proofs.Common.{◌≡◌, ◌∙◌, sym, subst, length, true}
use Rattle.struct_form.specs.Nested.{paragraphs_nest}
use Rattle.struct_form.specs.Stops.{first_stops}
use Rattle.struct_form.specs.Performed.{EachPerformed}
use Rattle.struct_form.proofs.Structured.{structured_by_tests, structured_performed}
use Rattle.struct_form.proofs.is_structured.Goals as goal

pub returns : goal.returns
returns c =
    let program = c.args.program.now in
    let same = c.as_slice-paragraphs.ensures in
    let nests = sym c.paragraphs_nest.ensures ∙ c.if-not-paragraphs_nest.false in
    let stops = sym c.first_stops.ensures ∙ c.if-not-first_stops.false in (
      λ e. structured_by_tests program
          (subst (λ ps. paragraphs_nest (length ps) 0 ps ≡ true) same nests)
          (subst (λ ps. first_stops ps ≡ true) same stops)
          (subst EachPerformed same (c.each_performed.ensures.0 e)),
      λ h. c.each_performed.ensures.1 (subst EachPerformed (sym same) (structured_performed program h)),
    )
