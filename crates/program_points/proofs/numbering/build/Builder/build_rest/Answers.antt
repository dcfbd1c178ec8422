use Rattle.std.proofs.Common.{◌∙◌, drop, length, map, refl, sym, subst, arith}
use Rattle.cob_tree.specs.declared.program.Sentence.{Sentence}
use Rattle.control_flow_theory.specs.language.Language.{Paragraph}
use Rattle.control_flow_theory.specs.language.Control.{seen_stmts, seen_sentence}
use Rattle.program_points.specs.declared.numbering.build.Exits.{Exits}
use Rattle.program_points.specs.numbering.Kind.{never_first_of}
use Rattle.program_points.specs.numbering.Build.{Builds, BuildsRest}
use Rattle.program_points.proofs.numbering_lemmas.Sentences.{rest-none, rest-also, sentences-past, sentences-down, sentences-whole}
use Rattle.program_points.proofs.numbering.build.Builder.build_rest.Goals as goal

pub loop-at-init : goal.loop-at-init
loop-at-init c =
    let old = c.args.self.now in
    let n = c.args.here.number in
    let never = never_first_of c.args.files.now in
    let list = c.as_slice-list.result.now in
    record {
      count = refl;
      longer = omega arith;
      builds = subst (λ (ss : Paragraph). BuildsRest never old.count n old.places.items old.places.items old.ranges.items old.ranges.items ss c.end_place-end.result) (sym (sentences-past c.args.here.last list (length list) (omega arith)))
          (rest-none never old.count n old.places.items old.ranges.items c.end_place-end.result c.end_place-end.ensures);
    }

pub loop-at-preserved : goal.loop-at-preserved
loop-at-preserved c =
    let old = c.args.self.now in
    let n = c.args.here.number in
    let last = c.args.here.last in
    let never = never_first_of c.args.files.now in
    let list = c.as_slice-list.result.now in
    let mid = c.loop-at.self in
    let closed = c.add.new.self in
    let new = c.build_stmts.new.self in
    let sentence = c.index-list-at.result in
    let exits : Exits = record { after = c.in_ok-closing.closing; leave = c.loop-at.next; broken = c.end_place-end.result; cycled = c.end_place-end.result } in
    let built = subst (λ (s : Sentence). Builds never closed.count n closed.places.items new.places.items closed.ranges.items new.ranges.items (seen_stmts last s.stmts) exits c.in_ok-next.next) (sym c.index-list-at.is) c.in_ok-next.ensures.builds in
    record {
      count = c.in_ok-next.ensures.count ∙ c.in_ok-closing.ensures.count ∙ c.loop-at.invariant.count;
      longer = omega (arith, c.loop-at.invariant.longer, c.in_ok-closing.ensures.longer, c.in_ok-next.ensures.longer);
      builds = subst (λ (ss : Paragraph). BuildsRest never old.count n old.places.items new.places.items old.ranges.items new.ranges.items ss c.in_ok-next.next) (sym (sentences-down last list c.loop-at.at sentence (omega (arith, c.loop-at-test.true)) (omega (arith, c.loop-at.auto.at)) c.index-list-at.is))
          (rest-also never old.count n closed.count old.places.items mid.places.items closed.places.items new.places.items old.ranges.items mid.ranges.items closed.ranges.items new.ranges.items (seen_stmts last sentence.stmts) (map (seen_sentence last) (drop c.loop-at.at list)) exits c.end_place-end.result c.loop-at.next c.in_ok-closing.closing c.in_ok-next.next
          c.end_place-end.ensures refl (c.in_ok-closing.ensures.count ∙ c.loop-at.invariant.count) c.in_ok-closing.ensures.added.0 c.in_ok-closing.ensures.added.1 c.in_ok-closing.ensures.ranges c.loop-at.invariant.builds built);
    }

pub returns-clause-builds : goal.returns-clause-builds
returns-clause-builds c =
    let old = c.args.self.now in
    let mid = c.loop-at.self in
    subst (λ (ss : Paragraph). BuildsRest (never_first_of c.args.files.now) old.count c.args.here.number old.places.items mid.places.items old.ranges.items mid.ranges.items ss c.loop-at.next)
    (sentences-whole c.args.here.last c.args.sentences.now c.as_slice-list.result.now c.loop-at.at c.as_slice-list.ensures (omega (arith, c.loop-at-test.false))) c.loop-at.invariant.builds
