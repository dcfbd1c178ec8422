use Rattle.std.proofs.Common.{◌+◌, drop, take, refl, sym}
use Rattle.program_points.specs.paths.Accepted.{lemma_ranges}
use Rattle.control_flow_theory.specs.language.Control.{control_of}
use Rattle.program_points.specs.numbering.Kind.{never_first_of}
use Rattle.overlap_trail.specs.Checking.{exits_of, aim_of, aim_behind}
use Rattle.overlap_trail.proofs.Trails.{hops-on, hops-back, same-leads}
use Rattle.overlap_trail.proofs.checking.hops_lead.Goals as goal

pub returns-then-not-leads : goal.returns-then-not-leads
returns-then-not-leads c =
    let never = never_first_of c.args.program.now.files in
    let p = control_of c.args.program.now in
    let ranges = lemma_ranges c.args.lemmas.now in
    let hops = c.args.hops.now in
    let n = c.loop-number.number in
    let hop = c.index-hops-number.result in
    let front = take (n + 1) hops in
    let given = aim_of c.goal_of-goal.result front in
    let wanted = aim_behind c.args.fault (exits_of front) (drop (n + 1) hops) in
    let same = c.goal_of-goal.ensures front in (
      (λ h. absurd (let k : ⊥ = cc in k)),
      (λ h.
          let on = hops-on never p ranges c.args.fault hops n hop c.loop-number-test.true c.index-hops-number.is (c.loop-number.invariant.onward h) in
          c.if-not-leads.ensures.1 (same-leads never p ranges hop.range wanted given hop.moves c.as_slice.result.now (sym same) (sym c.as_slice.ensures) on.0)),
    )

pub loop-number-preserved : goal.loop-number-preserved
loop-number-preserved c =
    let never = never_first_of c.args.program.now.files in
    let p = control_of c.args.program.now in
    let ranges = lemma_ranges c.args.lemmas.now in
    let hops = c.args.hops.now in
    let n = c.loop-number.number in
    let hop = c.index-hops-number.result in
    let front = take (n + 1) hops in
    let given = aim_of c.goal_of-goal.result front in
    let wanted = aim_behind c.args.fault (exits_of front) (drop (n + 1) hops) in
    let same = c.goal_of-goal.ensures front in
    record {
      onward = λ h. (hops-on never p ranges c.args.fault hops n hop c.loop-number-test.true c.index-hops-number.is (c.loop-number.invariant.onward h)).1;
      back = λ h. c.loop-number.invariant.back (hops-back never p ranges c.args.fault hops n hop c.loop-number-test.true c.index-hops-number.is
          (same-leads never p ranges hop.range given wanted c.as_slice.result.now hop.moves same c.as_slice.ensures (c.if-not-leads.ensures.0 refl)) h);
    }
