use Rattle.std.proofs.Common.{refl}
use Rattle.control_flow_theory.specs.language.Control.{control_of}
use Rattle.program_points.specs.numbering.Kind.{never_first_of}
use Rattle.overlap_trail.proofs.Trails.{accepted, accepted-parts}
use Rattle.overlap_trail.proofs.checking.check.Goals as goal

pub returns : goal.returns
returns c =
    let never = never_first_of c.args.program.now.files in
    let p = control_of c.args.program.now in
    let lemmas = c.as_slice-lemmas.result.now in
    let hops = c.as_slice-hops.result.now in (
      (λ h. accepted never p c.args.trail.now lemmas hops c.as_slice-lemmas.ensures c.as_slice-hops.ensures (c.if-not-begins_in_main.ensures.0 refl) (c.if-not-lemmas_hold.ensures.0 refl) (c.hops_lead.ensures.0 h)),
      (λ h. c.hops_lead.ensures.1 (accepted-parts never p c.args.trail.now lemmas hops c.as_slice-lemmas.ensures c.as_slice-hops.ensures h).2),
    )

pub returns-then-not-begins_in_main : goal.returns-then-not-begins_in_main
returns-then-not-begins_in_main c =
    let never = never_first_of c.args.program.now.files in
    let p = control_of c.args.program.now in (
      (λ h. absurd (let k : ⊥ = cc in k)),
      (λ h. c.if-not-begins_in_main.ensures.1 (accepted-parts never p c.args.trail.now c.as_slice-lemmas.result.now c.as_slice-hops.result.now c.as_slice-lemmas.ensures c.as_slice-hops.ensures h).0),
    )

pub returns-then-not-lemmas_hold : goal.returns-then-not-lemmas_hold
returns-then-not-lemmas_hold c =
    let never = never_first_of c.args.program.now.files in
    let p = control_of c.args.program.now in (
      (λ h. absurd (let k : ⊥ = cc in k)),
      (λ h. c.if-not-lemmas_hold.ensures.1 (accepted-parts never p c.args.trail.now c.as_slice-lemmas.result.now c.as_slice-hops.result.now c.as_slice-lemmas.ensures c.as_slice-hops.ensures h).1),
    )
