use Rattle.std.proofs.Common.{take, refl, sym}
use Rattle.control_flow_theory.specs.language.Control.{control_of}
use Rattle.program_points.specs.numbering.Kind.{never_first_of}
use Rattle.program_points.specs.paths.Accepted.{Return, lemma_ranges}
use Rattle.overlap_trail.proofs.Trails.{lemmas-on, lemmas-back, same-leads}
use Rattle.overlap_trail.proofs.checking.lemmas_hold.Goals as goal

pub returns-then-not-leads : goal.returns-then-not-leads
returns-then-not-leads c =
    let never = never_first_of c.args.program.now.files in
    let p = control_of c.args.program.now in
    let lemmas = c.args.lemmas.now in
    let n = c.loop-number.number in
    let lemma = c.index-lemmas-number.result in (
      (λ h. absurd (let k : ⊥ = cc in k)),
      (λ h.
          let on = lemmas-on never p lemmas n lemma c.loop-number-test.true c.index-lemmas-number.is (c.loop-number.invariant.onward h) in
          c.if-not-leads.ensures.1 (same-leads never p (lemma_ranges (take n lemmas)) lemma.range Return Return lemma.moves c.as_slice.result.now refl (sym c.as_slice.ensures) on.0)),
    )

pub loop-number-preserved : goal.loop-number-preserved
loop-number-preserved c =
    let never = never_first_of c.args.program.now.files in
    let p = control_of c.args.program.now in
    let lemmas = c.args.lemmas.now in
    let n = c.loop-number.number in
    let lemma = c.index-lemmas-number.result in
    record {
      onward = λ h. (lemmas-on never p lemmas n lemma c.loop-number-test.true c.index-lemmas-number.is (c.loop-number.invariant.onward h)).1;
      back = λ h. c.loop-number.invariant.back (lemmas-back never p lemmas n lemma c.loop-number-test.true c.index-lemmas-number.is
          (same-leads never p (lemma_ranges (take n lemmas)) lemma.range Return Return c.as_slice.result.now lemma.moves refl c.as_slice.ensures (c.if-not-leads.ensures.0 refl)) h);
    }
