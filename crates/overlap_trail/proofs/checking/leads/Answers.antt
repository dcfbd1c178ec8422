use Rattle.std.proofs.Common.{◌≡◌, ◌≤◌, ◌+◌, true, false, length, refl, sym, ◌∙◌, arith}
use Rattle.control_flow_theory.specs.language.Control.{control_of}
use Rattle.overlap_trail.specs.Follow.{known_of, sought_of}
use Rattle.overlap_trail.specs.Checking.{aim_of}
use Rattle.overlap_trail.proofs.Legs.{is-there, is-not-there, on-way-begins, on-way-taken, on-way-quiet, too-long}
use Rattle.overlap_trail.proofs.checking.leads.Goals as goal

pub returns-then-range-count : goal.returns-then-range-count
returns-then-range-count c = (
  (λ h. absurd (let k : ⊥ = cc in k)),
  (λ l.
      let past : length c.args.program.now.paragraphs ≤ c.args.range.entry = omega (arith, c.if-range-count.true, c.len-count.ensures) in
      absurd (let both : true ≡ false = sym l.is_there ∙ is-not-there c.args.program.now c.args.range.entry past in let k : ⊥ = cc in k)),
)

pub legs-init : goal.legs-init
legs-init c = on-way-begins (known_of c.args.program.now.files c.args.lemmas.now) (sought_of (control_of c.args.program.now) c.args.range (aim_of c.args.goal c.args.hops.now)) c.len-count.result c.args.moves.now

pub returns-in-There : goal.returns-in-There
returns-in-There c =
    let arrives = c.legs.invariant.there c.in-There.ensures.leg in (
      (λ h. record {
        is_there = is-there c.args.program.now c.args.range.entry (omega (arith, c.len-count.ensures, c.if-range-count.false));
        end = arrives.0;
        path = arrives.1;
        meets = arrives.2;
      }),
      (λ h. refl),
    )

pub legs-preserved-then-now-taken : goal.legs-preserved-then-now-taken
legs-preserved-then-now-taken c =
    on-way-taken (known_of c.args.program.now.files c.args.lemmas.now) (sought_of (control_of c.args.program.now) c.args.range (aim_of c.args.goal c.args.hops.now)) c.len-count.result c.args.moves.now c.legs.paragraph c.legs.taken c.legs.quiet c.in-On.next c.in-On.now
    c.legs.invariant c.in-On.ensures.leg.0 c.in-On.ensures.leg.1.1

pub legs-preserved : goal.legs-preserved
legs-preserved c =
    on-way-quiet (known_of c.args.program.now.files c.args.lemmas.now) (sought_of (control_of c.args.program.now) c.args.range (aim_of c.args.goal c.args.hops.now)) c.len-count.result c.args.moves.now c.legs.paragraph c.legs.taken c.legs.quiet c.in-On.next c.in-On.now
    c.legs.invariant (omega (arith, c.len-count.ensures, c.in-On.ensures.within)) (omega (arith, c.in-On.ensures.leg.1.0, c.if-now-taken.false)) c.in-On.ensures.leg.0

pub returns-else-quiet-count : goal.returns-else-quiet-count
returns-else-quiet-count c =
    let known = known_of c.args.program.now.files c.args.lemmas.now in
    let sought = sought_of (control_of c.args.program.now) c.args.range (aim_of c.args.goal c.args.hops.now) in
    let further_on = on-way-quiet known sought c.len-count.result c.args.moves.now c.legs.paragraph c.legs.taken c.legs.quiet c.in-On.next c.in-On.now
    c.legs.invariant (omega (arith, c.len-count.ensures, c.in-On.ensures.within)) (omega (arith, c.in-On.ensures.leg.1.0, c.if-now-taken.false)) c.in-On.ensures.leg.0 in (
      (λ h. absurd (let k : ⊥ = cc in k)),
      (λ l. absurd (too-long known sought c.len-count.result c.args.moves.now c.in-On.next c.legs.taken (c.legs.quiet + 1) further_on (omega (arith, c.if-quiet-count.false)) (l.end, l.path, l.meets))),
    )
