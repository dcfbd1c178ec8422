use Rattle.std.proofs.Common.{◌≡◌, ℕ, arith, length, subst, take}
use Rattle.file_model.specs.Attempts.{before_colon}
use Rattle.file_model.proofs.operations_lemmas.AddressLemmas.{colon_count, colon_here, colon_nowhere, colon_step}
use Rattle.file_model.proofs.operations.address.colon_at.Goals as goal

pub loop-at-preserved : goal.loop-at-preserved
loop-at-preserved c = colon_step c.args.assign.now c.loop-at.at c.loop-at-test.true c.if-assign-at-eq-COLON.false c.loop-at.invariant

pub returns-then-assign-at-eq-COLON-clause-front : goal.returns-then-assign-at-eq-COLON-clause-front
returns-then-assign-at-eq-COLON-clause-front c = colon_here c.args.assign.now c.loop-at.at c.loop-at-test.true c.if-assign-at-eq-COLON.true c.loop-at.invariant

pub returns-then-assign-at-eq-COLON-clause-count : goal.returns-then-assign-at-eq-COLON-clause-count
returns-then-assign-at-eq-COLON-clause-count c =
    colon_count c.args.assign.now c.loop-at.at (omega arith) (colon_here c.args.assign.now c.loop-at.at c.loop-at-test.true c.if-assign-at-eq-COLON.true c.loop-at.invariant)

pub returns-clause-front : goal.returns-clause-front
returns-clause-front c =
    let last : c.loop-at.at ≡ length c.args.assign.now = omega (arith, c.loop-at.auto.at-end, c.loop-at-test.false) in
    subst (λ (n : ℕ). take n c.args.assign.now ≡ before_colon c.args.assign.now) last (colon_nowhere c.args.assign.now c.loop-at.at c.loop-at-test.false c.loop-at.invariant)

pub returns-clause-count : goal.returns-clause-count
returns-clause-count c =
    let last : c.loop-at.at ≡ length c.args.assign.now = omega (arith, c.loop-at.auto.at-end, c.loop-at-test.false) in
    subst (λ (n : ℕ). n ≡ length (before_colon c.args.assign.now)) last
    (colon_count c.args.assign.now c.loop-at.at c.loop-at.auto.at-end (colon_nowhere c.args.assign.now c.loop-at.at c.loop-at-test.false c.loop-at.invariant))
