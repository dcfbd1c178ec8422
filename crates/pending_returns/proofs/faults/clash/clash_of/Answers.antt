use Rattle.std.proofs.Common.{ℕ, Option, MatchOption, subst, arith}
use Rattle.pending_returns.specs.declared.faults.clash.Clash.{Clash}
use Rattle.pending_returns.specs.faults.Clash.{HasClash, NoneFrom}
use Rattle.pending_returns.proofs.faults_lemmas.Standing.{clear-more, clear-all}
use Rattle.pending_returns.proofs.faults.clash.clash_of.Goals as goal

pub loop-number-preserved : goal.loop-number-preserved
loop-number-preserved c =
    let levels = c.args.levels.now in
    let none = subst (λ (o : Option Clash). MatchOption o (NoneFrom levels c.in_ok-base.base) (λ (clash : Clash). HasClash levels clash)) c.in-None.is c.in_ok-clash.ensures.found in
    record {
      clear = clear-more levels c.loop-number.number (subst (λ (n : ℕ). NoneFrom levels n) c.in_ok-base.ensures none) c.loop-number.invariant.clear;
      marked = c.in_ok-clash.ensures.marked;
      size = c.in_ok-clash.ensures.size;
    }

pub returns : goal.returns
returns c = clear-all c.args.levels.now c.loop-number.number (omega (arith, c.loop-number-test.false)) c.loop-number.invariant.clear
