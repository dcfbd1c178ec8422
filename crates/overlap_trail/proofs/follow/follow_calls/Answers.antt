use Rattle.std.proofs.Common.{◌+◌, length, arith}
use Rattle.control_flow_theory.specs.language.Language.{Performed}
use Rattle.overlap_trail.specs.declared.follow.Followed.TheVariants.{Through, Lost}
use Rattle.overlap_trail.specs.Follow.{knowing}
use Rattle.overlap_trail.proofs.Steps.{taken-from, as-turned, cycled-taken}
use Rattle.overlap_trail.proofs.Turning.{turns-begin, turns-join, turns-end, turn-leaves, turn-on, turn-out, turn-lost}
use Rattle.overlap_trail.proofs.follow.follow_calls.Goals as goal

pub turns-init : goal.turns-init
turns-init c = record {
  turns = λ never_first. turns-begin (knowing never_first c.args.lemmas.now) c.args.moves.now (Performed c.args.entry c.args.exit) c.args.taken;
  begun = omega arith;
  within = c.requires;
}

pub returns-in-First-clause-turns : goal.returns-in-First-clause-turns
returns-in-First-clause-turns c = λ never_first last.
    let known = knowing never_first c.args.lemmas.now in
    let body = Performed c.args.entry c.args.exit in
    turns-end known c.args.moves.now body last c.args.taken c.turns.now (Through (c.turns.now + 1)) (c.turns.invariant.turns never_first) (turn-leaves known c.args.moves.now last c.turns.now body c.in-First.ensures)

pub turns-preserved : goal.turns-preserved
turns-preserved c = record {
  turns = λ never_first.
      let known = knowing never_first c.args.lemmas.now in
      let body = Performed c.args.entry c.args.exit in
      turns-join known c.args.moves.now body c.args.taken c.turns.now c.in-Cycled.behind (c.turns.invariant.turns never_first)
      (turn-on known c.args.moves.now 0 c.turns.now body c.follow_call.result c.in-Cycled.behind c.in-Second.ensures c.in-Cycled.ensures (c.follow_call.ensures.follows never_first 0));
  begun = omega (arith, (cycled-taken (c.turns.now + 1) (length c.args.moves.now) c.in-Cycled.behind c.follow_call.result c.in-Cycled.ensures c.follow_call.ensures.taken).0, c.turns.invariant.begun);
  within = (cycled-taken (c.turns.now + 1) (length c.args.moves.now) c.in-Cycled.behind c.follow_call.result c.in-Cycled.ensures c.follow_call.ensures.taken).1;
}

pub returns-in_default : goal.returns-in_default
returns-in_default c = record {
  turns = λ never_first last.
      let known = knowing never_first c.args.lemmas.now in
      let body = Performed c.args.entry c.args.exit in
      turns-end known c.args.moves.now body last c.args.taken c.turns.now c.turned.result (c.turns.invariant.turns never_first)
      (turn-out known c.args.moves.now last c.turns.now body c.follow_call.result c.turned.result c.in-Second.ensures c.turned.ensures c.in_default.not-Cycled (c.follow_call.ensures.follows never_first last));
  taken = taken-from c.args.taken (c.turns.now + 1) (length c.args.moves.now) c.turned.result (omega (arith, c.turns.invariant.begun)) (as-turned (c.turns.now + 1) (length c.args.moves.now) c.follow_call.result c.turned.result c.turned.ensures c.follow_call.ensures.taken);
}

pub returns-in-Neither-clause-turns : goal.returns-in-Neither-clause-turns
returns-in-Neither-clause-turns c = λ never_first last.
    let known = knowing never_first c.args.lemmas.now in
    let body = Performed c.args.entry c.args.exit in
    turns-end known c.args.moves.now body last c.args.taken c.turns.now Lost (c.turns.invariant.turns never_first) (turn-lost known c.args.moves.now last c.turns.now body c.in-Neither.ensures)
