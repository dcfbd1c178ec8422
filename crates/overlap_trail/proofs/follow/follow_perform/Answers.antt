use Rattle.std.proofs.Common.{◌∙◌, length}
use Rattle.control_flow_theory.specs.language.Language.{Performed, Perform, Loop}
use Rattle.control_flow_theory.specs.language.Control.{control_in, perform_of}
use Rattle.overlap_trail.specs.Follow.{knowing}
use Rattle.overlap_trail.proofs.Steps.{as-turned}
use Rattle.overlap_trail.proofs.Rows.{perform-once, perform-loop}
use Rattle.overlap_trail.proofs.Turning.{loop-before, loop-again, loop-after, loop-out}
use Rattle.overlap_trail.proofs.Statements.{same-stmt}
use Rattle.overlap_trail.proofs.follow.follow_perform.Goals as goal

pub returns-in-None-clause-follows : goal.returns-in-None-clause-follows
returns-in-None-clause-follows c = λ never_first last. same-stmt (knowing never_first c.args.lemmas.now) c.args.moves.now last c.args.taken (perform_of (control_in c.args.control.now) c.args.entry c.args.exit) (Perform c.args.entry c.args.exit) c.follow_call.result (perform-once (control_in c.args.control.now) c.args.entry c.args.exit c.in-None.ensures) (c.follow_call.ensures.follows never_first last)

pub returns-in-Before-clause-follows : goal.returns-in-Before-clause-follows
returns-in-Before-clause-follows c = λ never_first last.
    let e = perform-loop (control_in c.args.control.now) c.args.entry c.args.exit c.in-Some.kind c.in-Some.ensures in
    same-stmt (knowing never_first c.args.lemmas.now) c.args.moves.now last c.args.taken (perform_of (control_in c.args.control.now) c.args.entry c.args.exit) (Loop e.0 (Performed c.args.entry c.args.exit)) c.follow_calls.result e.2 (loop-before (knowing never_first c.args.lemmas.now) c.args.moves.now last c.args.taken e.0 (Performed c.args.entry c.args.exit) c.follow_calls.result (e.1 ∙ c.in-Before.is) (c.follow_calls.ensures.turns never_first last))

pub returns-in-Again-clause-follows : goal.returns-in-Again-clause-follows
returns-in-Again-clause-follows c = λ never_first last.
    let e = perform-loop (control_in c.args.control.now) c.args.entry c.args.exit c.in-Some.kind c.in-Some.ensures in
    same-stmt (knowing never_first c.args.lemmas.now) c.args.moves.now last c.args.taken (perform_of (control_in c.args.control.now) c.args.entry c.args.exit) (Loop e.0 (Performed c.args.entry c.args.exit)) c.follow_calls-in-Again.result e.2 (loop-again (knowing never_first c.args.lemmas.now) c.args.moves.now last c.args.taken e.0 (Performed c.args.entry c.args.exit) c.follow_calls-in-Again.result (e.1 ∙ c.in-Again.is) (c.follow_calls-in-Again.ensures.turns never_first last))

pub returns-in-Cycled-clause-follows : goal.returns-in-Cycled-clause-follows
returns-in-Cycled-clause-follows c = λ never_first last.
    let e = perform-loop (control_in c.args.control.now) c.args.entry c.args.exit c.in-Some.kind c.in-Some.ensures in
    same-stmt (knowing never_first c.args.lemmas.now) c.args.moves.now last c.args.taken (perform_of (control_in c.args.control.now) c.args.entry c.args.exit) (Loop e.0 (Performed c.args.entry c.args.exit)) c.follow_calls-in-Cycled.result e.2 (loop-after (knowing never_first c.args.lemmas.now) c.args.moves.now last c.args.taken e.0 (Performed c.args.entry c.args.exit) c.follow_call-in-After.result c.follow_calls-in-Cycled.result c.in-Cycled.now (e.1 ∙ c.in-After.is) c.in-Cycled.ensures (c.follow_call-in-After.ensures.follows never_first last) (c.follow_calls-in-Cycled.ensures.turns never_first last))

pub returns-in_default : goal.returns-in_default
returns-in_default c = record {
  follows = λ never_first last.
      let e = perform-loop (control_in c.args.control.now) c.args.entry c.args.exit c.in-Some.kind c.in-Some.ensures in
      same-stmt (knowing never_first c.args.lemmas.now) c.args.moves.now last c.args.taken (perform_of (control_in c.args.control.now) c.args.entry c.args.exit) (Loop e.0 (Performed c.args.entry c.args.exit)) c.turned.result e.2 (loop-out (knowing never_first c.args.lemmas.now) c.args.moves.now last c.args.taken e.0 (Performed c.args.entry c.args.exit) c.follow_call-in-After.result c.turned.result (e.1 ∙ c.in-After.is) c.turned.ensures c.in_default.not-Cycled (c.follow_call-in-After.ensures.follows never_first last));
  taken = as-turned c.args.taken (length c.args.moves.now) c.follow_call-in-After.result c.turned.result c.turned.ensures c.follow_call-in-After.ensures.taken;
}
