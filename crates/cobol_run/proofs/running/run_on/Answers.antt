use Rattle.std.proofs.Common.{◌≡◌, ◌+◌, [], ◌∷◌, ◌∙◌, Err, Ok, ap, arith, map, refl, subst, sym, take, vec_capacity}
use Rattle.cob_base.specs.Sink.{sink_call}
use Rattle.file_model.specs.contracts.operations.watched.BoxDynDeviceWatched.TheImpl.{seen-value}
use Rattle.cobol_run.specs.declared.held.Plan.{Plan}
use Rattle.cobol_run.specs.declared.machine.StepOutcome.TheVariants as step
use Rattle.cobol_run.specs.Falling.{NamesFit, TurnFalls}
use Rattle.cobol_run.specs.Over.{OpenYet}
use Rattle.file_model.specs.operations.Calls.{addresses_of}
use Rattle.file_model.specs.operations.Falling.{is_used, name_behind}
use Rattle.file_model.proofs.operations_lemmas.ShutLemmas.{nothing_shut}
use Rattle.cobol_run.proofs.FallLemmas.{none_fell, turn_after}
use Rattle.cobol_run.proofs.OverRunLemmas.{comes_failed, over_goes_on_yet, over_one_more}
use Rattle.cobol_run.proofs.ShutLemmas.{names_named, never_unnamed}
use Rattle.cobol_run.proofs.RunningLemmas.{goes_on_yet, one_more}
use Rattle.cobol_run.proofs.TurnLemmas.{falls_as, falls_on, turned_as, turned_on, turned_over_as, turned_over_on}
use Rattle.cobol_run.proofs.running.run_on.Goals as goal

pub loop-turn-preserved : goal.loop-turn-preserved
loop-turn-preserved g c = record {
  plan = c.make_turn.ensures.plan ∙ c.loop-turn.invariant.plan;
  room = c.loop-turn.invariant.room;
  later = omega (arith, c.make_turn.ensures.later, c.loop-turn.invariant.later);
  so_far = λ program start.
      one_more _ _ _ _ (turned_on _ _ _ _ _ c.in-On.is (c.in-Ok.ensures.turned program c.loop-turn.turn (g.K.Sink.held c.args.out.now) (g.K.Sink.faults c.args.out.now) (c.loop-turn.invariant.so_far program start)));
  over = λ program files own start.
      over_one_more _ _ _ _ _ _ (turned_over_on _ _ _ _ _ _ _ _ c.in-On.is (c.in-Ok.ensures.over program files c.loop-turn.turn (g.K.Sink.held c.args.out.now) (g.K.Sink.faults c.args.out.now) own (c.loop-turn.invariant.over program files own start)));
  kept = λ program start plain.
      let was = c.loop-turn.invariant.kept program start plain in
      let now = c.make_turn.ensures.kept program c.loop-turn.turn _ (c.loop-turn.invariant.so_far program start) plain in
      (now.0 ∙ was.0, now.1 ∙ was.1);
  falls = falls_on _ _ _ _ _ _ _ c.in-On.is (turn_after (Ok c.in-Ok.outcome) c.args.machine.now.plan.program.now.files c.args.bench.now.left c.loop-turn.bench.left c.make_turn.new.bench.left (map (seen-value g.dyn-1).it c.args.bench.now.devices.items) (map (seen-value g.dyn-1).it c.loop-turn.bench.devices.items) (map (seen-value g.dyn-1).it c.make_turn.new.bench.devices.items) c.make_turn.new.machine.table.rows c.loop-turn.invariant.falls (subst (λ (p : Plan). TurnFalls (Ok c.in-Ok.outcome) p.program.now.files c.loop-turn.bench.left c.make_turn.new.bench.left (map (seen-value g.dyn-1).it c.loop-turn.bench.devices.items) (map (seen-value g.dyn-1).it c.make_turn.new.bench.devices.items) c.make_turn.new.machine.table.rows) c.loop-turn.invariant.plan c.in-Ok.ensures.falls));
}

pub returns-in-Over-clause-run : goal.returns-in-Over-clause-run
returns-in-Over-clause-run g c = λ program files start plain.
    turned_as _ _ _ _ _ (step.Over c.in-Over.ending) c.in-Over.is (c.in-Ok.ensures.turned program c.loop-turn.turn (g.K.Sink.held c.args.out.now) (g.K.Sink.faults c.args.out.now) (c.loop-turn.invariant.so_far program start)) c.args.steps files c.loop-turn-test.true plain

pub returns-in-Err-clause-run : goal.returns-in-Err-clause-run
returns-in-Err-clause-run g c = λ program files start plain.
    c.in-Err.ensures.turned program c.loop-turn.turn (g.K.Sink.held c.args.out.now) (g.K.Sink.faults c.args.out.now) (c.loop-turn.invariant.so_far program start) c.args.steps files c.loop-turn-test.true plain

pub returns-in-Failed-clause-run : goal.returns-in-Failed-clause-run
returns-in-Failed-clause-run g c = λ program files start plain.
    absurd (turned_as _ _ _ _ _ step.Failed c.in-Failed.is (c.in-Ok.ensures.turned program c.loop-turn.turn (g.K.Sink.held c.args.out.now) (g.K.Sink.faults c.args.out.now) (c.loop-turn.invariant.so_far program start)) files plain)

pub returns-clause-run : goal.returns-clause-run
returns-clause-run g c = λ program files start plain.
    goes_on_yet program c.loop-turn.machine c.loop-turn.turn c.args.steps (g.K.Sink.held c.args.out.now) (g.K.Sink.held c.loop-turn.out) (g.K.Sink.faults c.args.out.now) (g.K.Sink.faults c.loop-turn.out) (c.loop-turn.invariant.so_far program start) (omega (arith, c.loop-turn-test.false, c.loop-turn.auto.turn-end)) files plain

pub returns-in-Over-clause-kept : goal.returns-in-Over-clause-kept
returns-in-Over-clause-kept g c = λ program start plain.
    let was = c.loop-turn.invariant.kept program start plain in
    let now = c.make_turn.ensures.kept program c.loop-turn.turn _ (c.loop-turn.invariant.so_far program start) plain in
    (now.0 ∙ was.0, now.1 ∙ was.1)

pub returns-in-Failed-clause-kept : goal.returns-in-Failed-clause-kept
returns-in-Failed-clause-kept g c = λ program start plain.
    let was = c.loop-turn.invariant.kept program start plain in
    let now = c.make_turn.ensures.kept program c.loop-turn.turn _ (c.loop-turn.invariant.so_far program start) plain in
    (now.0 ∙ was.0, now.1 ∙ was.1)

pub returns-in-Err-clause-kept : goal.returns-in-Err-clause-kept
returns-in-Err-clause-kept g c = λ program start plain.
    let was = c.loop-turn.invariant.kept program start plain in
    let now = c.make_turn.ensures.kept program c.loop-turn.turn _ (c.loop-turn.invariant.so_far program start) plain in
    (now.0 ∙ was.0, now.1 ∙ was.1)

pub returns-in-Over-clause-ends : goal.returns-in-Over-clause-ends
returns-in-Over-clause-ends g c = record {
  gone = [];
  bench = falls_as _ (step.Over c.in-Over.ending) _ _ _ _ _ _ c.in-Over.is (turn_after (Ok c.in-Ok.outcome) c.args.machine.now.plan.program.now.files c.args.bench.now.left c.loop-turn.bench.left c.make_turn.new.bench.left (map (seen-value g.dyn-1).it c.args.bench.now.devices.items) (map (seen-value g.dyn-1).it c.loop-turn.bench.devices.items) (map (seen-value g.dyn-1).it c.make_turn.new.bench.devices.items) c.make_turn.new.machine.table.rows c.loop-turn.invariant.falls (subst (λ (p : Plan). TurnFalls (Ok c.in-Ok.outcome) p.program.now.files c.loop-turn.bench.left c.make_turn.new.bench.left (map (seen-value g.dyn-1).it c.loop-turn.bench.devices.items) (map (seen-value g.dyn-1).it c.make_turn.new.bench.devices.items) c.make_turn.new.machine.table.rows) c.loop-turn.invariant.plan c.in-Ok.ensures.falls));
  apart = nothing_shut (addresses_of c.args.machine.now.plan.program.now.files) c.make_turn.new.machine.table.rows;
  names = refl;
  files = λ program files own begun.
      turned_over_as _ _ _ _ _ _ _ _ (step.Over c.in-Over.ending) c.in-Over.is (c.in-Ok.ensures.over program files c.loop-turn.turn (g.K.Sink.held c.args.out.now) (g.K.Sink.faults c.args.out.now) own (c.loop-turn.invariant.over program files own begun)) c.args.steps c.loop-turn-test.true;
}

pub returns-in-Err-clause-ends : goal.returns-in-Err-clause-ends
returns-in-Err-clause-ends g c = record {
  gone = [];
  bench = turn_after (Err c.in-Err.came) c.args.machine.now.plan.program.now.files c.args.bench.now.left c.loop-turn.bench.left c.make_turn.new.bench.left (map (seen-value g.dyn-1).it c.args.bench.now.devices.items) (map (seen-value g.dyn-1).it c.loop-turn.bench.devices.items) (map (seen-value g.dyn-1).it c.make_turn.new.bench.devices.items) c.make_turn.new.machine.table.rows c.loop-turn.invariant.falls (subst (λ (p : Plan). TurnFalls (Err c.in-Err.came) p.program.now.files c.loop-turn.bench.left c.make_turn.new.bench.left (map (seen-value g.dyn-1).it c.loop-turn.bench.devices.items) (map (seen-value g.dyn-1).it c.make_turn.new.bench.devices.items) c.make_turn.new.machine.table.rows) c.loop-turn.invariant.plan c.in-Err.ensures.falls);
  apart = nothing_shut (addresses_of c.args.machine.now.plan.program.now.files) c.make_turn.new.machine.table.rows;
  names = c.in-Err.ensures.unnamed;
  files = λ program files own begun.
      c.in-Err.ensures.over program files c.loop-turn.turn (g.K.Sink.held c.args.out.now) (g.K.Sink.faults c.args.out.now) own (c.loop-turn.invariant.over program files own begun) c.args.steps c.loop-turn-test.true;
}

pub returns-in-Failed-clause-ends : goal.returns-in-Failed-clause-ends
returns-in-Failed-clause-ends g c =
    let fell = falls_as _ step.Failed _ _ _ _ _ _ c.in-Failed.is (turn_after (Ok c.in-Ok.outcome) c.args.machine.now.plan.program.now.files c.args.bench.now.left c.loop-turn.bench.left c.make_turn.new.bench.left (map (seen-value g.dyn-1).it c.args.bench.now.devices.items) (map (seen-value g.dyn-1).it c.loop-turn.bench.devices.items) (map (seen-value g.dyn-1).it c.make_turn.new.bench.devices.items) c.make_turn.new.machine.table.rows c.loop-turn.invariant.falls (subst (λ (p : Plan). TurnFalls (Ok c.in-Ok.outcome) p.program.now.files c.loop-turn.bench.left c.make_turn.new.bench.left (map (seen-value g.dyn-1).it c.loop-turn.bench.devices.items) (map (seen-value g.dyn-1).it c.make_turn.new.bench.devices.items) c.make_turn.new.machine.table.rows) c.loop-turn.invariant.plan c.in-Ok.ensures.falls)) in
    record {
      gone = name_behind c.make_turn.new.bench.left (map (seen-value g.dyn-1).it c.make_turn.new.bench.devices.items) ∷ [];
      bench = fell.0;
      apart = fell.1;
      names = names_named _ c.device_fault.result (is_used (addresses_of c.args.machine.now.plan.program.now.files)) [] (name_behind c.make_turn.new.bench.left (map (seen-value g.dyn-1).it c.make_turn.new.bench.devices.items)) c.args.bench.now.left c.make_turn.new.bench.left _ (map (seen-value g.dyn-1).it c.args.bench.now.devices.items) (map (seen-value g.dyn-1).it c.make_turn.new.bench.devices.items) fell.0 c.device_fault.ensures.named (omega arith);
      files = λ program files own begun.
          comes_failed program files c.args.steps (sink_call g.K.Sink.held g.K.Sink.faults c.args.out.now c.make_turn.new.out) (OpenYet (name_behind c.make_turn.new.bench.left (map (seen-value g.dyn-1).it c.make_turn.new.bench.devices.items) ∷ []) c.make_turn.new.machine (take c.make_turn.new.bench.left (map (seen-value g.dyn-1).it c.make_turn.new.bench.devices.items))) c.device_fault.result _ _ c.device_fault.ensures.named
          (turned_over_as _ _ _ _ _ _ _ _ step.Failed c.in-Failed.is (c.in-Ok.ensures.over program files c.loop-turn.turn (g.K.Sink.held c.args.out.now) (g.K.Sink.faults c.args.out.now) own (c.loop-turn.invariant.over program files own begun)) c.args.steps c.loop-turn-test.true);
    }

pub returns-in-Failed-clause-memory : goal.returns-in-Failed-clause-memory
returns-in-Failed-clause-memory g c = λ is.
    let fell = falls_as _ step.Failed _ _ _ _ _ _ c.in-Failed.is (turn_after (Ok c.in-Ok.outcome) c.args.machine.now.plan.program.now.files c.args.bench.now.left c.loop-turn.bench.left c.make_turn.new.bench.left (map (seen-value g.dyn-1).it c.args.bench.now.devices.items) (map (seen-value g.dyn-1).it c.loop-turn.bench.devices.items) (map (seen-value g.dyn-1).it c.make_turn.new.bench.devices.items) c.make_turn.new.machine.table.rows c.loop-turn.invariant.falls (subst (λ (p : Plan). TurnFalls (Ok c.in-Ok.outcome) p.program.now.files c.loop-turn.bench.left c.make_turn.new.bench.left (map (seen-value g.dyn-1).it c.loop-turn.bench.devices.items) (map (seen-value g.dyn-1).it c.make_turn.new.bench.devices.items) c.make_turn.new.machine.table.rows) c.loop-turn.invariant.plan c.in-Ok.ensures.falls)) in
    absurd (never_unnamed _ c.device_fault.result (is_used (addresses_of c.args.machine.now.plan.program.now.files)) [] (name_behind c.make_turn.new.bench.left (map (seen-value g.dyn-1).it c.make_turn.new.bench.devices.items)) c.args.bench.now.left c.make_turn.new.bench.left _ (map (seen-value g.dyn-1).it c.args.bench.now.devices.items) (map (seen-value g.dyn-1).it c.make_turn.new.bench.devices.items) (subst (λ room. NamesFit (vec_capacity room) (map (seen-value g.dyn-1).it c.args.bench.now.devices.items)) (sym c.loop-turn.invariant.room) c.requires) fell.0 (omega arith) c.device_fault.ensures.named is)

pub returns-in-Err-clause-memory : goal.returns-in-Err-clause-memory
returns-in-Err-clause-memory g c = λ is.
    let bench = turn_after (Err c.in-Err.came) c.args.machine.now.plan.program.now.files c.args.bench.now.left c.loop-turn.bench.left c.make_turn.new.bench.left (map (seen-value g.dyn-1).it c.args.bench.now.devices.items) (map (seen-value g.dyn-1).it c.loop-turn.bench.devices.items) (map (seen-value g.dyn-1).it c.make_turn.new.bench.devices.items) c.make_turn.new.machine.table.rows c.loop-turn.invariant.falls (subst (λ (p : Plan). TurnFalls (Err c.in-Err.came) p.program.now.files c.loop-turn.bench.left c.make_turn.new.bench.left (map (seen-value g.dyn-1).it c.loop-turn.bench.devices.items) (map (seen-value g.dyn-1).it c.make_turn.new.bench.devices.items) c.make_turn.new.machine.table.rows) c.loop-turn.invariant.plan c.in-Err.ensures.falls) in
    let count : c.make_turn.new.bench.left + 0 ≡ c.args.bench.now.left = bench.count in
    omega (arith, count)

pub returns-clause-ends : goal.returns-clause-ends
returns-clause-ends g c = record {
  gone = [];
  bench = c.loop-turn.invariant.falls;
  apart = nothing_shut (addresses_of c.args.machine.now.plan.program.now.files) c.loop-turn.machine.table.rows;
  names = refl;
  files = λ program files own begun.
      over_goes_on_yet program files c.loop-turn.machine _ c.loop-turn.turn c.args.steps (g.K.Sink.held c.args.out.now) (g.K.Sink.held c.loop-turn.out) (g.K.Sink.faults c.args.out.now) (g.K.Sink.faults c.loop-turn.out) (c.loop-turn.invariant.over program files own begun) (omega (arith, c.loop-turn-test.false, c.loop-turn.auto.turn-end));
}

pub loop-turn-init : goal.loop-turn-init
loop-turn-init g c = record {
  plan = refl;
  room = refl;
  later = omega arith;
  so_far = λ program start. start;
  over = λ program files own start. start;
  kept = λ program start plain. (refl, refl);
  falls = none_fell c.args.machine.now.plan.program.now.files c.args.bench.now.left (map (seen-value g.dyn-1).it c.args.bench.now.devices.items);
}

pub returns-in-Err-clause-cause : goal.returns-in-Err-clause-cause
returns-in-Err-clause-cause g c = λ is.
    let rose = c.in-Err.ensures.cause (ap Err is) in
    omega (arith, rose, c.loop-turn.invariant.later)
