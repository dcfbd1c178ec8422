use Rattle.std.proofs.Common.{◌∙◌, Ok, ap, arith, refl, subst}
use Rattle.cob_base.specs.giving.Giving.{Gained, Takes}
use Rattle.cobol_run.proofs.RunningLemmas.{breaks_off, broke_within, ended, never_failed, showed, turn_kept, went_on}
use Rattle.cobol_run.proofs.OverRunLemmas.{over_cut, over_ended, over_failed, over_showed, over_unready, over_wanted, over_went_on}
use Rattle.cobol_run.proofs.running.make_turn.Goals as goal

pub returns-in-Err-clause-turned : goal.returns-in-Err-clause-turned
returns-in-Err-clause-turned g c = λ program done held count so_far steps files within plain.
    breaks_off program c.args.machine.now done steps held (g.K.Sink.held c.args.out.now) count (g.K.Sink.faults c.args.out.now) so_far (omega (arith, within)) (g.K.Sink.held c.args.out.now) (g.K.Sink.faults c.args.out.now) refl files plain

pub returns-in-Ok-On-clause-turned : goal.returns-in-Ok-On-clause-turned
returns-in-Ok-On-clause-turned g c = λ program done held count so_far.
    went_on program c.args.machine.now done 0 held (g.K.Sink.held c.args.out.now) count (g.K.Sink.faults c.args.out.now) so_far c.step.new.self c.in-Ok-On.ensures.plan c.in-Ok-On.field-0 c.in-Ok-On.ensures.step c.in-Ok-On.field-0-is

pub returns-in-Ok-Over-clause-turned : goal.returns-in-Ok-Over-clause-turned
returns-in-Ok-Over-clause-turned g c = λ program done held count so_far steps files within plain.
    ended program c.args.machine.now done steps held (g.K.Sink.held c.args.out.now) count (g.K.Sink.faults c.args.out.now) so_far c.step.new.self c.in-Ok-Over.ensures.plan c.in-Ok-Over.field-0 c.in-Ok-Over.ensures.step c.in-Ok-Over.ending c.in-Ok-Over.field-0-is within files plain

pub returns-then-is_err-clause-turned : goal.returns-then-is_err-clause-turned
returns-then-is_err-clause-turned g c = λ program done held count so_far steps files within plain.
    breaks_off program c.args.machine.now done steps held (g.K.Sink.held c.args.out.now) count (g.K.Sink.faults c.args.out.now) so_far (omega (arith, within)) (g.K.Sink.held c.ready.new.self) (g.K.Sink.faults c.ready.new.self) c.ready.ensures.kept files plain

pub returns-then-give_all-clause-turned : goal.returns-then-give_all-clause-turned
returns-then-give_all-clause-turned g c = λ program done held count so_far.
    let counts = c.ready.ensures.count in
    let later = c.give_all.ensures.later in
    showed program c.args.machine.now done 0 held (g.K.Sink.held c.args.out.now) count (g.K.Sink.faults c.args.out.now) so_far c.step.new.self c.in-Ok-Shown.ensures.plan c.in-Ok-Shown.field-0 c.in-Ok-Shown.ensures.step c.in-Ok-Shown.field-0-is (g.K.Sink.held c.ready.new.self) (g.K.Sink.held c.give_all.new.sink) (g.K.Sink.faults c.give_all.new.sink) c.ready.ensures.kept (omega (arith, counts, later))
    (subst (λ bytes. Gained bytes (g.K.Sink.held c.ready.new.self) (g.K.Sink.held c.give_all.new.sink)) c.as_slice-shown.ensures (c.give_all.ensures.all c.if-give_all.true))

pub returns-else-give_all-clause-turned : goal.returns-else-give_all-clause-turned
returns-else-give_all-clause-turned g c = λ program done held count so_far steps files within plain.
    broke_within program c.args.machine.now done steps held (g.K.Sink.held c.args.out.now) count (g.K.Sink.faults c.args.out.now) so_far c.step.new.self c.in-Ok-Shown.ensures.plan c.in-Ok-Shown.field-0 c.in-Ok-Shown.ensures.step c.in-Ok-Shown.field-0-is within (g.K.Sink.held c.ready.new.self) (g.K.Sink.held c.give_all.new.sink) (g.K.Sink.faults c.ready.new.self) (g.K.Sink.faults c.give_all.new.sink) c.ready.ensures.kept
    (subst (λ bytes. Takes bytes (record { held = g.K.Sink.held c.ready.new.self; now = g.K.Sink.held c.give_all.new.sink; count = g.K.Sink.faults c.ready.new.self; count_now = g.K.Sink.faults c.give_all.new.sink })) c.as_slice-shown.ensures c.give_all.ensures.front) files plain

pub returns-in-Ok-Failed-clause-turned : goal.returns-in-Ok-Failed-clause-turned
returns-in-Ok-Failed-clause-turned g c = λ program done held count so_far files plain.
    never_failed program c.args.machine.now done 0 held (g.K.Sink.held c.args.out.now) count (g.K.Sink.faults c.args.out.now) so_far c.step.new.self c.in-Ok-Failed.ensures.plan c.in-Ok-Failed.field-0 c.in-Ok-Failed.ensures.step c.in-Ok-Failed.field-0-is files plain

pub returns-in-Err-clause-kept : goal.returns-in-Err-clause-kept
returns-in-Err-clause-kept g c = λ program done sink so_far plain. turn_kept c.args.machine.now _ program done sink so_far plain c.step.ensures.kept

pub returns-in-Ok-On-clause-kept : goal.returns-in-Ok-On-clause-kept
returns-in-Ok-On-clause-kept g c = λ program done sink so_far plain. turn_kept c.args.machine.now _ program done sink so_far plain c.step.ensures.kept

pub returns-in-Ok-Over-clause-kept : goal.returns-in-Ok-Over-clause-kept
returns-in-Ok-Over-clause-kept g c = λ program done sink so_far plain. turn_kept c.args.machine.now _ program done sink so_far plain c.step.ensures.kept

pub returns-in-Ok-Failed-clause-kept : goal.returns-in-Ok-Failed-clause-kept
returns-in-Ok-Failed-clause-kept g c = λ program done sink so_far plain. turn_kept c.args.machine.now _ program done sink so_far plain c.step.ensures.kept

pub returns-then-is_err-clause-kept : goal.returns-then-is_err-clause-kept
returns-then-is_err-clause-kept g c = λ program done sink so_far plain. turn_kept c.args.machine.now _ program done sink so_far plain c.step.ensures.kept

pub returns-then-give_all-clause-kept : goal.returns-then-give_all-clause-kept
returns-then-give_all-clause-kept g c = λ program done sink so_far plain. turn_kept c.args.machine.now _ program done sink so_far plain c.step.ensures.kept

pub returns-else-give_all-clause-kept : goal.returns-else-give_all-clause-kept
returns-else-give_all-clause-kept g c = λ program done sink so_far plain. turn_kept c.args.machine.now _ program done sink so_far plain c.step.ensures.kept

pub returns-in-Err-clause-over : goal.returns-in-Err-clause-over
returns-in-Err-clause-over g c = λ program files done held count own so_far steps within.
    over_wanted program files c.args.machine.now _ done steps held (g.K.Sink.held c.args.out.now) count (g.K.Sink.faults c.args.out.now) so_far own c.step.new.self _ _ c.step.ensures.plan c.step.result c.step.ensures.breaks _ c.in-Err.is within

pub returns-in-Ok-Failed-clause-over : goal.returns-in-Ok-Failed-clause-over
returns-in-Ok-Failed-clause-over g c = λ program files done held count own so_far steps within.
    over_failed program files c.args.machine.now _ done steps held (g.K.Sink.held c.args.out.now) count (g.K.Sink.faults c.args.out.now) so_far own c.step.new.self _ _ c.step.ensures.plan c.step.result c.step.ensures.breaks (c.in-Ok-Failed.is ∙ ap Ok c.in-Ok-Failed.field-0-is) within

pub returns-then-is_err-clause-over : goal.returns-then-is_err-clause-over
returns-then-is_err-clause-over g c = λ program files done held count own so_far steps within.
    over_unready program files c.args.machine.now _ done steps held (g.K.Sink.held c.args.out.now) count (g.K.Sink.faults c.args.out.now) so_far own c.step.new.self _ _ c.in-Ok-Shown.ensures.plan c.in-Ok-Shown.field-0 c.in-Ok-Shown.ensures.over c.in-Ok-Shown.field-0-is within (g.K.Sink.held c.ready.new.self) (g.K.Sink.faults c.ready.new.self) c.ready.ensures.kept

pub returns-in-Ok-On-clause-over : goal.returns-in-Ok-On-clause-over
returns-in-Ok-On-clause-over g c = λ program files done held count own so_far.
    over_went_on program files c.args.machine.now _ done 0 held (g.K.Sink.held c.args.out.now) count (g.K.Sink.faults c.args.out.now) so_far own c.step.new.self _ _ c.in-Ok-On.ensures.plan c.in-Ok-On.field-0 c.in-Ok-On.ensures.over c.in-Ok-On.field-0-is

pub returns-in-Ok-Over-clause-over : goal.returns-in-Ok-Over-clause-over
returns-in-Ok-Over-clause-over g c = λ program files done held count own so_far steps within.
    over_ended program files c.args.machine.now _ done steps held (g.K.Sink.held c.args.out.now) count (g.K.Sink.faults c.args.out.now) so_far own c.step.new.self _ _ c.in-Ok-Over.ensures.plan c.in-Ok-Over.field-0 c.in-Ok-Over.ensures.over c.in-Ok-Over.ending c.in-Ok-Over.field-0-is within

pub returns-then-give_all-clause-over : goal.returns-then-give_all-clause-over
returns-then-give_all-clause-over g c = λ program files done held count own so_far.
    let counts = c.ready.ensures.count in
    let later = c.give_all.ensures.later in
    over_showed program files c.args.machine.now _ done 0 held (g.K.Sink.held c.args.out.now) count (g.K.Sink.faults c.args.out.now) so_far own c.step.new.self _ _ c.in-Ok-Shown.ensures.plan c.in-Ok-Shown.field-0 c.in-Ok-Shown.ensures.over c.in-Ok-Shown.field-0-is (g.K.Sink.held c.ready.new.self) (g.K.Sink.held c.give_all.new.sink) (g.K.Sink.faults c.give_all.new.sink) c.ready.ensures.kept (omega (arith, counts, later))
    (subst (λ bytes. Gained bytes (g.K.Sink.held c.ready.new.self) (g.K.Sink.held c.give_all.new.sink)) c.as_slice-shown.ensures (c.give_all.ensures.all c.if-give_all.true))

pub returns-else-give_all-clause-over : goal.returns-else-give_all-clause-over
returns-else-give_all-clause-over g c = λ program files done held count own so_far steps within.
    over_cut program files c.args.machine.now _ done steps held (g.K.Sink.held c.args.out.now) count (g.K.Sink.faults c.args.out.now) so_far own c.step.new.self _ _ c.in-Ok-Shown.ensures.plan c.in-Ok-Shown.field-0 c.in-Ok-Shown.ensures.over c.in-Ok-Shown.field-0-is within (g.K.Sink.held c.ready.new.self) (g.K.Sink.held c.give_all.new.sink) (g.K.Sink.faults c.ready.new.self) (g.K.Sink.faults c.give_all.new.sink) c.ready.ensures.kept
    (subst (λ bytes. Takes bytes (record { held = g.K.Sink.held c.ready.new.self; now = g.K.Sink.held c.give_all.new.sink; count = g.K.Sink.faults c.ready.new.self; count_now = g.K.Sink.faults c.give_all.new.sink })) c.as_slice-shown.ensures c.give_all.ensures.front)
