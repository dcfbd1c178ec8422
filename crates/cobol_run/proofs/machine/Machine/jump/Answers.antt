use Rattle.std.proofs.Common.{◌∙◌, List, Ok, append-nil, ap, length, refl, sym, ℕ}
use Rattle.control_flow_theory.specs.language.Control.{seen}
use Rattle.control_flow_theory.specs.language.Language as language
use Rattle.control_flow_theory.specs.runs.Run.{Over}
use Rattle.control_flow_theory.proofs.language_lemmas.Rows.{seen_exit_section, seen_go, seen_go_depending, seen_stop_run}
use Rattle.cobol_run.specs.declared.machine.Ending.TheVariants as ending
use Rattle.cobol_run.specs.declared.machine.StepOutcome.TheVariants as step
use Rattle.cobol_run.specs.Frames.{last_of}
use Rattle.cobol_run.specs.Machine.{ending_seen}
use Rattle.cobol_run.proofs.MachineLemmas.{jumps_so}
use Rattle.cobol_run.proofs.machine.Machine.jump.Goals as goal

pub returns-in-Go-clause-step : goal.returns-in-Go-clause-step
returns-in-Go-clause-step c =
    let last = last_of c.args.self.now.plan.program.now c.args.self.now.paragraph in
    jumps_so c.args.self.now c.jump_to.new.self c.jump_to.result c.args.stmt.now _ (ap (seen last) c.in-Go.is ∙ seen_go last _) c.jump_to.ensures.step

pub returns-in-GoDepending-clause-step : goal.returns-in-GoDepending-clause-step
returns-in-GoDepending-clause-step c =
    let last = last_of c.args.self.now.plan.program.now c.args.self.now.paragraph in
    jumps_so c.args.self.now c.jump_to_one.new.self c.jump_to_one.result c.args.stmt.now _
    (ap (seen last) c.in-GoDepending.is ∙ seen_go_depending last c.in-GoDepending.to c.in-GoDepending.on
    ∙ ap (λ (names : List ℕ). language.GoDepending names (language.Depending c.in-GoDepending.on (length names))) (sym c.as_slice.ensures)) c.jump_to_one.ensures.step

pub returns-in-ExitSection-clause-step : goal.returns-in-ExitSection-clause-step
returns-in-ExitSection-clause-step c =
    let last = last_of c.args.self.now.plan.program.now c.args.self.now.paragraph in
    jumps_so c.args.self.now c.jump_to_section_end.new.self c.jump_to_section_end.result c.args.stmt.now _ (ap (seen last) c.in-ExitSection.is ∙ seen_exit_section last) c.jump_to_section_end.ensures.step

pub returns-in-StopRun-clause-step : goal.returns-in-StopRun-clause-step
returns-in-StopRun-clause-step c =
    let last = last_of c.args.self.now.plan.program.now c.args.self.now.paragraph in
    jumps_so c.args.self.now c.args.self.now (Ok (step.Over ending.Stopped)) c.args.stmt.now language.StopRun (ap (seen last) c.in-StopRun.is ∙ seen_stop_run last)
    (λ world trace rest. (ap (λ t. record { trace = t; standing = Over (ending_seen ending.Stopped world.shelves) }) (append-nil trace), refl))
