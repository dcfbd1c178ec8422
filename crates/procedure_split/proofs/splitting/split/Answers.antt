use Rattle.std.proofs.Common.{ap, sym, subst, ◌∙◌, length}
use Rattle.std.proofs.lemmas.Result.{err_from_is_err_and}
use Rattle.program_facts.specs.completion.FlowFacts.{flow_facts_of}
use Rattle.control_flow_theory.specs.language.Control.{control_of}
use Rattle.procedure_split.proofs.Planning.{as-many, ranges-are, too-deep, too-large}
use Rattle.procedure_split.specs.Writing.{IsWrittenWith}
use Rattle.procedure_split.proofs.splitting.split.Goals as goal

pub lower_ranges-requires-clause-ranges : goal.lower_ranges-requires-clause-ranges
lower_ranges-requires-clause-ranges c =
    let plan = c.in_ok-plan.plan in
    ranges-are c.args.program.now c.args.summary.now plan.returning plan.order c.requires
    c.in_ok-plan.ensures

pub returns-in_err-graphs : goal.returns-in_err-graphs
returns-in_err-graphs c =
    let p = err_from_is_err_and c.from_residual-in_err-graphs.result
    c.from_residual-in_err-graphs.ensures.1 in
    rw (p.1, p.2)
    (too-large c.args.program.now c.args.summary.now
    (record {
      returning = c.in_ok-plan.plan.returning;
      order = c.in_ok-plan.plan.order;
      is = c.in_ok-plan.ensures;
    }) c.in_err-graphs.field-0.0 c.in_err-graphs.ensures.lowered)

pub returns-in_err-closed : goal.returns-in_err-closed
returns-in_err-closed c =
    let p = err_from_is_err_and c.from_residual-in_err-closed.result
    c.from_residual-in_err-closed.ensures.1 in
    rw (p.1, p.2)
    (too-deep c.args.program.now c.args.summary.now
    (record {
      returning = c.in_ok-plan.plan.returning;
      order = c.in_ok-plan.plan.order;
      is = c.in_ok-plan.ensures;
    }) c.in_ok-graphs.graphs.items c.in_ok-graphs.ensures.lowered c.in_err-closed.field-0.0
    c.in_err-closed.ensures)

pub write_program-requires : goal.write_program-requires
write_program-requires c =
    let plan = c.in_ok-plan.plan in
    let program = c.args.program.now in
    ap length c.as_mut_slice.ensures.value
    ∙ as-many (flow_facts_of program.files plan.returning) (control_of program) plan.order
    c.in_ok-graphs.graphs.items c.in_ok-closed.closed.items c.in_ok-graphs.ensures.lowered.are
    c.in_ok-closed.ensures ∙ sym (ap length c.as_slice-order.ensures)

pub returns : goal.returns
returns c =
    let program = c.args.program.now in
    let plan = c.in_ok-plan.plan in
    let closed = c.in_ok-closed.closed.items in
    let made = c.in_ok-made.made in
    let written : IsWrittenWith program plan.order closed made =
    subst (λ o. IsWrittenWith program o closed made) c.as_slice-order.ensures
    (subst (λ l. IsWrittenWith program c.as_slice-order.result.now l made)
    c.as_mut_slice.ensures.value c.in_ok-made.ensures) in
    record {
      is = record {
        plan = record {
          returning = plan.returning;
          order = plan.order;
          is = c.in_ok-plan.ensures;
        };
        graphs = c.in_ok-graphs.graphs.items;
        lowered = c.in_ok-graphs.ensures.lowered;
        closed = closed;
        shaped = c.in_ok-closed.ensures;
        written = written.written;
      };
      added = written.added;
    }
