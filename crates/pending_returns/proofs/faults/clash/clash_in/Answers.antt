use Rattle.std.proofs.Common.{List, subst}
use Rattle.control_flow_theory.specs.language.Control.{control_of}
use Rattle.program_points.specs.paths.Flow.{IsFaulty}
use Rattle.program_points.specs.numbering.Kind.{never_first_of}
use Rattle.pending_returns.specs.declared.facts.RangeFacts.{RangeFacts}
use Rattle.pending_returns.specs.faults.Clash.{HasClash, NoClash}
use Rattle.pending_returns.proofs.faults_lemmas.Clashes.{clash-faulty, no-clash, calls-below, on-found}
use Rattle.pending_returns.proofs.faults.clash.clash_in.Goals as goal

pub clash_of-requires : goal.clash_of-requires
clash_of-requires c = record { known = calls-below (never_first_of c.args.program.now.files) (control_of c.args.program.now) c.args.summary.now c.requires c.as_slice.result.now c.as_slice.ensures }

pub returns-clause-faulty : goal.returns-clause-faulty
returns-clause-faulty c =
    let never_first = never_first_of c.args.program.now.files in
    let program = control_of c.args.program.now in
    let levels = c.as_slice.result.now in
    on-found c.clash_of.result (NoClash levels) (IsFaulty never_first program → ⊥) (λ clash. HasClash levels clash) (λ clash. IsFaulty never_first program)
    (λ none. no-clash never_first program c.args.summary.now c.requires (subst (λ (ls : List RangeFacts). NoClash ls) c.as_slice.ensures none))
    (λ clash has. clash-faulty never_first program c.args.summary.now c.requires clash (subst (λ (ls : List RangeFacts). HasClash ls clash) c.as_slice.ensures has))
    c.clash_of.ensures

pub returns-clause-clash : goal.returns-clause-clash
returns-clause-clash c =
    let levels = c.as_slice.result.now in
    let ranges = c.args.summary.now.ranges in
    on-found c.clash_of.result (NoClash levels) (NoClash ranges) (λ clash. HasClash levels clash) (λ clash. HasClash ranges clash)
    (λ none. subst (λ (ls : List RangeFacts). NoClash ls) c.as_slice.ensures none)
    (λ clash has. subst (λ (ls : List RangeFacts). HasClash ls clash) c.as_slice.ensures has)
    c.clash_of.ensures
