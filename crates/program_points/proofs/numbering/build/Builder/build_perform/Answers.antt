use Rattle.std.proofs.Common.{Bool, subst, sym}
use Rattle.control_flow_theory.specs.language.Language.{Chooser, Stmt, also, none, Perform}
use Rattle.control_flow_theory.specs.language.Control.{control_in, perform_of}
use Rattle.program_points.specs.numbering.Build.{Builds}
use Rattle.program_points.proofs.numbering_lemmas.Growing.{if-ok}
use Rattle.program_points.proofs.numbering_lemmas.Looping.{perform-once, perform-loop}
use Rattle.program_points.proofs.numbering.build.Builder.build_perform.Goals as goal

pub returns-in-None-clause-builds : goal.returns-in-None-clause-builds
returns-in-None-clause-builds c =
    let old = c.args.self.now in
    let new = c.build_call.new.self in
    let e = perform-once (control_in c.args.control.now) c.args.entry c.args.exit c.in-None.ensures in
    if-ok c.build_call.result (λ begin. (never_first : Chooser → Bool) → Builds never_first old.count c.args.here.number old.places.items new.places.items old.ranges.items new.ranges.items (also (Perform c.args.entry c.args.exit) none) c.args.exits begin)
    (λ begin. (never_first : Chooser → Bool) → Builds never_first old.count c.args.here.number old.places.items new.places.items old.ranges.items new.ranges.items (also (perform_of (control_in c.args.control.now) c.args.entry c.args.exit) none) c.args.exits begin)
    (λ begin builds never_first. subst (λ (s : Stmt). Builds never_first old.count c.args.here.number old.places.items new.places.items old.ranges.items new.ranges.items (also s none) c.args.exits begin) (sym e) (builds never_first))
    c.build_call.ensures.builds

pub returns-in-Some-clause-builds : goal.returns-in-Some-clause-builds
returns-in-Some-clause-builds c =
    let old = c.args.self.now in
    let new = c.build_call_loop.new.self in
    let e = perform-loop (control_in c.args.control.now) c.args.entry c.args.exit c.in-Some.kind c.in-Some.ensures in
    if-ok c.build_call_loop.result _ (λ begin. (never_first : Chooser → Bool) → Builds never_first old.count c.args.here.number old.places.items new.places.items old.ranges.items new.ranges.items (also (perform_of (control_in c.args.control.now) c.args.entry c.args.exit) none) c.args.exits begin)
    (λ begin builds never_first. subst (λ (s : Stmt). Builds never_first old.count c.args.here.number old.places.items new.places.items old.ranges.items new.ranges.items (also s none) c.args.exits begin) (sym e.2) (builds never_first e.0 e.1))
    c.build_call_loop.ensures.builds
