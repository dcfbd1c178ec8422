use Rattle.std.proofs.Common.{◌≡◌, Bool, subst}
use Rattle.control_flow_theory.specs.language.Language.{Chooser, Control, also, none, Perform, Performed, Loop}
use Rattle.program_points.specs.declared.numbering.build.Exits.{Exits}
use Rattle.program_points.specs.numbering.Kind.{kind_in}
use Rattle.program_points.specs.numbering.Build.{Builds, IsClosed}
use Rattle.program_points.proofs.numbering_lemmas.Growing.{if-ok}
use Rattle.program_points.proofs.numbering_lemmas.Looping.{loop-built}
use Rattle.program_points.proofs.numbering.build.Builder.build_call_loop.Goals as goal

pub returns-clause-builds : goal.returns-clause-builds
returns-clause-builds c =
    let old = c.args.self.now in
    let p1 = c.add.new.self in
    let p2 = c.build_call.new.self in
    let p3 = c.close_loop.new.self in
    let turn = c.in_ok-turn.turn in
    let start = c.in_ok-start.start in
    if-ok c.close_loop.result (λ begin. IsClosed c.args.kind turn c.args.exits.after start begin p2.places.items p3.places.items)
    (λ begin. (never_first : Chooser → Bool) (control : Control) → kind_in control ≡ c.args.kind → Builds never_first old.count c.args.here.number old.places.items p3.places.items old.ranges.items p3.ranges.items (also (Loop control (Performed c.args.entry c.args.exit)) none) c.args.exits begin)
    (λ begin closed never_first control is. loop-built never_first old.count c.args.here.number p1.count old.places.items p1.places.items p2.places.items p3.places.items old.ranges.items p1.ranges.items p2.ranges.items p3.ranges.items
    control (Performed c.args.entry c.args.exit) c.args.exits c.args.kind turn start begin is
    c.in_ok-turn.ensures.added.0 c.in_ok-turn.ensures.added.1 c.in_ok-turn.ensures.ranges c.in_ok-turn.ensures.count (subst (λ (ex : Exits). Builds never_first p1.count c.args.here.number p1.places.items p2.places.items p1.ranges.items p2.ranges.items (also (Perform c.args.entry c.args.exit) none) ex start) c.inside-inner.ensures (c.in_ok-start.ensures.builds never_first)) closed c.close_loop.ensures.ranges)
    c.close_loop.ensures.closed
