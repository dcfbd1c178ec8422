use Rattle.std.proofs.Common.{◌≡◌, ◌+◌, ◌-◌, ◌∙◌, [], ◌∷◌, ap, arith, drop, if◌then◌else◌, length, refl, slice_get}
use Rattle.std.proofs.lemmas.List.{length-drop}
use Rattle.std.proofs.lemmas.Option.{slice_get_read}
use Rattle.cobol_run.specs.Events.{filed_events}
use Rattle.trace_compare.specs.Side.{pending_of}
use Rattle.trace_compare.proofs.SideLemmas.{filed_count, filed_here}
use Rattle.trace_compare.proofs.side.ComparedSide.event.Goals as goal

pub returns : goal.returns
returns c =
    let l : length (pending_of c.args.self.now) ≡ length (filed_events c.args.self.now.machine) - c.args.self.now.compared =
    ap (λ d. length (drop c.args.self.now.compared (if d then (0 ∷ c.args.self.now.machine.held.shown) ∷ [] else filed_events c.args.self.now.machine))) c.if-self.false
    ∙ length-drop c.args.self.now.compared (filed_events c.args.self.now.machine) in
    let k = filed_count c.args.self.now.machine in
    ap (λ d. slice_get (drop c.args.self.now.compared (if d then (0 ∷ c.args.self.now.machine.held.shown) ∷ [] else filed_events c.args.self.now.machine)) c.args.at) c.if-self.false
    ∙ filed_here c.args.self.now.machine c.args.self.now.compared c.args.at c.index-done.result.now c.bytes_of.result.now
    (slice_get_read c.args.self.now.machine.work.done.items (length c.args.self.now.machine.work.done.items) (c.args.self.now.compared + c.args.at) c.index-done.result.now refl (omega (arith, c.requires, l, k)) c.index-done.ensures)
    c.bytes_of.ensures
