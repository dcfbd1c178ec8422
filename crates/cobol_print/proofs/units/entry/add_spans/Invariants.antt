use Rattle.std.proofs.Common.{◌≡◌, ◌++◌, drop}
use Rattle.cobol_print.specs.units.Entry.{spans_tokens}
use Rattle.cobol_print.proofs.units.entry.add_spans.Given as goal

abbrev pub invariant-loop-span : goal.invariant-loop-span
invariant-loop-span l =
    l.tokens ++ spans_tokens l.program (drop l.span-index l.spans)
    ≡ l.initial.tokens ++ spans_tokens l.program l.spans
