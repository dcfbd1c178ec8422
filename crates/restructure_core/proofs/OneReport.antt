-- A program has one report.
use Rattle.std.proofs.Common.{◌≡◌, ℕ, List, map, length, Option, ap, sym, ◌∙◌}
use Rattle.cob_tree.specs.declared.program.Program.{Program}
use Rattle.control_flow_theory.specs.language.Control.{control_of}
use Rattle.out_names.specs.Naming.{paragraph_label}
use Rattle.program_points.specs.numbering.Kind.{never_first_of}
use Rattle.pending_returns.specs.declared.facts.RangeFacts.{RangeFacts}
use Rattle.pending_returns.specs.declared.facts.Summary.{Summary}
use Rattle.procedure_split.proofs.one_summary_lemmas.Facts.{summaries-same}
use Rattle.procedure_split.proofs.one_summary_lemmas.Numbers.{one-rising}
use Rattle.procedure_split.specs.report.Report.{IsSummaryOf, AreDroppedOf, AreLabelsOfDropped, IsReportOf}
use Rattle.procedure_split.specs.declared.report.report.AddedCounts.{AddedCounts}
use Rattle.procedure_split.specs.declared.report.report.Report.{Report}

same-numbers : (program : Program) (one other : List ℕ) → AreDroppedOf program one →
    AreDroppedOf program other → one ≡ other
same-numbers program one other first second =
    one-rising one other first.rises second.rises
    (λ number has. (second.dropped number).1 ((first.dropped number).0 has))
    (λ number has. (first.dropped number).1 ((second.dropped number).0 has))

same-labels : (program : Program) (one other : List (Option (List ℕ))) →
    AreLabelsOfDropped program one → AreLabelsOfDropped program other → one ≡ other
same-labels program one other first second =
    first.2
    ∙ ap (map (paragraph_label program.paragraphs))
    (same-numbers program first.0 second.0 first.1 second.1)
    ∙ sym second.2

as-many : (program : Program) (one other : Summary) → IsSummaryOf program one →
    IsSummaryOf program other → length one.ranges ≡ length other.ranges
as-many program one other first second =
    ap (λ (rs : List RangeFacts). length rs)
    (summaries-same (never_first_of program.files) (control_of program) one other first second)

abbrev made_of : List ℕ → ℕ → ℕ → List (Option (List ℕ)) → ℕ → ℕ → ℕ → ℕ → ℕ → Report
made_of a b c d e f g h i = record {
  name = a;
  paragraphs = b;
  ranges = c;
  dropped = d;
  never = e;
  flags = f;
  counts = g;
  states = h;
  exits = i;
}

abbrev remade : Report → Report
remade report =
    made_of report.name report.paragraphs report.ranges report.dropped report.never report.flags
    report.counts report.states report.exits

pub one-report : (program : Program) (summary other : Summary) (added : AddedCounts)
    (one another : Report) → IsSummaryOf program summary → IsSummaryOf program other →
    IsReportOf program summary added one → IsReportOf program other added another → one ≡ another
one-report program summary other added one another is also first second =
    let name : one.name ≡ another.name = first.name ∙ sym second.name in
    let paragraphs : one.paragraphs ≡ another.paragraphs =
    first.paragraphs ∙ sym second.paragraphs in
    let ranges : one.ranges ≡ another.ranges =
    first.ranges ∙ as-many program summary other is also ∙ sym second.ranges in
    let dropped : one.dropped ≡ another.dropped =
    same-labels program one.dropped another.dropped first.dropped second.dropped in
    let never : one.never ≡ another.never = first.never ∙ sym second.never in
    let flags : one.flags ≡ another.flags = first.flags ∙ sym second.flags in
    let counts : one.counts ≡ another.counts = first.counts ∙ sym second.counts in
    let states : one.states ≡ another.states = first.states ∙ sym second.states in
    let exits : one.exits ≡ another.exits = first.exits ∙ sym second.exits in
    let same : remade one ≡ remade another = cc in
    same
