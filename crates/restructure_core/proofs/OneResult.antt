-- A program without a fault of flow has one result, or passes one limit first.
use Rattle.std.proofs.Common.{◌≡◌, ℕ, List, Some, ap, ap₂, sym, ◌∙◌, subst, inl, inr}
use Rattle.std.proofs.lemmas.Option.{none-some}
use Rattle.cob_base.specs.declared.limit.Limit.{Limit}
use Rattle.cob_tree.specs.declared.program.Program.{Program}
use Rattle.cobol_read.specs.Reading.{Reads}
use Rattle.cobol_print.specs.Program.{printed}
use Rattle.procedure_split.specs.declared.writing.Split.{Split}
use Rattle.procedure_split.specs.report.Report.{IsReportOf}
use Rattle.procedure_split.specs.declared.report.report.Report.{Report}
use Rattle.restructure_core.proofs.OneReport.{one-report}
use Rattle.procedure_split.specs.one_split.Laws.{IsSplitOnce}
use Rattle.procedure_split.proofs.one_split_lemmas.OneSplit.{one-split}
use Rattle.restructure_core.specs.declared.pipeline.Done.{Done}
use Rattle.restructure_core.specs.Flow.{IsFaultless}
use Rattle.pending_returns.specs.declared.facts.Summary.{Summary}
use Rattle.restructure_core.specs.Made.{IsClear, IsMadeOf, PassesBefore}
use Rattle.restructure_core.specs.Limit.{result_limit}
use Rattle.restructure_core.specs.Pipeline.{PassesAsResult, PassesLimit, IsResultOf}
use Rattle.end_to_end_laws.proofs.results_lemmas.read_headline_lemmas.WellMade.{well-made}

pub limited-faultless : (program : Program) (limit : Limit) → PassesLimit program limit →
    IsFaultless program
limited-faultless program limit (inl before) = record { within = before.clear.within; never = before.clear.flow.never }
limited-faultless program limit (inr long) = record { within = long.is.clear.within; never = long.is.clear.flow.never }

pub done-faultless : (program : Program) (done : Done) → IsResultOf program done →
    IsFaultless program
done-faultless program done h = record { within = h.is.clear.within; never = h.is.clear.flow.never }

some-same : (a b : Limit) → Some a ≡ Some b → a ≡ b
some-same a b e = cc

module _ (bytes : List ℕ) (program : Program) (reads : Reads bytes program) where
  once : (one other : Summary) → IsClear program one → IsClear program other →
      IsSplitOnce program one other
  once one other is also_is =
      one-split program one other (well-made bytes program reads) is.flow
      also_is.flow

  made-same : (one other : Split) → IsMadeOf program one → IsMadeOf program other → one ≡ other
  made-same one other h g =
      (once h.summary g.summary h.clear g.clear).made one other h.split g.split

  before-same : (one other : Limit) → PassesBefore program one → PassesBefore program other →
      one ≡ other
  before-same one other h g =
      (once h.summary g.summary h.clear g.clear).limit one other h.past g.past

  made-within : (made : Split) (limit : Limit) → IsMadeOf program made →
      PassesBefore program limit → ⊥
  made-within made limit h g =
      (once h.summary g.summary h.clear g.clear).within made.program limit h.split.is g.past

  -- a limit that is passed is that of each program that it is split into
  result-passes : (made : Split) (limit : Limit) → IsMadeOf program made →
      PassesAsResult program limit → result_limit made.program ≡ Some limit
  result-passes made limit is long =
      ap (λ (m : Split). result_limit m.program) (made-same made long.made is long.is) ∙ long.past

  pub limits-one : (one other : Limit) → PassesLimit program one → PassesLimit program other →
      one ≡ other
  limits-one one other (inl h) (inl g) = before-same one other h g
  limits-one one other (inl h) (inr g) = absurd (made-within g.made one g.is h)
  limits-one one other (inr h) (inl g) = absurd (made-within h.made other h.is g)
  limits-one one other (inr h) (inr g) =
      some-same one other (sym h.past ∙ result-passes h.made other h.is g)

  pub done-unlimited : (done : Done) (limit : Limit) → IsResultOf program done →
      PassesLimit program limit → ⊥
  done-unlimited done limit h (inl g) = made-within h.made limit h.is g
  done-unlimited done limit h (inr g) =
      none-some limit (sym h.within ∙ result-passes h.made limit h.is g)

  done-same : (one other : Done) → one.text ≡ other.text → one.report ≡ other.report →
      one ≡ other
  done-same one other texts reports =
      ap₂ (λ (t : List ℕ) (r : Report). (
      let done : Done = record { text = t; report = r } in done
      )) texts reports

  pub dones-one : (one other : Done) → IsResultOf program one → IsResultOf program other →
      one ≡ other
  dones-one one other h g =
      let made = made-same h.made g.made h.is g.is in
      done-same one other
      (h.written ∙ ap (λ (m : Split). printed m.program) made ∙ sym g.written)
      (one-report program h.is.summary g.is.summary h.made.added one.report other.report
      h.is.clear.flow.is g.is.clear.flow.is h.reported
      (subst (λ (m : Split). IsReportOf program g.is.summary m.added other.report) (sym made)
      g.reported))
