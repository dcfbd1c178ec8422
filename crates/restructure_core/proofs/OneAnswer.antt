-- One answer is due to bytes, but for the trail.
use Rattle.std.proofs.Common.{◌≡◌, ℕ, List, Some, None, Result, Ok, Err, refl, ap, sym, ◌∙◌, subst, ◌⊎◌, inl, inr}
use Rattle.std.specs.Prelude.{IsOk, IfOk, IfErr}
use Rattle.cob_base.specs.declared.limit.Limit.{Limit}
use Rattle.cob_tree.specs.declared.program.Program.{Program}
use Rattle.program_points.specs.declared.paths.trail.Trail.{Trail}
use Rattle.pending_returns.specs.Summary.{IsWithin}
use Rattle.cobol_print.specs.Program.{printed}
use Rattle.cobol_read.specs.Reading.{Reads}
use Rattle.fixed_point_laws.specs.Results.{IsFixed, ResultsAreFixed}
use Rattle.cobol_read.proofs.OneWay.{one_way}
use Rattle.restructure_core.specs.declared.fault.Refused.{Refused}
use Rattle.restructure_core.specs.declared.fault.Refused.TheVariants as refused
use Rattle.restructure_core.specs.declared.pipeline.Done.{Done}
use Rattle.restructure_core.specs.Flow.{PassesRanges, HasFlowFault, IsFaultless}
use Rattle.restructure_core.specs.Limit.{result_limit}
use Rattle.restructure_core.specs.Made.{IsMadeOf}
use Rattle.restructure_core.specs.Fault.{of_read_refusal}
use Rattle.restructure_core.specs.Pipeline.{IsUnread, IsPastRanges, IsFaultySource, PassesLimit, IsPastLimit, IsResultOf, IsRestructured, IsRestructurable, HasCause, IsRefusedBy, IsRefusedByTrail, IsDoneWith, IsResultText}
use Rattle.restructure_core.proofs.Ranges.{limits-same, within-past}
use Rattle.restructure_core.proofs.ReadingBack.{within-limits}
use Rattle.restructure_core.proofs.OneResult.{limited-faultless, done-faultless, limits-one, done-unlimited, dones-one}

-- a result or a refusal
abbrev pub Outcome : Type 0
Outcome = Result Done Refused

-- what a program that is read comes to

abbrev IsPastOf : Program → Outcome → Type 0
IsPastOf program outcome = (limit : Limit) × (outcome ≡ Err (refused.Limit limit)) × PassesRanges program limit

abbrev IsFaultyOf : Program → Outcome → Type 0
IsFaultyOf program outcome = (trail : Trail) × (outcome ≡ Err (refused.Flow program trail)) × IsWithin program × HasFlowFault program

abbrev IsLimitedOf : Program → Outcome → Type 0
IsLimitedOf program outcome =
    (limit : Limit) × (outcome ≡ Err (refused.Limit limit)) × PassesLimit program limit

abbrev IsDoneFor : Program → Outcome → Type 0
IsDoneFor program outcome = (done : Done) × (outcome ≡ Ok done) × IsResultOf program done

pub data IsOf (program : Program) (outcome : Outcome) : Type 0 where
  past : IsPastOf program outcome → IsOf program outcome
  faulty : IsFaultyOf program outcome → IsOf program outcome
  limited : IsLimitedOf program outcome → IsOf program outcome
  result : IsDoneFor program outcome → IsOf program outcome

-- the same outcome, or the refusal of one program by two trails
abbrev pub IsAlike : Outcome → Outcome → Type 0
IsAlike one other = (one ≡ other) ⊎ ((program : Program) × (first : Trail) × (second : Trail)
    × (one ≡ Err (refused.Flow program first)) × (other ≡ Err (refused.Flow program second)))

-- a program without a fault of flow names few ranges
clear-past : (program : Program) (limit : Limit) → IsFaultless program →
    PassesRanges program limit → ⊥
clear-past program limit faultless h = within-past program limit faultless.within h

module _ (bytes : List ℕ) (program : Program) (reads : Reads bytes program) where
  alike-of : (one other : Outcome) → IsOf program one → IsOf program other → IsAlike one other
  alike-of one other (past h) (past g) =
      inl (h.1 ∙ ap (λ l. Err (refused.Limit l)) (limits-same program h.0 g.0 h.2 g.2) ∙ sym g.1)
  alike-of one other (past h) (faulty g) = absurd (within-past program h.0 g.2 h.2)
  alike-of one other (past h) (limited g) =
      absurd (clear-past program h.0 (limited-faultless program g.0 g.2) h.2)
  alike-of one other (past h) (result g) =
      absurd (clear-past program h.0 (done-faultless program g.0 g.2) h.2)
  alike-of one other (faulty h) (past g) = absurd (within-past program g.0 h.2 g.2)
  alike-of one other (faulty h) (faulty g) = inr (program, h.0, g.0, h.1, g.1)
  alike-of one other (faulty h) (limited g) =
      absurd ((limited-faultless program g.0 g.2).never h.3)
  alike-of one other (faulty h) (result g) = absurd ((done-faultless program g.0 g.2).never h.3)
  alike-of one other (limited h) (past g) =
      absurd (clear-past program g.0 (limited-faultless program h.0 h.2) g.2)
  alike-of one other (limited h) (faulty g) =
      absurd ((limited-faultless program h.0 h.2).never g.3)
  alike-of one other (limited h) (limited g) =
      inl (h.1 ∙ ap (λ l. Err (refused.Limit l))
      (limits-one bytes program reads h.0 g.0 h.2 g.2) ∙ sym g.1)
  alike-of one other (limited h) (result g) =
      absurd (done-unlimited bytes program reads g.0 h.0 g.2 h.2)
  alike-of one other (result h) (past g) =
      absurd (clear-past program g.0 (done-faultless program h.0 h.2) g.2)
  alike-of one other (result h) (faulty g) = absurd ((done-faultless program h.0 h.2).never g.3)
  alike-of one other (result h) (limited g) =
      absurd (done-unlimited bytes program reads h.0 g.0 h.2 g.2)
  alike-of one other (result h) (result g) =
      inl (h.1 ∙ ap Ok (dones-one bytes program reads h.0 g.0 h.2 g.2) ∙ sym g.1)

-- what is due to bytes

abbrev IsOfUnread : List ℕ → Outcome → Type 0
IsOfUnread bytes outcome = (why : Refused) × (outcome ≡ Err why) × IsUnread bytes why

abbrev IsOfRead : List ℕ → Outcome → Type 0
IsOfRead bytes outcome = (program : Program) × Reads bytes program × IsOf program outcome

abbrev pub IsDueTo : List ℕ → Outcome → Type 0
IsDueTo bytes outcome = IsOfUnread bytes outcome ⊎ IsOfRead bytes outcome

read-unread : (bytes : List ℕ) (program : Program) (why : Refused) → Reads bytes program → IsUnread bytes why → ⊥
read-unread bytes program why reads unread = one_way.refused bytes program unread.why reads unread.some unread.cause

unread-same : (bytes : List ℕ) (one other : Refused) → IsUnread bytes one → IsUnread bytes other → one ≡ other
unread-same bytes one other h g = h.is ∙ ap of_read_refusal (one_way.cause bytes h.why g.why h.some g.some h.cause g.cause) ∙ sym g.is

-- what another reading of the bytes comes to is of the program
of-read : (bytes : List ℕ) (program : Program) (outcome : Outcome) → Reads bytes program → IsOfRead bytes outcome → IsOf program outcome
of-read bytes program outcome reads h = subst (λ p. IsOf p outcome) (one_way.program bytes h.0 program h.1 reads) h.2

pub alike : (bytes : List ℕ) (one other : Outcome) → IsDueTo bytes one → IsDueTo bytes other → IsAlike one other
alike bytes one other (inl h) (inl g) = inl (h.1 ∙ ap Err (unread-same bytes h.0 g.0 h.2 g.2) ∙ sym g.1)
alike bytes one other (inl h) (inr g) = absurd (read-unread bytes g.0 h.0 g.1 h.2)
alike bytes one other (inr h) (inl g) = absurd (read-unread bytes h.0 g.0 h.1 g.2)
alike bytes one other (inr h) (inr g) =
    alike-of bytes g.0 g.1 one other (of-read bytes g.0 one g.1 h) g.2

pub done-due : (bytes : List ℕ) (done : Done) → IsRestructured bytes done →
    IsDueTo bytes (Ok done)
done-due bytes done h = inr (h.program, h.reads, result (done, refl, h.result))

pub cause-due : (bytes : List ℕ) (why : Refused) → HasCause bytes why →
    (why ≡ refused.NoMemory) ⊎ IsDueTo bytes (Err why)
cause-due bytes (refused.NotSubset why) h = inr (inl (refused.NotSubset why, refl, h))
cause-due bytes (refused.Flow program trail) h =
    inr (inr (program, h.reads, faulty (trail, refl, h.faulty.within, h.faulty.faulty)))
cause-due bytes (refused.Limit limit) (inl h) = inr (inl (refused.Limit limit, refl, h))
cause-due bytes (refused.Limit limit) (inr (inl h)) =
    inr (inr (h.program, h.reads, past (limit, refl, h.past)))
cause-due bytes (refused.Limit limit) (inr (inr h)) =
    inr (inr (h.program, h.reads, limited (limit, refl, h.passes)))
cause-due bytes refused.NoMemory h = inl refl

-- Where each answer comes.

either-due : (bytes : List ℕ) (outcome : Outcome) → IfOk outcome (IsRestructured bytes) →
    IfErr outcome (HasCause bytes) → (outcome ≡ Err refused.NoMemory) ⊎ IsDueTo bytes outcome
either-due bytes (Ok done) told why = inr (done-due bytes done told)
either-due bytes (Err refusal) told why = elim (cause-due bytes refusal why) [
  | inl none ↦ inl (ap Err none)
  | inr due ↦ inr due
]

-- what follows of what each answer tells
module _ (bytes : List ℕ) (outcome : Outcome) (done : IfOk outcome (IsRestructured bytes))
    (cause : IfErr outcome (HasCause bytes)) where
  -- what holds of a result that is due holds, unless memory was wanted
  unless-memory : (P : Type 0) → (IsDueTo bytes outcome → P) → P ⊎ (outcome ≡ Err refused.NoMemory)
  unless-memory P from = elim (either-due bytes outcome done cause) [
    | inl none ↦ inr none
    | inr due ↦ inl (from due)
  ]

  ok-is : (written : Done) → outcome ≡ Ok written → IsOk outcome
  ok-is written e = subst (λ o. IsOk o) (sym e) refl

  -- a result that is due where the bytes are this program
  of-program : (program : Program) → Reads bytes program → IsDueTo bytes outcome → IsOf program outcome
  of-program program reads (inl h) = absurd (read-unread bytes program h.0 reads h.2)
  of-program program reads (inr h) = of-read bytes program outcome reads h

  pub comes-unread : (refusal : Refused) → IsUnread bytes refusal → IsRefusedBy refusal outcome
  comes-unread refusal unread = unless-memory (outcome ≡ Err refusal) from where
    from : IsDueTo bytes outcome → outcome ≡ Err refusal
    from (inl h) = h.1 ∙ ap Err (unread-same bytes h.0 refusal h.2 unread)
    from (inr h) = absurd (read-unread bytes h.0 refusal h.1 unread)

  pub comes-past : (limit : Limit) → IsPastRanges bytes limit →
      IsRefusedBy (refused.Limit limit) outcome
  comes-past limit source = unless-memory (outcome ≡ Err (refused.Limit limit))
      (λ due. from (of-program source.program source.reads due)) where
        from : IsOf source.program outcome → outcome ≡ Err (refused.Limit limit)
        from (past h) = h.1 ∙ ap (λ l. Err (refused.Limit l))
            (limits-same source.program h.0 limit h.2 source.past)
        from (faulty h) = absurd (within-past source.program limit h.2 source.past)
        from (limited h) = absurd (clear-past source.program limit
            (limited-faultless source.program h.0 h.2) source.past)
        from (result h) = absurd (clear-past source.program limit
            (done-faultless source.program h.0 h.2) source.past)

  pub comes-faulty : (program : Program) → IsFaultySource bytes program →
      IsRefusedByTrail program outcome
  comes-faulty program source =
      unless-memory ((trail : Trail) × (outcome ≡ Err (refused.Flow program trail)))
      (λ due. from (of-program program source.reads due)) where
        from : IsOf program outcome →
            (trail : Trail) × (outcome ≡ Err (refused.Flow program trail))
        from (past h) = absurd (within-past program h.0 source.within h.2)
        from (faulty h) = (h.0, h.1)
        from (limited h) = absurd ((limited-faultless program h.0 h.2).never source.faulty)
        from (result h) = absurd ((done-faultless program h.0 h.2).never source.faulty)

  pub comes-limited : (limit : Limit) → IsPastLimit bytes limit →
      IsRefusedBy (refused.Limit limit) outcome
  comes-limited limit source = unless-memory (outcome ≡ Err (refused.Limit limit))
      (λ due. from (of-program source.program source.reads due)) where
        clear : IsFaultless source.program
        clear = limited-faultless source.program limit source.passes

        from : IsOf source.program outcome → outcome ≡ Err (refused.Limit limit)
        from (past h) = absurd (clear-past source.program h.0 clear h.2)
        from (faulty h) = absurd (clear.never h.3)
        from (limited h) = h.1 ∙ ap (λ l. Err (refused.Limit l))
            (limits-one bytes source.program source.reads h.0 limit h.2 source.passes)
        from (result h) =
            absurd (done-unlimited bytes source.program source.reads h.0 limit h.2 source.passes)

  pub comes-done : IsRestructurable bytes → IsOk outcome ⊎ (outcome ≡ Err refused.NoMemory)
  comes-done source = unless-memory (IsOk outcome)
      (λ due. from (of-program source.program source.reads due)) where
        from : IsOf source.program outcome → IsOk outcome
        from (past h) = absurd (clear-past source.program h.0 source.faultless h.2)
        from (faulty h) = absurd (source.faultless.never h.3)
        from (limited h) = absurd (source.within h.0 h.2)
        from (result h) = ok-is h.0 h.1

  -- what a program was restructured to is restructured to itself
  pub comes-again : ResultsAreFixed → IsResultText bytes → IsDoneWith bytes outcome
  comes-again are_fixed source = unless-memory ((again : Done) × (outcome ≡ Ok again) × (again.text ≡ bytes))
      (λ due. from (of-program made reads due)) where
        h : IsRestructured source.0 source.1
        h = source.2

        made : Program
        made = h.result.made.program

        reads : Reads bytes made
        reads = subst (λ text. Reads text made) source.3 h.read_back

        is : IsMadeOf h.program h.result.made
        is = h.result.is

        fixed : IsFixed made
        fixed =
            are_fixed source.0 h.program made is.summary h.reads is.clear.flow
            is.clear.few is.split.is (within-limits h.program h.result.made is h.result.within)

        from : IsOf made outcome → (again : Done) × (outcome ≡ Ok again) × (again.text ≡ bytes)
        from (past g) = absurd (fixed.ranges g.0 g.2)
        from (faulty g) = absurd (fixed.faultless g.3)
        from (limited g) = absurd (unlimited g.0 g.2)
          where
            unlimited : (limit : Limit) → PassesLimit made limit → ⊥
            unlimited limit (inl before) = fixed.within before.summary limit before.clear.flow.is before.past
            unlimited limit (inr long) =
                let same = (fixed.again long.is.summary long.made long.is.clear.flow.is long.is.split).0 in
                let none : None ≡ Some limit = sym h.result.within ∙ ap result_limit (sym same) ∙ long.past in
                cc
        from (result g) =
            let same = (fixed.again g.2.is.summary g.2.made g.2.is.clear.flow.is g.2.is.split).0 in
            (g.0, g.1, g.2.written ∙ ap printed same ∙ sym h.result.written ∙ source.3)
