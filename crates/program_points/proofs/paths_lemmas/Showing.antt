-- An accepted trail shows a fault.
use Rattle.std.proofs.Common.{Bool, ◌≡◌, ℕ, true, List, [], ◌∷◌, ◌++◌, Some, refl, ap, sym, ◌∙◌, subst, append_assoc}
use Rattle.cob_tree.specs.declared.program.Range.{Range}
use Rattle.cob_tree.specs.declared.ending.FlowFault.{FlowFault}
use Rattle.program_points.specs.declared.paths.trail.Move.{Move}
use Rattle.program_points.specs.declared.paths.trail.Move.TheVariants.{Arm, Over, Into}
use Rattle.program_points.specs.declared.paths.trail.Lemma.{Lemma}
use Rattle.program_points.specs.declared.paths.trail.Hop.{Hop}
use Rattle.program_points.specs.declared.paths.trail.Trail.{Trail}
use Rattle.control_flow_theory.specs.language.Language.{Chooser, Program}
use Rattle.program_points.specs.paths.Step.{Point, start, Next, Ways, Calls, Stops, Ends, next}
use Rattle.program_points.specs.paths.Flow.{main_range, part, is_exit, Pending, returning, ends_of, fault_of, IsFaulty}
use Rattle.program_points.specs.paths.Levels.{enters, Levels, bottom, called}
use Rattle.program_points.specs.paths.Accepted.{walk, Return, Enter, IsEntered, Meets, LeadsTo, LemmasHold, with_exit, HopsLead, BeginsInMain, lemma_ranges, IsAccepted}
use Rattle.program_points.proofs.paths_lemmas.Runs.{levels-run}
use Rattle.program_points.proofs.paths_lemmas.Faults.{faulty}
use Rattle.program_points.proofs.paths_lemmas.Onward.{Returned, AllReturn, all-return-append, leads-comes}

meets-return : (range : Range) (now : Next) (moves : List Move) → Meets Return range now moves → (exit : ℕ) × (now ≡ Ends exit) × (is_exit range.exit exit ≡ true)
meets-return range (Ways ways) moves h = absurd h
meets-return range (Calls entry exit after) moves h = absurd h
meets-return range Stops moves h = absurd h
meets-return range (Ends paragraph) moves h = (paragraph, refl, h.1)

is-entered : (target : Range) (moves : List Move) (range : Range) → IsEntered target moves range → target ≡ range
is-entered target [] range h = absurd h
is-entered target (Arm number ∷ moves) range h = absurd h
is-entered target (Over number ∷ moves) range h = absurd h
is-entered target (Into ∷ moves) range h = h.1

meets-enter : (target range : Range) (now : Next) (moves : List Move) → Meets (Enter target) range now moves → (entry : ℕ) × (exit : ℕ) × (after : Point) × (now ≡ Calls entry exit after) × (target ≡ part entry exit)
meets-enter target range (Ways ways) moves h = absurd h
meets-enter target range (Calls entry exit after) moves h = (entry, exit, after, refl, is-entered target moves (part entry exit) h)
meets-enter target range Stops moves h = absurd h
meets-enter target range (Ends paragraph) moves h = absurd h

module _ (never_first : Chooser → Bool) (program : Program) where
  returned : (earlier : List Range) (lemma : Lemma) → AllReturn never_first program earlier → LeadsTo never_first program earlier lemma.range Return lemma.moves → Returned never_first program lemma.range
  returned earlier lemma all leads =
      let meets = meets-return lemma.range (next never_first program leads.end.point) leads.end.moves leads.meets in
      (leads.end.point, meets.0, leads-comes never_first program earlier lemma.range (walk (start program lemma.range.entry) lemma.moves) leads.end leads.path all (enters lemma.range), meets.1, meets.2)

  all-return : (earlier : List Range) (lemmas : List Lemma) → AllReturn never_first program earlier → LemmasHold never_first program earlier lemmas → AllReturn never_first program (earlier ++ lemma_ranges lemmas)
  all-return earlier [] all hold = all-return-append never_first program earlier [] all tt
  all-return earlier (lemma ∷ lemmas) all hold =
      subst (λ ranges. AllReturn never_first program ranges) (append_assoc earlier (lemma.range ∷ []) (lemma_ranges lemmas))
      (all-return (earlier ++ lemma.range ∷ []) lemmas (all-return-append never_first program earlier (lemma.range ∷ []) all (returned earlier lemma all hold.0, tt)) hold.1)

  hops-fault : (lemmas : List Range) (fault : FlowFault) (ends : List ℕ) (hop : Hop) (hops : List Hop) → AllReturn never_first program lemmas → HopsLead never_first program lemmas fault ends hop hops →
      (pending : List Pending) → Levels never_first program main_range hop.range pending → ends_of pending ≡ ends → IsFaulty never_first program
  hops-fault lemmas fault ends hop [] all leads pending levels same =
      faulty never_first program leads.end.point pending fault
      (levels-run never_first program main_range hop.range pending levels leads.end.point
      (leads-comes never_first program lemmas hop.range (walk (start program hop.range.entry) hop.moves) leads.end leads.path all (enters hop.range)))
      (subst (λ es. fault_of (next never_first program leads.end.point) es ≡ Some fault) (sym same) leads.meets.1)
  hops-fault lemmas fault ends hop (later ∷ hops) all leads pending levels same =
      let first = leads.0 in
      let meets = meets-enter later.range hop.range (next never_first program first.end.point) first.end.moves first.meets in
      let comes = leads-comes never_first program lemmas hop.range (walk (start program hop.range.entry) hop.moves) first.end first.path all (enters hop.range) in
      let pushed : List Pending = returning meets.1 meets.2 ∷ pending in
      hops-fault lemmas fault (with_exit later.range.exit ends) later hops all leads.1 pushed
      (subst (λ r. Levels never_first program main_range r pushed) (sym meets.4) (called hop.range pending first.end.point meets.2 meets.0 meets.1 levels comes meets.3))
      (ap (λ (es : List ℕ). meets.1 ∷ es) same ∙ ap (λ (r : Range). with_exit r.exit ends) (sym meets.4))

  begins-fault : (lemmas : List Range) (fault : FlowFault) (hops : List Hop) → AllReturn never_first program lemmas → BeginsInMain never_first program lemmas fault hops → IsFaulty never_first program
  begins-fault lemmas fault [] all h = absurd h
  begins-fault lemmas fault (hop ∷ hops) all h =
      hops-fault lemmas fault [] hop hops all h.1 [] (subst (λ r. Levels never_first program main_range r []) (sym h.0) bottom) refl

  pub accepted-faulty : (trail : Trail) → IsAccepted never_first program trail → IsFaulty never_first program
  accepted-faulty trail accepted =
      begins-fault (lemma_ranges trail.lemmas) trail.fault trail.hops (all-return [] trail.lemmas tt accepted.lemmas) accepted.hops
