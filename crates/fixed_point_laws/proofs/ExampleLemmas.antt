-- A program of one STOP RUN comes again.
use Rattle.std.proofs.Common.{◌≡◌, ℕ, zero, suc, true, false, ◌==◌, List, [], ◌∷◌, Option, Some, None, refl, ap, sym, ◌∙◌, subst, arith, inl, inr}
use Rattle.std.specs.Prelude.{slice_get}
use Rattle.std.proofs.lemmas.Bool.Decides.{eqb_tells}
use Rattle.control_flow_theory.specs.language.Language.{Evaluate, Read, Arith, Depending, Perform, StopRun, Range, Main, Part}
use Rattle.control_flow_theory.specs.language.Items.{Item, Do, SentenceEnd}
use Rattle.control_flow_theory.specs.language.Structured.{StmtsNest, IsStructuredControl}
use Rattle.control_flow_theory.specs.semantics.Items.{Way, On, Into, To, ToEnd, item_way}
use Rattle.control_flow_theory.specs.semantics.Graph.{Label, end_of}
use Rattle.control_flow_theory.specs.lowering.FlowFacts.{FlowFacts}
use Rattle.control_flow_theory.specs.lowering.WellFormed.{AreJustReached}
use Rattle.control_flow_theory.specs.lowering.flow.Comes.{begins, enters, goes_on, goes_to, goes_to_end, over, falls}
use Rattle.control_flow_theory.specs.lowering.Lowered.{lowered}
use Rattle.control_flow_theory.specs.lowering.Reached.{JumpsTo, IsReached, entered, jumped}
use Rattle.control_flow_theory.specs.lowering.flow.Paths.{free}
use Rattle.control_flow_theory.specs.lowering.flow.Entered.{FreelyComes, IsEntered, main, performed}
use Rattle.control_flow_theory.specs.lowering.flow.Called.{IsCalled}
use Rattle.control_flow_theory.specs.graph_rules.Walked.{In}
use Rattle.control_flow_theory.specs.rendering.Rendering.{Procedure, place_of}
use Rattle.control_flow_theory.specs.main_theorem.Chain.{IsPlan}
use Rattle.control_flow_theory.specs.main_theorem.CallsReached.{GivesSome}
use Rattle.control_flow_theory.specs.main_theorem.MainTheorem.{procedures_by}
use Rattle.program_facts.specs.completion.FlowFacts.{flow_facts_of}
use Rattle.statement_builders.specs.arms.Written.{naming_in}
use Rattle.fixed_point.specs.Again.{IsRangeAt}
use Rattle.fixed_point.specs.Fixed.{stands_in, result_by, ResultIsWritten}
use Rattle.fixed_point.specs.Written.{PickerAgain, StmtsChoose}
use Rattle.fixed_point_laws.specs.Example.{stopping, stopping_kept, stopping_plan, stopping_way, StoppingComesAgain}
use Rattle.fixed_point_laws.proofs.NameLemmas.{parts-keep, reads-alike, acts-so}

abbrev told : FlowFacts
told = flow_facts_of [] []

abbrev whole_rest : List Item
whole_rest = Do StopRun ∷ SentenceEnd ∷ []

abbrev way_of : List Item → List ℕ → Way (List ℕ)
way_of [] ways = On [] ways []
way_of (item ∷ rest) ways = item_way (free told) item rest ways

-- ---- its flow

main-rest : (range : Range) (number : ℕ) (rest : List Item) → FreelyComes told stopping range number rest → range ≡ Main → rest ≡ whole_rest
main-rest r n s begins is = refl
main-rest r n s (enters entry exit) is = absurd (let k : Part entry exit ≡ Main = is in cc)
main-rest r n s (goes_on range number item rest memory trace after items c e) is =
    absurd (let k : way_of whole_rest memory ≡ On trace after items = ap (λ x. way_of x memory) (sym (main-rest range number (item ∷ rest) c is)) ∙ e in cc)
main-rest r n s (goes_to range number item rest memory trace after to c e) is =
    absurd (let k : way_of whole_rest memory ≡ To trace after to = ap (λ x. way_of x memory) (sym (main-rest range number (item ∷ rest) c is)) ∙ e in cc)
main-rest r n s (goes_to_end range number item rest memory trace after to c e) is =
    absurd (let k : way_of whole_rest memory ≡ ToEnd trace after to = ap (λ x. way_of x memory) (sym (main-rest range number (item ∷ rest) c is)) ∙ e in cc)
main-rest r n s (over range number item rest memory entry exit items c e d) is =
    absurd (let k : way_of whole_rest memory ≡ Into entry exit items = ap (λ x. way_of x memory) (sym (main-rest range number (item ∷ rest) c is)) ∙ e in cc)
main-rest r n s (falls range number next found off c) is = absurd (let k : [] ≡ whole_rest = main-rest range number [] c is in cc)

none-called : (entry exit : ℕ) → IsCalled told stopping Main entry exit → ⊥
none-called entry exit c = let k : Do (Perform entry exit) ∷ c.1 ≡ whole_rest = main-rest Main c.0 (Do (Perform entry exit) ∷ c.1) c.2 refl in cc

main-alone : (range : Range) → IsEntered told stopping range → range ≡ Main
main-alone range main = refl
main-alone range (performed from number rest entry exit is c) =
    absurd (none-called entry exit (number, rest, subst (λ r. FreelyComes told stopping r number (Do (Perform entry exit) ∷ rest)) (main-alone from is) c))

-- ---- its nodes

main-label : (label : Label) → IsReached (lowered told stopping) Main label → label ≡ 0
main-label l entered = refl
main-label l (jumped label to h j) =
    absurd (subst (λ x. JumpsTo to (end_of ((lowered told stopping).node Main x))) (main-label label h) j)

reached : (range : Range) (label : Label) → IsReached (lowered told stopping) range label → stopping_kept range label ≡ true
reached Main label h = ap (λ x. x == 0) (main-label label h)
reached (Part e x) label h = refl

just-main : (label : Label) → stopping_kept Main label ≡ true → IsReached (lowered told stopping) Main label
just-main label is = elim (eqb_tells label 0) [
  | inl h ↦ subst (IsReached (lowered told stopping) Main) (sym h.1) entered
  | inr h ↦ absurd (let k : true ≡ false = sym is ∙ h.0 in cc)
]

just-of : (range : Range) → In range (Main ∷ []) → AreJustReached told stopping range (stopping_kept range)
just-of Main here = (just-main, reached Main)
just-of (Part e x) here = absurd (let k : false ≡ true = here in cc)

planned : IsPlan told stopping stopping_kept []
planned = record {
  returning = λ entry exit is c. absurd (let k : Part entry exit ≡ Main = main-alone (Part entry exit) is in cc);
  exact = λ entry exit is. absurd (never entry exit is);
  reached = reached;
  just = λ range here. just-of range here;
  entered = λ entry exit here. absurd (let k : false ≡ true = here in cc);
  order = (refl, (λ entry exit c. absurd (none-called entry exit c)), tt);
}
  where
    never : (entry exit : ℕ) → told.returning entry exit ≡ true → ⊥
    never entry exit is = (let k : false ≡ true = is in let w : ⊥ = cc in w)

-- ---- its one procedure

gives : GivesSome told
gives (Evaluate subject tests has_other) = (0, (omega arith, λ never. absurd (let k : ⊥ = cc in k)))
gives (Read file into true) = (0, (omega arith, λ never. absurd (let k : ⊥ = cc in k)))
gives (Read file into false) = (0, (omega arith, λ never. absurd (let k : ⊥ = cc in k)))
gives (Arith calc into) = (0, (omega arith, λ never. absurd (let k : ⊥ = cc in k)))
gives (Depending on names) = (0, (omega arith, λ never. absurd (let k : ⊥ = cc in k)))

abbrev or_it : {A : Type 0} → A → Option A → A
or_it a None = a
or_it a (Some b) = b

same : result_by stopping_plan stopping (naming_in stopping_way) ≡ stopping
same = refl

structured : IsStructuredControl stopping
structured = record {
  nests = ((tt, tt), tt);
  stops = refl;
  performed = λ number some lt. absurd (omega (arith, some, lt));
}

module _ (P : Procedure → Type 0) (first : (procedure : Procedure) → slice_get (procedures_by stopping_plan stopping) 0 ≡ Some procedure → P procedure) where
  alone : (number : ℕ) (procedure : Procedure) → slice_get (procedures_by stopping_plan stopping) number ≡ Some procedure → P procedure
  alone zero procedure is = first procedure is
  alone (suc number) procedure is = absurd (let k : ⊥ = cc in k)

order : (number : ℕ) (range : Range) → slice_get (Main ∷ []) number ≡ Some range → IsRangeAt number range
order zero range is = (let k : Main ≡ range = ap (or_it Main) is in subst (IsRangeAt 0) k refl)
order (suc number) range is = absurd (let k : ⊥ = cc in k)

met : ResultIsWritten stopping_plan stopping (naming_in stopping_way) stopping_plan (naming_in stopping_way)
met = record {
  source = (((tt, tt), tt), tt);
  acts = (((tt, tt), tt), tt);
  gives = gives;
  planned = planned;
  nests = λ number procedure is.
      alone (λ procedure. StmtsNest (λ entry exit. stands_in (procedures_by stopping_plan stopping) entry exit ≡ true) procedure.body)
      (λ procedure is. subst (λ (p : Procedure). StmtsNest (λ entry exit. stands_in (procedures_by stopping_plan stopping) entry exit ≡ true) p.body) (ap (or_it procedure) is) tt)
      number procedure is;
  structured = structured;
  result = (((tt, tt), tt), tt);
  result_planned = planned;
  many = refl;
  order = order;
  names = reads-alike stopping_way [] [] [];
  nothing = refl;
  skipped = refl;
  done = λ range act h. acts-so stopping_way (place_of (procedures_by stopping_plan stopping)) [] [] [] range act h;
  keeps = parts-keep stopping_way;
  chooses = λ number procedure is range.
      alone (λ procedure. StmtsChoose (PickerAgain (naming_in stopping_way) (place_of (procedures_by stopping_plan stopping)) procedure.range (naming_in stopping_way)
      (place_of (procedures_by stopping_plan (result_by stopping_plan stopping (naming_in stopping_way)))) range) procedure.body)
      (λ procedure is. subst (λ (p : Procedure). StmtsChoose (PickerAgain (naming_in stopping_way) (place_of (procedures_by stopping_plan stopping)) p.range (naming_in stopping_way)
      (place_of (procedures_by stopping_plan (result_by stopping_plan stopping (naming_in stopping_way)))) range) p.body) (ap (or_it procedure) is) tt)
      number procedure is;
}

pub comes-again : StoppingComesAgain
comes-again = (same, met)
