-- The parts of a proper program are taken, as it is written.
use Rattle.std.proofs.Common.{◌≡◌, ℕ, zero, suc, ◌<◌, ◌^◌, Bool, true, false, ◌||◌, not, if◌then◌else◌, List, [], ◌∷◌, length, map, Option, Some, None, is_some, is_none, refl, ap, sym, subst, arith, ltb-true, lt-ltb, le-leb}
use Rattle.std.specs.Prelude.{slice_get}
use Rattle.std.proofs.lemmas.Bool.{and_parts}
use Rattle.cob_store.specs.declared.area.Area.{Area}
use Rattle.cob_tree.specs.declared.choice.Test.{Test}
use Rattle.cob_tree.specs.declared.file.FileEntry.{FileEntry}
use Rattle.cob_tree.specs.declared.place.Place.{Place}
use Rattle.cob_tree.specs.declared.program.Program.{Program}
use Rattle.control_flow_theory.specs.language.All.{all}
use Rattle.control_flow_theory.specs.language.Language.{Range, By, none, also, Arms, done, given, missing}
use Rattle.control_flow_theory.specs.language.Language as language
use Rattle.control_flow_theory.specs.language.Control.{control_of}
use Rattle.control_flow_theory.specs.lowering.FlowFacts.{FlowFacts, IsSource}
use Rattle.control_flow_theory.specs.lowering.WellFormed.{AreJustReached}
use Rattle.control_flow_theory.specs.graph_rules.Walked.{In}
use Rattle.program_facts.specs.completion.FlowFacts.{flow_facts_of, status_missing}
use Rattle.cobol_theory.proofs.cobol_parts_lemmas.Sources.{source}
use Rattle.control_flow_theory.specs.rendering.Rendering.{Empty, Continues, Goes, Naming, count_arms, arm_stands, standing}
use Rattle.control_flow_theory.specs.rendering.Procedures.{Writable}
use Rattle.control_flow_theory.specs.main_theorem.Chain.{StartsEmpty, GraphsServed}
use Rattle.control_flow_theory.specs.main_theorem.MainTheorem.{graphs_by}
use Rattle.meanings.specs.statements.Does.{declared_in}
use Rattle.meanings.specs.statements.Filing.{Declared, status_by}
use Rattle.control_flow_theory.specs.expressible_graphs.Served.{ProgramIsServed}
use Rattle.control_flow_theory.specs.expressible_graphs.Laws.{CountersAreServed}
use Rattle.control_flow_theory.proofs.expressible_graphs_lemmas.Graphs.{served-graphs}
use Rattle.cobol_theory.specs.added_items.Own.{items}
use Rattle.cobol_theory.specs.added_items.Within.{whens_within}
use Rattle.cobol_theory.proofs.added_items_lemmas.Layouts.{inside-of}
use Rattle.program_facts.specs.well_scoped.Part.{Counts, file_named}
use Rattle.program_facts.specs.well_scoped.Beside.{test_named}
use Rattle.program_facts.specs.well_scoped.Named.{counts_of}
use Rattle.program_facts.proofs.well_scoped_lemmas.Made.{both}
use Rattle.cobol_theory.proofs.named_items_lemmas.Within as within
use Rattle.cobol_theory.proofs.named_items_lemmas.Own.{stmt-own, file-own}
use Rattle.program_facts.specs.whole_counts.Whole.{counts_whole}
use Rattle.cobol_theory.specs.cell_serving.Entries.{added_to}
use Rattle.cobol_theory.specs.cell_serving.Naming.{first_stands}
use Rattle.cobol_theory.specs.cobol_headline.Alike.{IsProper, Writing, naming_of, writable_of}
use Rattle.cobol_theory.specs.fit_programs.Fit.{IsFit}
use Rattle.cobol_theory.specs.served_programs.Laws.{KeepsAtEnd}
use Rattle.cobol_theory.proofs.served_programs_lemmas.Parts.{Takes}
use Rattle.cobol_theory.proofs.served_programs_lemmas.Walk.{paragraphs-served}
use Rattle.cobol_theory.proofs.served_programs_lemmas.Whole.{place-whole, amount-whole}

-- ---- the first arm of a READ

first-continues : (empty : ℕ → Empty) (arms : Arms) → empty 0 ≡ Continues → count_arms arms ≡ 2 → first_stands (standing empty 0 arms) ≡ true
first-continues empty done is two = absurd (omega (arith, two))
first-continues empty (given none others) is two = ap (λ e. arm_stands e true none) is
first-continues empty (given (also stmt stmts) others) is two = refl
first-continues empty (missing others) is two = ap (λ e. arm_stands e false none) is

first-goes : (empty : ℕ → Empty) (arms : Arms) → empty 0 ≡ Goes → StartsEmpty arms → first_stands (standing empty 0 arms) ≡ false
first-goes empty done is starts = refl
first-goes empty (given none others) is starts = ap (λ e. arm_stands e true none) is
first-goes empty (given (also stmt stmts) others) is starts = absurd starts
first-goes empty (missing others) is starts = ap (λ e. arm_stands e false none) is

-- without AT END: it goes, or the file has a status item
goes-or-status : (first : Bool) (file : Option FileEntry) → is_some file ≡ true → (status_missing file ≡ true → first ≡ false) → (not first || is_some (status_by file)) ≡ true
goes-or-status first None there h = absurd (cc)
goes-or-status first (Some file) there h = by_status file.status h
  where
    by_status : (status : Option Place) → (is_none status ≡ true → first ≡ false) → (not first || is_some status) ≡ true
    by_status None h = ap (λ b. not b || false) (h refl)
    by_status (Some status) h = either (not first)
      where
        either : (b : Bool) → (b || true) ≡ true
        either true = refl
        either false = refl

get-some : {X : Type 0} (xs : List X) (i : ℕ) → i < length xs → is_some (slice_get xs i) ≡ true
get-some [] i h = absurd (omega (arith, h))
get-some (x ∷ xs) zero h = refl
get-some (x ∷ xs) (suc i) h = get-some xs i (omega (arith, h))

-- ---- a program as it is written

module _ (program : Program) (writing : Writing) (range : Range) (proper : IsProper program) (fit : IsFit program) (keeps : KeepsAtEnd writing) where
  abbrev declared : Declared
  declared = declared_in program

  abbrev counts : Counts
  counts = counts_of program

  abbrev naming : Naming
  naming = naming_of program writing

  abbrev kinds : Writable
  kinds = writable_of program writing

  abbrev told : FlowFacts
  told = flow_facts_of program.files writing.returning

  same : counts.items ≡ items declared
  same = (inside-of program.entries proper.begins).0

  abbrev more : List Area
  more = (added_to program writing.cells).areas

  whens-own : (tests : List (List Test)) → all (map (λ each. all (map (test_named counts) each)) tests) ≡ true → whens_within (items declared) tests ≡ true
  whens-own [] e = refl
  whens-own (each ∷ tests) e =
      let h = and_parts (all (map (test_named counts) each)) (all (map (λ each. all (map (test_named counts) each)) tests)) e in
      both (within.tests-within counts (items declared) same each h.0) (whens-own tests h.1)

  read-suits : (file : ℕ) (into : Option Place) (has_end : Bool) (arms : Arms) → file_named counts file ≡ true → count_arms arms ≡ 2 → (told.never_first (language.Read file into has_end) ≡ true → StartsEmpty arms) →
      let first = first_stands (standing (writing.empty range (By (language.Read file into has_end))) 0 arms) in
      ((if has_end then first else not first) || is_some (status_by (slice_get program.files file))) ≡ true
  read-suits file into true arms f two starts =
      ap (λ b. b || is_some (status_by (slice_get program.files file))) (first-continues (writing.empty range (By (language.Read file into true))) arms (keeps range file into true) two)
  read-suits file into false arms f two starts =
      goes-or-status _ (slice_get program.files file) (get-some program.files file (ltb-true file (length program.files) f))
      (λ never. first-goes (writing.empty range (By (language.Read file into false))) arms (keeps range file into false) (starts never))

  takes : Takes naming kinds told range counts program.entries
  takes = record {
    simples = stmt-own declared counts same fit.records;
    conds = within.cond-within counts (items declared) same;
    amounts = λ amount e f. both (within.operand-within counts (items declared) same amount e) (amount-whole program.entries proper.begins fit.entries more counts amount e f);
    evaluates = λ subject tests has_other arms s t. both (both (within.subject-within counts (items declared) same subject s) (whens-own tests t)) refl;
    ariths = λ calc into arms c i. both (both (within.calc-within counts (items declared) same calc c) (within.targets-within counts (items declared) same into i)) refl;
    reads = λ file into has_end f i arms two starts.
        both (both (file-own declared counts same fit.records file f) (within.place-if-any counts (items declared) same into i)) (read-suits file into has_end arms f two starts);
    jumps = λ on names arms p w some few.
        both (within.place-within counts (items declared) same on p)
        (both (both (place-whole program.entries proper.begins fit.entries more on w) (le-leb 1 names some)) (lt-ltb names (10 ^ 18) few));
  }

  pub program-served : counts_whole program ≡ true → ProgramIsServed naming kinds told range (control_of program)
  program-served whole = paragraphs-served naming kinds told range counts program.entries takes 0 program.paragraphs fit.own.statements whole fit.few

-- ---- its lowered graphs

pub graphs-served : (program : Program) (writing : Writing) → IsProper program → counts_whole program ≡ true → IsFit program → KeepsAtEnd writing →
    writing.plan.told ≡ flow_facts_of program.files writing.returning →
    ((range : Range) → In range (language.Main ∷ writing.plan.others) → AreJustReached writing.plan.told (control_of program) range (writing.plan.keep range)) →
    CountersAreServed (writable_of program writing) (language.Main ∷ writing.plan.others) (graphs_by writing.plan (control_of program)) →
    GraphsServed (naming_of program writing) (writable_of program writing) (language.Main ∷ writing.plan.others) (graphs_by writing.plan (control_of program))
graphs-served program writing proper whole fit keeps told just counters =
    served-graphs (naming_of program writing) (writable_of program writing) writing.plan (control_of program)
    (subst (λ t. IsSource t (control_of program)) (sym told) (source (declared_in program) writing.returning program proper.own_items proper.own_paragraphs))
    just
    (λ range here. subst (λ t. ProgramIsServed (naming_of program writing) (writable_of program writing) t range (control_of program)) (sym told) (program-served program writing range proper fit keeps whole))
    counters
