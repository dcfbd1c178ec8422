-- The written parts serve.
use Rattle.std.proofs.Common.{◌≡◌, ℕ, Bool, List, length, refl, ap, sym, subst, ◌∙◌}
use Rattle.std.specs.Prelude.{Ok, []}
use Rattle.cob_tree.specs.declared.number.Number.{Number}
use Rattle.cob_store.specs.Answer.{and_then}
use Rattle.cob_store.specs.Place.{operand_value}
use Rattle.meanings.specs.statements.Does.{memory_in}
use Rattle.meanings.specs.statements.Filing.{Declared}
use Rattle.meanings.specs.statements.Side.{valued}
use Rattle.control_flow_theory.specs.semantics.Outcome.{Tried, Got, Ends}
use Rattle.control_flow_theory.specs.semantics.Doing.{Celled, own_is, keeping}
use Rattle.control_flow_theory.specs.language.Language.{Chooser, Range, Picker}
use Rattle.control_flow_theory.specs.rendering.Procedures.{Writable}
use Rattle.control_flow_theory.specs.rendering.Rendering.{Empty}
use Rattle.control_flow_theory.specs.rendering.Serving.{Serves, Alike, SameArm}
use Rattle.cobol_theory.specs.added_items.Laws.{DoTheSame}
use Rattle.cobol_theory.specs.added_items.Own.{items}
use Rattle.cobol_theory.specs.added_items.Widened.{AddedItems, declared_beside, IsWhole, AreApart, IsLong, with_tail}
use Rattle.cobol_theory.proofs.added_items_lemmas.Parts as parts
use Rattle.cobol_theory.specs.cobol_meaning.Acting.{Memory, acting, does_to, tests_in, chooses_in, counts_in, turns_in}
use Rattle.cobol_theory.specs.cobol_meaning.Runs.{files_left, first_memory}
use Rattle.cobol_theory.specs.cell_serving.Table.{CellTable, AreCells, Carries}
use Rattle.cobol_theory.specs.cell_serving.Naming.{cell_naming}
use Rattle.cobol_theory.specs.cell_serving.Laws.{SameChoice, AreOfKinds, AreLiterals, StartsCarried}
use Rattle.cobol_theory.proofs.cell_serving_lemmas.Words as words

module _ (declared : Declared) (table : CellTable) where
  -- a part that does the same beside the items leaves the cells
  kept-alike : {Value : Type 0} (Same : Value → Value → Type 0) → ((value : Value) → Same value value) →
      (memory : Celled Memory) (other : Memory) (carries : Carries declared table memory other) (plain wide : Tried Memory Value) →
      wide ≡ keeping (with_tail carries.tail) plain → IsLong (length declared.areas.roots) plain →
      Alike files_left files_left (Carries declared table) Same (keeping (own_is memory) plain) wide
  kept-alike Same reflexive memory other carries (Got trace value own) wide is long =
      subst (λ r. Alike files_left files_left (Carries declared table) Same (keeping (own_is memory) (Got trace value own)) r) (sym is)
      (refl, reflexive value, record { tail = carries.tail; own = refl; long = long; cells = carries.cells })
  kept-alike Same reflexive memory other carries (Ends trace kind own) wide is long =
      subst (λ r. Alike files_left files_left (Carries declared table) Same (keeping (own_is memory) (Ends trace kind own)) r) (sym is)
      (refl, refl, refl)

  -- and so does a choice that goes on as another
  alike-then : (arms : ℕ) (here : Tried (Celled Memory) ℕ) (middle there : Tried Memory ℕ) →
      Alike files_left files_left (Carries declared table) (◌≡◌ {A = ℕ}) here middle → SameChoice arms middle there →
      Alike files_left files_left (Carries declared table) (SameArm arms) here there
  alike-then arms (Got trace arm memory) (Got _ _ _) (Got _ later _) first second =
      (first.0 ∙ second.0, subst (λ a. SameArm arms a later) (sym first.1) second.1, subst (Carries declared table memory) second.2 first.2)
  alike-then arms (Got trace arm memory) (Got _ _ _) (Ends _ _ _) first second = absurd second
  alike-then arms (Got trace arm memory) (Ends _ _ _) there first second = absurd first
  alike-then arms (Ends trace kind memory) (Got _ _ _) there first second = absurd first
  alike-then arms (Ends trace kind memory) (Ends _ _ _) (Got _ _ _) first second = absurd second
  alike-then arms (Ends trace kind memory) (Ends _ _ _) (Ends _ _ _) first second =
      (first.0 ∙ second.0, first.1 ∙ second.1, first.2 ∙ ap files_left second.2)

module _ (declared : Declared) (added : AddedItems) (table : CellTable) (literal : ℕ → Number) (chooser : Chooser → List Bool → Chooser) (empty : Range → Picker → ℕ → Empty) (kinds : Writable)
    (whole : IsWhole declared) (apart : AreApart added) (are : AreCells declared added table) (worth : AreLiterals literal) (of : AreOfKinds declared added table chooser kinds) where
  abbrev beside : Declared
  beside = declared_beside added declared

  -- the program's own parts beside the items
  same : (memory : Celled Memory) (other : Memory) (carries : Carries declared table memory other) → DoTheSame declared added carries.tail memory.own
  same memory other carries = parts.same declared added carries.tail whole apart memory.own carries.long

  there : {Value : Type 0} (part : Memory → Tried Memory Value) (memory : Celled Memory) (other : Memory) (carries : Carries declared table memory other) (plain : Tried Memory Value) →
      part (with_tail carries.tail memory.own) ≡ keeping (with_tail carries.tail) plain → part other ≡ keeping (with_tail carries.tail) plain
  there part memory other carries plain is = ap part carries.own ∙ is

  pub serves : StartsCarried declared added table → Serves (acting declared) files_left (first_memory declared) (acting beside) files_left (first_memory beside) (Carries declared table) (cell_naming literal (items declared) table chooser empty) kinds
  serves starts = record {
    starts = starts;
    leaves = λ memory other carries. sym (ap files_left carries.own);
    nothing = λ memory other carries.
        subst (λ r. Alike {Value = Unit {0}} files_left files_left (Carries declared table) (λ a b. Unit {0}) (Got [] tt memory) r) (sym (words.does-nothing beside other)) (refl, tt, carries);
    simple = λ simple memory other is carries.
        let keeps = (same memory other carries).act simple (of.simples simple is) in
        kept-alike declared table (λ a b. Unit {0}) (λ v. tt) memory other carries (does_to declared simple memory.own) (does_to beside simple other)
        (there (does_to beside simple) memory other carries (does_to declared simple memory.own) keeps.same) keeps.long;
    cond = λ cond memory other is carries.
        let keeps = (same memory other carries).test cond (of.conds cond is) in
        kept-alike declared table (◌≡◌ {A = Bool}) (λ v. refl) memory other carries (tests_in declared cond memory.own) (tests_in beside cond other)
        (there (tests_in beside cond) memory other carries (tests_in declared cond memory.own) keeps.same) keeps.long;
    chooser = λ each arms memory other is carries.
        let kind = of.choosers each arms is in
        let keeps = (same memory other carries).choose each kind.0 in
        alike-then declared table (length arms) (keeping (own_is memory) (chooses_in declared each memory.own)) (chooses_in beside each other) (chooses_in beside (chooser each arms) other)
        (kept-alike declared table (◌≡◌ {A = ℕ}) (λ v. refl) memory other carries (chooses_in declared each memory.own) (chooses_in beside each other)
        (there (chooses_in beside each) memory other carries (chooses_in declared each memory.own) keeps.same) keeps.long)
        (kind.1 other);
    amount = λ amount memory other is carries.
        let keeps = (same memory other carries).count amount (of.amounts amount is).0 in
        kept-alike declared table (◌≡◌ {A = ℕ}) (λ v. refl) memory other carries (counts_in declared amount memory.own) (counts_in beside amount other)
        (there (counts_in beside amount) memory other carries (counts_in declared amount memory.own) keeps.same) keeps.long;
    set = λ range cell value memory other is carries.
        let kind = of.sets range cell value is in
        words.set-alike declared added table are literal worth memory other carries range cell kind.0 kind.1 kind.2 value kind.3;
    take = λ range cell amount memory other is amounts carries.
        let kind = of.counts range cell is in
        let keeps = (same memory other carries).count amount (of.amounts amount amounts).0 in
        words.take-alike declared added table are literal worth memory other carries range cell kind.0 kind.1 kind.2 kind.3 amount
        (and_then (operand_value amount (memory_in declared memory.own.store)) (λ value. and_then (valued value) (λ number. Ok (turns_in number))))
        (there (counts_in beside amount) memory other carries (counts_in declared amount memory.own) keeps.same)
        ((of.amounts amount amounts).1 other.store);
    lower = λ range cell memory other is carries.
        let kind = of.counts range cell is in
        words.lower-alike declared added table are literal worth memory other carries range cell kind.0 kind.1 kind.2 kind.3;
    is = λ range cell value memory other is carries.
        let kind = of.compares range cell value is in
        words.is-alike declared added table are literal worth memory other carries range cell kind.0 kind.1 value kind.2;
    above = λ range cell memory other is carries.
        words.above-alike declared added table are literal worth memory other carries range cell (of.aboves range cell is);
    by_cell = λ range cell arms arm memory other is held carries.
        let kind = of.chooses range cell (length arms) is in
        words.choose-alike declared added table are literal worth memory other carries range cell kind.0 kind.1 arms kind.2 kind.3 arm held;
  }
