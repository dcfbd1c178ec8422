-- What the words on cells do, by their items.
use Rattle.std.proofs.Common.{◌≡◌, ℕ, suc, ◌+◌, ◌-◌, ◌^◌, ◌<◌, ◌≤◌, Bool, true, false, ◌||◌, List, [], ◌∷◌, length, map, None, Some, refl, ap, sym, subst, ◌∙◌, arith, int_cmp, ◌⊎◌, inl, inr}
use Rattle.std.specs.Prelude.{Ok, Err, ℤ, pos, ◌==◌, slice_set, is_some, unsigned_abs}
use Rattle.std.specs.Ordering.{is_eq}
use Rattle.std.proofs.lemmas.Bool.{cases_lt}
use Rattle.cob_num.specs.declared.number.Dec.{Dec}
use Rattle.cob_tree.specs.declared.ending.Abend.{Abend}
use Rattle.cob_tree.specs.declared.number.Number.{Number}
use Rattle.cob_tree.specs.declared.calc.Calc.TheVariants as calcs
use Rattle.cob_tree.specs.declared.choice.Subject.TheVariants as subjects
use Rattle.cob_tree.specs.declared.cond.Rel.{Rel}
use Rattle.cob_tree.specs.declared.cond.Rel.TheVariants as rels
use Rattle.cob_tree.specs.declared.place.Operand.{Operand}
use Rattle.cob_tree.specs.declared.stmt.Arms.{out-roll-Arms}
use Rattle.cob_tree.specs.declared.stmt.Stmt.{out-Stmt, out-roll-Stmt}
use Rattle.cob_tree.specs.declared.stmt.Stmt.TheOpen.{Stmt-F}
use Rattle.cob_tree.specs.declared.stmt.Stmt.TheVariants as stmts
use Rattle.cob_tree.specs.declared.stmt.Stmt.TheVariants.{rolls-Move, rolls-Arith, rolls-Continue}
use Rattle.cob_store.specs.declared.area.Area.{Area}
use Rattle.cob_store.specs.Answer.{Answer, and_then}
use Rattle.cob_store.specs.Place.{memory_of, operand_value}
use Rattle.meanings.specs.statements.Arithmetic.{calculated}
use Rattle.meanings.specs.statements.Choice.{evaluated}
use Rattle.meanings.specs.statements.Condition.{rel_holds}
use Rattle.meanings.specs.statements.Does.{does, of_moves, has_arms, calculates, memory_in}
use Rattle.meanings.specs.statements.Filing.{Declared}
use Rattle.meanings.specs.statements.Moving.{moved}
use Rattle.meanings.specs.statements.Side.{valued}
use Rattle.control_flow_theory.specs.semantics.Outcome.{Tried, Got, Ends}
use Rattle.control_flow_theory.specs.semantics.Doing.{Celled, put, taken, keeping, is_above}
use Rattle.control_flow_theory.specs.language.Control.{bare}
use Rattle.control_flow_theory.specs.language.Language.{Range}
use Rattle.control_flow_theory.specs.rendering.Serving.{Alike, SameArm}
use Rattle.cobol_theory.specs.stored_numbers.Laws.{Fits}
use Rattle.cobol_theory.specs.cell_items.Cell.{cell_place, cell_operand, number_operand, operand_expr, IsCell, cell_bytes, Holds}
use Rattle.cobol_theory.specs.cell_items.Laws.{AreNumbered, cell_relation, target_of, number_tests, less_in}
use Rattle.cobol_theory.proofs.cell_items_lemmas.Moves.{moved-number}
use Rattle.cobol_theory.proofs.cell_items_lemmas.Takes.{moved-value, unmoved-value}
use Rattle.cobol_theory.proofs.cell_items_lemmas.Lowers.{lowered}
use Rattle.cobol_theory.proofs.cell_items_lemmas.Tests.{tested}
use Rattle.cobol_theory.proofs.cell_items_lemmas.Choices.{chosen-among, chosen-behind}
use Rattle.cobol_theory.specs.added_items.Widened.{AddedItems, declared_beside, with_tail}
use Rattle.cobol_theory.specs.cobol_meaning.Acting.{Memory, acted, answered, does_to, tests_in, counts_in, turns_in, arm_in, abend_number}
use Rattle.cobol_theory.specs.cobol_meaning.Runs.{files_left}
use Rattle.cobol_theory.specs.cell_serving.Table.{CellTable, AreCells, HoldsCell, Carries, left_of}
use Rattle.cobol_theory.specs.cell_serving.Naming.{move_to, subtract_from, numbers_from, whens_of}
use Rattle.cobol_theory.specs.cell_serving.Laws.{AreLiterals}
use Rattle.cobol_theory.proofs.cell_serving_lemmas.Changed as changes
use Rattle.cobol_theory.proofs.cell_serving_lemmas.Numbers.{unsigned-is, pos-fits, turns-left, same-value, above-zero, less-left, less-fits, long-as, are-numbered}

-- ---- statements

pub does-nothing : (declared : Declared) (memory : Memory) → does_to declared stmts.Continue memory ≡ Got [] tt memory
does-nothing declared memory = rw (ap out-Stmt (sym rolls-Continue) ∙ out-roll-Stmt Stmt-F.Continue, does) refl

does-move : (declared : Declared) (item : ℕ) (from : Operand) (memory : Memory) →
    does_to declared (move_to item from) memory ≡ acted memory (of_moves (moved declared.areas.items from (cell_place item ∷ []) memory.store))
does-move declared item from memory = rw (ap out-Stmt (sym (rolls-Move from (cell_place item ∷ []))) ∙ out-roll-Stmt (Stmt-F.Move from (cell_place item ∷ [])), does) refl

has-none : has_arms bare ≡ false
has-none = ap (λ arms. is_some arms.first || is_some arms.second) (out-roll-Arms (record { first = None; second = None }))

does-subtract : (declared : Declared) (item : ℕ) (number : Number) (memory : Memory) →
    does_to declared (subtract_from item number) memory
    ≡ acted memory (calculates declared memory.store false (calculated declared.areas.items (calcs.Subtract (number_operand number ∷ [])) false (target_of item ∷ []) memory.store))
does-subtract declared item number memory =
    let calc = calcs.Subtract (number_operand number ∷ []) in
    let into = target_of item ∷ [] in
    rw (ap out-Stmt (sym (rolls-Arith calc into bare)) ∙ out-roll-Stmt (Stmt-F.Arith calc into bare), does)
    (ap (λ b. acted memory (calculates declared memory.store b (calculated declared.areas.items calc b into memory.store))) has-none)

not-both : (turns kind : ℕ) (here there : Memory) → ◌≡◌ {A = Tried Memory ℕ} (Got [] turns here) (Ends [] kind there) → ⊥
not-both turns kind here there is = cc

module _ (declared : Declared) (added : AddedItems) (table : CellTable) (are : AreCells declared added table) (literal : ℕ → Number) (worth : AreLiterals literal) (memory : Celled Memory) (other : Memory) (carries : Carries declared table memory other) where
  abbrev beside : Declared
  beside = declared_beside added declared

  abbrev areas : List Area
  areas = beside.areas.items

  abbrev first : ℕ
  first = length declared.areas.items

  abbrev Acts : Tried (Celled Memory) (Unit {0}) → Tried Memory (Unit {0}) → Type 0
  Acts = Alike {Value = Unit {0}} files_left files_left (Carries declared table) (λ a b. Unit {0})

  module _ (range : Range) (cell : ℕ) (stands : table.stands range cell ≡ true) where
    abbrev item : ℕ
    item = first + table.item range cell

    abbrev root : ℕ
    root = changes.root_of declared added table are range cell

    abbrev digits : ℕ
    digits = table.digits range cell

    abbrev signed : Bool
    signed = table.signed range cell

    abbrev now : HoldsCell digits (table.most range cell) signed (memory.cells range cell) carries.tail (table.item range cell)
    now = carries.cells range cell stands

    is-cell : IsCell areas item root digits signed
    is-cell = are.held range cell stands

    holding : Holds other.store root digits signed now.number
    holding = changes.holding declared added table are memory other carries range cell stands

    -- the item is given a number that stands for a value
    after : (number : ℤ) → Memory
    after number = record other { store = slice_set other.store root (cell_bytes digits signed number) }

    carried : table.changes range cell ≡ true → (value : ℕ) (number : ℤ) → Fits signed digits number → left_of number ≡ value → signed ≡ true ⊎ value ≤ table.most range cell →
        Carries declared table (put range cell value memory) (after number)
    unfolding after
    carried changed value number fits is within = changes.changed declared added table are memory other carries range cell stands changed value number fits is within

    -- ---- MOVE of a value

    pub set-alike : table.changes range cell ≡ true → signed ≡ false → (value : ℕ) → value ≤ table.most range cell →
        Acts (Got [] tt (put range cell value memory)) (does_to beside (move_to item (number_operand (literal value))) other)
    unfolding after
    set-alike changed plain value small =
        let room = are.room range cell stands in
        let fits = pos-fits signed digits value (omega (arith, room, small)) in
        let lit = worth digits value is-cell.few (omega (arith, room, small)) in
        subst (λ r. Acts (Got [] tt (put range cell value memory)) r)
        (sym (does-move beside item (number_operand (literal value)) other
        ∙ ap (λ outcome. acted other (of_moves outcome)) (moved-number areas item root digits signed is-cell other.store now.number holding (literal value) lit.worth lit.is)
        ∙ ap (λ z. Got [] tt (after z)) lit.value))
        (refl, tt, carried changed value (pos value) fits refl (inr small))

    -- ---- comparisons

    abbrev Tests : Tried (Celled Memory) Bool → Tried Memory Bool → Type 0
    Tests = Alike files_left files_left (Carries declared table) (◌≡◌ {A = Bool})

    compared : (rel : Rel) (value : ℕ) → value < 10 ^ digits → tests_in beside (cell_relation item rel (literal value)) other ≡ Got [] (rel_holds rel (int_cmp now.number (pos value))) other
    compared rel value small =
        let lit = worth digits value is-cell.few small in
        ap (answered other) (tested areas item root digits signed is-cell other.store now.number now.fits holding (literal value) lit.worth lit.is rel beside.entries)
        ∙ ap (λ z. Got [] (rel_holds rel (int_cmp now.number z)) other) lit.value

    pub is-alike : signed ≡ false → (value : ℕ) → value ≤ table.most range cell →
        Tests (Got [] (memory.cells range cell == value) memory) (tests_in beside (cell_relation item rels.Equal (literal value)) other)
    is-alike plain value small =
        let room = are.room range cell stands in
        let is = unsigned-is digits now.number (memory.cells range cell) (subst (λ s. Fits s digits now.number) plain now.fits) now.stands in
        subst (λ r. Tests (Got [] (memory.cells range cell == value) memory) r)
        (sym (compared rels.Equal value (omega (arith, room, small))))
        (refl, sym (ap (λ z. is_eq (int_cmp z (pos value))) is ∙ same-value (memory.cells range cell) value), carries)

    pub above-alike : Tests (Got [] (is_above (memory.cells range cell)) memory) (tests_in beside (cell_relation item rels.Greater (literal 0)) other)
    above-alike =
        let room = are.room range cell stands in
        subst (λ r. Tests (Got [] (is_above (memory.cells range cell)) memory) r)
        (sym (compared rels.Greater 0 (omega (arith, room))))
        (refl, sym (above-zero now.number (memory.cells range cell) now.stands), carries)

    -- ---- what is left of a TIMES

    module _ (changed : table.changes range cell ≡ true) (plus : signed ≡ true) (long : digits ≡ 18) where
      plus-cell : IsCell areas item root digits true
      plus-cell = subst (IsCell areas item root digits) plus is-cell

      plus-holding : Holds other.store root digits true now.number
      plus-holding = subst (λ s. Holds other.store root digits s now.number) plus holding

      plus-fits : Fits true digits now.number
      plus-fits = subst (λ s. Fits s digits now.number) plus now.fits

      abbrev with_number : ℤ → Memory
      with_number number = record other { store = slice_set other.store root (cell_bytes digits true number) }

      carried-plus : (value : ℕ) (number : ℤ) → Fits true digits number → left_of number ≡ value → Carries declared table (put range cell value memory) (with_number number)
      unfolding after
      carried-plus value number fits is =
          subst (λ s. Carries declared table (put range cell value memory) (record other { store = slice_set other.store root (cell_bytes digits s number) })) plus
          (carried changed value number (subst (λ s. Fits s digits number) (sym plus) fits) is (inl plus))

      some-room : 1 < 10 ^ digits
      some-room = subst (λ d. 1 < 10 ^ d) (sym long) (omega arith)

      abbrev less : ℤ
      less = less_in digits now.number (pos 1)

      pub lower-alike : Acts (Got [] tt (put range cell (memory.cells range cell - 1) memory)) (does_to beside (subtract_from item (literal 1)) other)
      lower-alike =
          let lit = worth digits 1 is-cell.few some-room in
          subst (λ r. Acts (Got [] tt (put range cell (memory.cells range cell - 1) memory)) r)
          (sym (does-subtract beside item (literal 1) other
          ∙ ap (λ outcome. acted other (calculates beside other.store false outcome)) (lowered areas item root digits plus-cell other.store now.number plus-fits plus-holding (literal 1) lit.worth lit.is)
          ∙ ap (λ z. Got [] tt (with_number (less_in digits now.number z))) lit.value)) (
            refl,
            tt,
            carried-plus (memory.cells range cell - 1) less (less-fits digits now.number (omega (arith, some-room)))
                (less-left digits now.number plus-fits ∙ ap (λ n. n - 1) now.stands),
          )

      -- ---- MOVE of the operand of TIMES

      took : (operand : Operand) (worth : Dec) → operand_value operand (memory_of areas other.store) ≡ Ok (Some worth) → worth.scale ≡ 0 → unsigned_abs worth.value < 10 ^ 18 →
          does_to beside (move_to item operand) other ≡ Got [] tt (with_number worth.value)
      took operand worth is whole fits =
          does-move beside item operand other
          ∙ ap (λ outcome. acted other (of_moves outcome)) (moved-value areas item root digits true plus-cell other.store operand worth now.number plus-holding is whole (subst (λ d. unsigned_abs worth.value < 10 ^ d) (sym long) fits))

      ended : (operand : Operand) (abend : Abend) → operand_value operand (memory_of areas other.store) ≡ Err abend →
          does_to beside (move_to item operand) other ≡ Ends [] (abend_number abend) other
      ended operand abend is =
          does-move beside item operand other
          ∙ ap (λ outcome. acted other (of_moves outcome)) (unmoved-value areas item root digits true plus-cell other.store operand abend is)

      -- what TIMES reads of it there, and here
      counts-worth : (operand : Operand) (worth : Dec) → operand_value operand (memory_of areas other.store) ≡ Ok (Some worth) → counts_in beside operand other ≡ Got [] (turns_in worth) other
      counts-worth operand worth is = ap (λ value. answered other (and_then value (λ value. and_then (valued value) (λ number. Ok (turns_in number))))) is

      counts-ended : (operand : Operand) (abend : Abend) → operand_value operand (memory_of areas other.store) ≡ Err abend → counts_in beside operand other ≡ Ends [] (abend_number abend) other
      counts-ended operand abend is = ap (λ value. answered other (and_then value (λ value. and_then (valued value) (λ number. Ok (turns_in number))))) is

      abbrev Read : Answer ℕ → Tried Memory ℕ → Type 0
      Read answer there = there ≡ keeping (with_tail carries.tail) (answered memory.own answer)

      pub take-alike : (operand : Operand) (answer : Answer ℕ) → Read answer (counts_in beside operand other) →
          ((abend : Abend) × (operand_value operand (memory_of areas other.store) ≡ Err abend))
          ⊎ ((worth : Dec) × (operand_value operand (memory_of areas other.store) ≡ Ok (Some worth)) × (worth.scale ≡ 0) × (unsigned_abs worth.value < 10 ^ 18)) →
          Acts (taken range cell memory (answered memory.own answer)) (does_to beside (move_to item operand) other)
      take-alike operand (Ok turns) same (inl bad) = absurd (not-both turns (abend_number bad.0) (with_tail carries.tail memory.own) other (sym same ∙ counts-ended operand bad.0 bad.1))
      take-alike operand (Err abend) same (inr good) = absurd (not-both (turns_in good.0) (abend_number abend) other (with_tail carries.tail memory.own) (sym (counts-worth operand good.0 good.1) ∙ same))
      take-alike operand (Err abend) same (inl bad) =
          subst (λ r. Acts (Ends [] (abend_number abend) memory) r) (sym (ended operand bad.0 bad.1))
          (refl, kinds (sym same ∙ counts-ended operand bad.0 bad.1), ap files_left (sym carries.own))
        where
          kinds : ◌≡◌ {A = Tried Memory ℕ} (Ends [] (abend_number abend) (with_tail carries.tail memory.own)) (Ends [] (abend_number bad.0) other) → abend_number abend ≡ abend_number bad.0
          kinds e = cc
      take-alike operand (Ok turns) same (inr good) =
          subst (λ r. Acts (Got [] tt (put range cell turns memory)) r) (sym (took operand good.0 good.1 good.2 good.3))
          (refl, tt, carried-plus turns good.0.value (subst (λ d. unsigned_abs good.0.value < 10 ^ d) (sym long) good.3) (sym (turns-left good.0.value) ∙ values (sym same ∙ counts-worth operand good.0 good.1)))
        where
          values : ◌≡◌ {A = Tried Memory ℕ} (Got [] turns (with_tail carries.tail memory.own)) (Got [] (turns_in good.0) other) → turns_in good.0 ≡ turns
          values e = cc

    -- ---- EVALUATE

    abbrev Chooses : (arms : ℕ) → Tried (Celled Memory) ℕ → Tried Memory ℕ → Type 0
    Chooses arms = Alike files_left files_left (Carries declared table) (SameArm arms)

    module _ (plain : signed ≡ false) (arms : List Bool) (enough : table.most range cell ≤ length arms) (few : length arms < 10 ^ digits) (arm : ℕ) (held : memory.cells range cell ≡ suc arm) where
      other-last : Bool
      other-last = table.ends_in_other range cell

      abbrev whens : ℕ
      whens = whens_of (table.ends_in_other range cell) arms

      abbrev numbers : List Number
      numbers = numbers_from literal 1 whens

      at-most : (last : Bool) (arms : List Bool) → whens_of last arms ≤ length arms
      at-most false arms = omega arith
      at-most true [] = omega arith
      at-most true (each ∷ arms) = omega arith

      -- but for the last, each arm has a WHEN
      near : (last : Bool) (arms : List Bool) → length arms ≤ suc (whens_of last arms)
      near false arms = omega arith
      near true [] = omega arith
      near true (each ∷ arms) = omega arith

      number-is : now.number ≡ pos (suc arm)
      number-is = unsigned-is digits now.number (memory.cells range cell) (subst (λ s. Fits s digits now.number) plain now.fits) now.stands ∙ ap pos held

      bounded : suc arm ≤ length arms
      bounded = elim now.within [
        | inl plus ↦ cc
        | inr small ↦ omega (arith, small, held, enough)
      ]

      fits-held : Fits signed digits (pos (suc arm))
      fits-held = subst (Fits signed digits) number-is now.fits

      holds-held : Holds other.store root digits signed (pos (suc arm))
      holds-held = subst (Holds other.store root digits signed) number-is holding

      are-so : AreNumbered digits 1 numbers
      are-so = let most = at-most (table.ends_in_other range cell) arms in are-numbered literal worth digits 1 whens is-cell.few (omega (arith, most, few))

      long : length numbers ≡ whens
      long = long-as literal 1 whens

      abbrev pub chosen : Answer ℕ
      chosen = evaluated beside.entries (memory_in beside other.store) (subjects.Value (operand_expr (cell_operand item))) (map number_tests numbers)

      arm-is : chosen ≡ Ok (suc arm)
      arm-is = elim (within-or whens) [
        | inl among ↦ chosen-among areas item root digits signed is-cell other.store (suc arm) fits-held holds-held beside.entries numbers are-so (omega arith) (omega (arith, among, long))
        | inr behind ↦ chosen-behind areas item root digits signed is-cell other.store (suc arm) fits-held holds-held beside.entries numbers are-so (omega (arith, behind, long))
            ∙ ap Ok (let close = near (table.ends_in_other range cell) arms in omega (arith, behind, close, bounded, long))
      ]
        where
          within-or : (w : ℕ) → (suc arm ≤ w) ⊎ (w < suc arm)
          within-or w = elim (cases_lt w (suc arm)) [ inl less ↦ inr less | inr more ↦ inl more ]

      pub choose-alike : Chooses (length arms) (Got [] arm memory) (answered other (and_then chosen arm_in))
      choose-alike =
          subst (λ answer. Chooses (length arms) (Got [] arm memory) (answered other (and_then answer arm_in))) (sym arm-is)
          (refl, inl one-back, carries)
        where
          one-back : arm ≡ suc arm - 1
          one-back = omega arith
