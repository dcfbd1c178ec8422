-- The parts of a program, with items behind its own.
use Rattle.std.proofs.Common.{◌≡◌, ℕ, Bool, true, ◌&&◌, List, ◌++◌, length, map, refl, ap, sym, subst, ltb-true}
use Rattle.std.specs.Prelude.{Ok, Err, nat_lt}
use Rattle.std.proofs.lemmas.Bool.{and_parts}
use Rattle.cob_tree.specs.declared.stmt.Arms.{Arms}
use Rattle.cob_tree.specs.declared.stmt.When.{When, out-When}
use Rattle.cob_tree.specs.declared.stmt.Stmt.{Stmt, out-Stmt}
use Rattle.cob_tree.specs.declared.stmt.Stmt.TheOpen.{Stmt-F}
use Rattle.cob_store.specs.Answer.{Answer, and_then}
use Rattle.cob_store.specs.Store.{Roots}
use Rattle.cob_store.specs.Place.{reached}
use Rattle.file_model.specs.World.{World}
use Rattle.meanings.specs.statements.Outcome.{Outcome}
use Rattle.meanings.specs.statements.Side.{valued}
use Rattle.meanings.specs.statements.Choice.{if_chosen, evaluated}
use Rattle.meanings.specs.statements.Arithmetic.{calculated}
use Rattle.meanings.specs.statements.Display.{displayed}
use Rattle.meanings.specs.statements.Moving.{moved, set}
use Rattle.meanings.specs.statements.Filing as filing
use Rattle.meanings.specs.statements.Filing.{Declared, Effect, Ended, Went, Chose, Abended, no_effect, each_file, opened, shut}
use Rattle.meanings.specs.statements.Does.{shows, of_moves, of_sum, chooses, has_first, has_arms, calculates, memory_in, does}
use Rattle.control_flow_theory.specs.language.Language.{Chooser, Evaluate, Arith, Depending}
use Rattle.control_flow_theory.specs.language.Language as language
use Rattle.cobol_theory.specs.cobol_meaning.Acting.{Memory, acted, acted_by, chosen, chosen_by, answered, memory_after, events_of, name_in, arm_in, turns_in, chooses_in}
use Rattle.cobol_theory.specs.added_items.Within.{place_within, operand_within, operands_within, places_within, cond_within, calc_within, targets_within, subject_within, whens_within, if_any}
use Rattle.cobol_theory.specs.added_items.Own.{items, has_record, stmt_own, chooser_own}
use Rattle.cobol_theory.specs.added_items.Widened.{AddedItems, declared_beside, IsWhole, AreApart, widened_effect, with_tail, Keeps}
use Rattle.cobol_theory.specs.added_items.Laws.{DoTheSame}
use Rattle.cobol_theory.proofs.added_items_lemmas.Places as places
use Rattle.cobol_theory.proofs.added_items_lemmas.Sides as sides
use Rattle.cobol_theory.proofs.added_items_lemmas.Conditions as conditions
use Rattle.cobol_theory.proofs.added_items_lemmas.Outcomes as outcomes
use Rattle.cobol_theory.proofs.added_items_lemmas.Moves as moves
use Rattle.cobol_theory.proofs.added_items_lemmas.Files as files
use Rattle.cobol_theory.proofs.added_items_lemmas.Filing as told

module _ (declared : Declared) (added : AddedItems) (tail : Roots) (whole : IsWhole declared) (apart : AreApart added) where
  abbrev roots : ℕ
  roots = length declared.areas.roots

  abbrev beside : Declared
  beside = declared_beside added declared

  abbrev Widens : Effect → Effect → Type 0
  Widens = files.WidensEffect tail roots

  -- effects of parts that change the store alone

  shows-widens : (store : Roots) (world : World) (wide plain : Answer (List ℕ)) → length store ≡ roots → wide ≡ plain → Widens (shows (store ++ tail) world wide) (shows store world plain)
  shows-widens store world wide plain long same = subst (λ x. Widens (shows (store ++ tail) world x) (shows store world plain)) (sym same) (by_answer plain)
    where
      by_answer : (x : Answer (List ℕ)) → Widens (shows (store ++ tail) world x) (shows store world x)
      by_answer (Ok bytes) = record { same = refl; long = long }
      by_answer (Err abend) = record { same = refl; long = long }

  chooses-widens : (store : Roots) (wide plain : Answer ℕ) → length store ≡ roots → wide ≡ plain → Widens (chooses (store ++ tail) wide) (chooses store plain)
  chooses-widens store wide plain long same = subst (λ x. Widens (chooses (store ++ tail) x) (chooses store plain)) (sym same) (by_answer plain)
    where
      by_answer : (x : Answer ℕ) → Widens (chooses (store ++ tail) x) (chooses store x)
      by_answer (Ok arm) = record { same = refl; long = long }
      by_answer (Err abend) = record { same = refl; long = long }

  moves-widen : (wide plain : Outcome (Unit {0})) → outcomes.Widens tail roots wide plain → Widens (of_moves wide) (of_moves plain)
  moves-widen wide plain h = told.of_outcome-widens declared added tail whole apart wide plain Went h

  sum-widens : (guarded : Bool) (wide plain : Outcome Bool) → outcomes.Widens tail roots wide plain → Widens (calculates beside wide.store guarded wide) (calculates declared plain.store guarded plain)
  sum-widens guarded wide plain h = subst (λ x. Widens (of_sum guarded x.store x.answer) (of_sum guarded plain.store plain.answer)) (sym h.same) (by_answer plain.answer)
    where
      by_answer : (x : Answer Bool) → Widens (of_sum guarded (plain.store ++ tail) x) (of_sum guarded plain.store x)
      by_answer (Ok error) = record { same = refl; long = h.long }
      by_answer (Err abend) = record { same = refl; long = h.long }

  -- the store is the outcome's
  calculates-widens : (guarded : Bool) (wide plain : Outcome Bool) → outcomes.Widens tail roots wide plain → (store later : Roots) → Widens (calculates beside store guarded wide) (calculates declared later guarded plain)
  calculates-widens guarded wide plain h store later = sum-widens guarded wide plain h

  -- what is tried

  acted-keeps : (memory : Memory) (wide plain : Effect) → Widens wide plain → Keeps tail roots (acted (with_tail tail memory) wide) (acted memory plain)
  acted-keeps memory wide plain h = subst (λ x. Keeps tail roots (acted (with_tail tail memory) x) (acted memory plain)) (sym h.same) (by_end plain.end)
    where
      by_end : (end : Ended) → Keeps tail roots (acted_by end (events_of plain.operations) (memory_after (with_tail tail memory) (widened_effect tail plain))) (acted_by end (events_of plain.operations) (memory_after memory plain))
      by_end Went = record { same = refl; long = h.long }
      by_end (Chose arm) = record { same = refl; long = h.long }
      by_end (Abended abend) = record { same = refl; long = h.long }

  chosen-keeps : (memory : Memory) (wide plain : Effect) → Widens wide plain → Keeps tail roots (chosen (with_tail tail memory) wide) (chosen memory plain)
  chosen-keeps memory wide plain h = subst (λ x. Keeps tail roots (chosen (with_tail tail memory) x) (chosen memory plain)) (sym h.same) (by_end plain.end)
    where
      by_end : (end : Ended) → Keeps tail roots (chosen_by end (events_of plain.operations) (memory_after (with_tail tail memory) (widened_effect tail plain))) (chosen_by end (events_of plain.operations) (memory_after memory plain))
      by_end Went = record { same = refl; long = h.long }
      by_end (Chose arm) = record { same = refl; long = h.long }
      by_end (Abended abend) = record { same = refl; long = h.long }

  answered-keeps : {A : Type 0} (memory : Memory) (wide plain : Answer A) → length memory.store ≡ roots → wide ≡ plain → Keeps tail roots (answered (with_tail tail memory) wide) (answered memory plain)
  answered-keeps {A = A} memory wide plain long same = subst (λ x. Keeps tail roots (answered (with_tail tail memory) x) (answered memory plain)) (sym same) (by_answer plain)
    where
      by_answer : (x : Answer A) → Keeps tail roots (answered (with_tail tail memory) x) (answered memory x)
      by_answer (Ok a) = record { same = refl; long = long }
      by_answer (Err abend) = record { same = refl; long = long }

  module _ (memory : Memory) (long : length memory.store ≡ roots) where
    -- statements

    -- a statement by its form
    abbrev does_at : Declared → Roots → Stmt-F Stmt Arms When → Effect
    does_at declares store view =
        elim view [
          | Stmt-F.Display operands advance ↦ shows store memory.world (displayed (memory_in declares store) operands advance)
          | Stmt-F.Move from to ↦ of_moves (moved declares.areas.items from to store)
          | Stmt-F.Arith calc into arms ↦ calculates declares store (has_arms arms) (calculated declares.areas.items calc (has_arms arms) into store)
          | Stmt-F.SetTrue place ↦ of_moves (set declares.entries declares.areas.items place store)
          | Stmt-F.If cond met unmet ↦ chooses store (if_chosen declares.entries (memory_in declares store) cond)
          | Stmt-F.Evaluate subject whens other ↦ chooses store (evaluated declares.entries (memory_in declares store) subject (map (λ when. (out-When when).tests) whens))
          | Stmt-F.Opens openings ↦ each_file (opened declares) store memory.world openings
          | Stmt-F.Closes files ↦ each_file (shut declares) store memory.world files
          | Stmt-F.Read file place arms ↦ filing.read declares store memory.world file place (has_first arms) (has_arms arms)
          | Stmt-F.Write entry from ↦ filing.written declares store memory.world entry from
          | Stmt-F.Rewrite entry from ↦ filing.rewritten declares store memory.world entry from
          | _ ↦ no_effect store Went
        ]

    abbrev own_at : Stmt-F Stmt Arms When → Bool
    own_at view =
        elim view [
          | Stmt-F.Display operands advance ↦ operands_within (items declared) operands
          | Stmt-F.Move from to ↦ operand_within (items declared) from && places_within (items declared) to
          | Stmt-F.Arith calc into arms ↦ calc_within (items declared) calc && targets_within (items declared) into
          | Stmt-F.SetTrue place ↦ place_within (items declared) place
          | Stmt-F.If cond met unmet ↦ cond_within (items declared) cond
          | Stmt-F.Evaluate subject whens other ↦ subject_within (items declared) subject && whens_within (items declared) (map (λ when. (out-When when).tests) whens)
          | Stmt-F.Read file place arms ↦ has_record declared file && if_any (items declared) (place_within (items declared)) place
          | Stmt-F.Write entry from ↦ nat_lt entry (items declared) && if_any (items declared) (operand_within (items declared)) from
          | Stmt-F.Rewrite entry from ↦ nat_lt entry (items declared) && if_any (items declared) (operand_within (items declared)) from
          | _ ↦ true
        ]

    does-by-form : (view : Stmt-F Stmt Arms When) → own_at view ≡ true → Widens (does_at beside (memory.store ++ tail) view) (does_at declared memory.store view)
    does-by-form (Stmt-F.Display operands advance) e =
        shows-widens memory.store memory.world _ _ long (sides.displayed-same declared.areas.items added.areas memory.store tail (told.lies-inside declared added tail whole apart memory.store long) operands advance e)
    does-by-form (Stmt-F.Move from to) e =
        let h = and_parts (operand_within (items declared) from) (places_within (items declared) to) e in
        moves-widen _ _ (moves.moved-widens declared.areas.items added.areas tail roots from to memory.store long (told.lies-inside declared added tail whole apart memory.store long) h.0 h.1)
    does-by-form (Stmt-F.Arith calc into arms) e =
        let h = and_parts (calc_within (items declared) calc) (targets_within (items declared) into) e in
        calculates-widens (has_arms arms)
        (calculated (declared.areas.items ++ added.areas) calc (has_arms arms) into (memory.store ++ tail)) (calculated declared.areas.items calc (has_arms arms) into memory.store)
        (moves.calculated-widens declared.areas.items added.areas tail roots calc (has_arms arms) into memory.store long (told.lies-inside declared added tail whole apart memory.store long) h.0 h.1)
        (memory.store ++ tail) memory.store
    does-by-form (Stmt-F.SetTrue place) e =
        moves-widen _ _ (moves.set-widens declared.areas.items added.areas tail roots declared.entries added.entries whole.sized whole.values place memory.store long (told.lies-inside declared added tail whole apart memory.store long) e)
    does-by-form (Stmt-F.If cond met unmet) e =
        chooses-widens memory.store _ _ long (conditions.if_chosen-same declared.areas.items added.areas memory.store tail (told.lies-inside declared added tail whole apart memory.store long) declared.entries added.entries whole.sized whole.values cond e)
    does-by-form (Stmt-F.Evaluate subject whens other) e =
        let h = and_parts (subject_within (items declared) subject) (whens_within (items declared) (map (λ when. (out-When when).tests) whens)) e in
        chooses-widens memory.store _ _ long
        (conditions.evaluated-same declared.areas.items added.areas memory.store tail (told.lies-inside declared added tail whole apart memory.store long) declared.entries added.entries whole.sized whole.values subject (map (λ when. (out-When when).tests) whens) h.0 h.1)
    does-by-form (Stmt-F.Opens openings) e = files.each_file-widens tail roots (opened beside) (opened declared) memory.store memory.world openings long (told.opened-widens declared added tail whole apart)
    does-by-form (Stmt-F.Closes closed) e = files.each_file-widens tail roots (shut beside) (shut declared) memory.store memory.world closed long (told.shut-widens declared added tail whole apart)
    does-by-form (Stmt-F.Read file place arms) e =
        let h = and_parts (has_record declared file) (if_any (items declared) (place_within (items declared)) place) e in
        told.read-widens declared added tail whole apart memory.store long memory.world file (ltb-true _ (items declared) h.0) place h.1 (has_first arms) (has_arms arms)
    does-by-form (Stmt-F.Write entry from) e =
        let h = and_parts (nat_lt entry (items declared)) (if_any (items declared) (operand_within (items declared)) from) e in
        told.written-widens declared added tail whole apart memory.store long memory.world entry (ltb-true entry (items declared) h.0) from h.1
    does-by-form (Stmt-F.Rewrite entry from) e =
        let h = and_parts (nat_lt entry (items declared)) (if_any (items declared) (operand_within (items declared)) from) e in
        told.rewritten-widens declared added tail whole apart memory.store long memory.world entry (ltb-true entry (items declared) h.0) from h.1
    does-by-form _ e = record { same = refl; long = long }

    does-widens : (stmt : Stmt) → stmt_own declared stmt ≡ true → Widens (does beside stmt (memory.store ++ tail) memory.world) (does declared stmt memory.store memory.world)
    does-widens stmt = does-by-form (out-Stmt stmt)

    -- choosers and amounts

    chooses-keeps : (chooser : Chooser) → chooser_own declared chooser ≡ true →
        Keeps tail roots (chooses_in beside chooser (with_tail tail memory)) (chooses_in declared chooser memory)
    chooses-keeps (Evaluate subject tests has_other) e =
        let h = and_parts (subject_within (items declared) subject) (whens_within (items declared) tests) e in
        answered-keeps memory _ _ long
        (ap (λ x. and_then x arm_in) (conditions.evaluated-same declared.areas.items added.areas memory.store tail (told.lies-inside declared added tail whole apart memory.store long) declared.entries added.entries whole.sized whole.values subject tests h.0 h.1))
    chooses-keeps (language.Read file into has_end) e =
        let h = and_parts (has_record declared file) (if_any (items declared) (place_within (items declared)) into) e in
        chosen-keeps memory _ _ (told.read-widens declared added tail whole apart memory.store long memory.world file (ltb-true _ (items declared) h.0) into h.1 has_end true)
    chooses-keeps (Arith calc into) e =
        let h = and_parts (calc_within (items declared) calc) (targets_within (items declared) into) e in
        chosen-keeps memory _ _
        (calculates-widens true _ _ (moves.calculated-widens declared.areas.items added.areas tail roots calc true into memory.store long (told.lies-inside declared added tail whole apart memory.store long) h.0 h.1) (memory.store ++ tail) memory.store)
    chooses-keeps (Depending place names) e =
        answered-keeps memory _ _ long
        (ap (λ v. and_then v (λ value. and_then (valued value) (λ number. Ok (name_in names number))))
        (places.number-there declared.areas.items added.areas memory.store tail (told.lies-inside declared added tail whole apart memory.store long) (reached place)
        (places.place-same declared.areas.items added.areas memory.store tail (told.lies-inside declared added tail whole apart memory.store long) place e)))

    pub same : DoTheSame declared added tail memory
    same = record {
      act = λ stmt own. acted-keeps memory _ _ (does-widens stmt own);
      test = λ cond own. answered-keeps memory _ _ long
          (conditions.holds-same declared.areas.items added.areas memory.store tail (told.lies-inside declared added tail whole apart memory.store long) declared.entries added.entries whole.sized whole.values cond own);
      choose = chooses-keeps;
      count = λ amount own. answered-keeps memory _ _ long
          (ap (λ v. and_then v (λ value. and_then (valued value) (λ number. Ok (turns_in number))))
          (places.operand-same declared.areas.items added.areas memory.store tail (told.lies-inside declared added tail whole apart memory.store long) amount own));
    }
