-- READ chooses an arm in control, also where it has none.
use Rattle.std.proofs.Common.{◌≡◌, ℕ, zero, suc, ◌-◌, Bool, true, false, ◌&&◌, ◌||◌, ◌==◌, List, [], ◌∷◌, ◌++◌, length, take, Option, Some, None, is_some, Result, Ok, Err, refl, ap, sym, ◌∙◌, subst, append-nil, ◌⊎◌, inl, inr}
use Rattle.std.specs.Prelude.{IfErr, IfOk, if◌then◌else◌}
use Rattle.cob_act.specs.declared.acting.ActOutcome.{ActOutcome}
use Rattle.cob_act.specs.declared.acting.ActOutcome.TheVariants as done
use Rattle.cob_store.specs.Answer.{Answer}
use Rattle.cob_store.specs.Store.{Roots}
use Rattle.cob_tree.specs.declared.ending.Abend.{Abend}
use Rattle.cob_tree.specs.declared.file.FileEntry.{FileEntry}
use Rattle.cob_tree.specs.declared.place.Place.{Place}
use Rattle.cob_tree.specs.declared.stmt.Arms.{Arms, out-Arms}
use Rattle.cob_tree.specs.declared.stmt.Stmt.{Stmt}
use Rattle.cob_tree.specs.declared.stmt.Stmt.TheVariants as stmts
use Rattle.file_model.specs.declared.table.FileRow.{FileRow}
use Rattle.file_model.specs.Attempts.{Attempt, read_at}
use Rattle.file_model.specs.World.{World}
use Rattle.file_model.specs.World as verbs
use Rattle.file_model.specs.operations.Seen.{Seen}
use Rattle.file_model.specs.declared.operations.fault.FileFault.{FileFault}
use Rattle.cob_act.specs.files.Ends.{ended_as}
use Rattle.file_model.specs.declared.operations.fault.FileFault.TheVariants as faults
use Rattle.cob_act.specs.declared.files.work.FileWork.{FileWork}
use Rattle.cob_act.specs.files.Over.{BreaksIn, BrokeIn, Did, IsOver, world_behind}
use Rattle.cob_act.specs.files.Work.{Keeps}
use Rattle.cob_act.proofs.files_lemmas.DeskLemmas.{over_left}
use Rattle.meanings.specs.statements.Does.{has_arms}
use Rattle.meanings.specs.statements.Filing.{Abended, Chose, Declared, Effect, Ended, Operation, Went, address_at, after, into_by, last_world, no_effect, of_outcome, operated_to, read, record_put, record_spot, then_by}
use Rattle.control_flow_theory.specs.semantics.Items.{Way, item_way, tried}
use Rattle.control_flow_theory.specs.semantics.Items as ways
use Rattle.control_flow_theory.specs.semantics.Outcome.{Trace}
use Rattle.control_flow_theory.specs.language.Control.{both_arms, Both, seen}
use Rattle.control_flow_theory.specs.language.Items.{Item, before_arm}
use Rattle.control_flow_theory.specs.language.Items as items
use Rattle.control_flow_theory.specs.language.Language as language
use Rattle.control_flow_theory.proofs.language_lemmas.Rows.{seen_both_is, seen_if_any, seen_read}
use Rattle.cobol_theory.specs.cobol_meaning.Acting.{Memory, chosen, chosen_by, events_of}
use Rattle.cobol_theory.specs.cobol_meaning.Runs.{doing_in}
use Rattle.cobol_run.specs.declared.frame.Frame.{Frame}
use Rattle.cobol_run.specs.Frames.{rest_of}
use Rattle.cobol_run.specs.Over.{FiledBreaks, FiledOver, armed_rest, filed_way}
use Rattle.cobol_run.specs.Plan.{memory_in}
use Rattle.cobol_run.specs.Points.{stmt_operations}
use Rattle.cobol_run.specs.Running.{displayed}
use Rattle.cobol_run.specs.NextStep.{on}
use Rattle.cobol_run.proofs.DisplayLemmas.{front_silent, read_silent}
use Rattle.cobol_run.proofs.StatementLemmas.{either-arm, second-arm}

-- it chose one of two arms, or ended the run
abbrev IsPick : Ended → Type 0
IsPick Went = ⊥
IsPick (Chose arm) = (arm ≡ 1) ⊎ (arm ≡ 2)
IsPick (Abended abend) = Unit {0}

-- the first without arms, the second with them
abbrev Alike : Ended → Ended → Type 0
Alike Went (Chose arm) = Unit {0}
Alike Went Went = ⊥
Alike Went (Abended abend) = ⊥
Alike (Chose arm) armed = ⊥
Alike (Abended abend) Went = ⊥
Alike (Abended abend) (Chose arm) = ⊥
Alike (Abended abend) (Abended other) = abend ≡ other

record IsAlike (bare armed : Effect) : Type 0 where
  pub operations : bare.operations ≡ armed.operations
  pub store : bare.store ≡ armed.store
  pub ends : Alike bare.end armed.end

outcome-alike : (operations : List Operation) (store : Roots) (answer : Answer (Unit {0})) → IsAlike (after operations (of_outcome store answer Went)) (after operations (of_outcome store answer (Chose 2)))
outcome-alike operations store (Ok u) = record { operations = refl; store = refl; ends = tt }
outcome-alike operations store (Err abend) = record { operations = refl; store = refl; ends = refl }

outcome-picks : (operations : List Operation) (store : Roots) (answer : Answer (Unit {0})) → IsPick (after operations (of_outcome store answer (Chose 2))).end
outcome-picks operations store (Ok u) = inr refl
outcome-picks operations store (Err abend) = tt

module _ (declared : Declared) (file : ℕ) (place : Option Place) where
  -- what follows the status, by whether a record came and how the operation ended
  abbrev ended : Bool → Bool → World → Effect → Ended → Effect
  ended arms came world effect end =
      if came
      then then_by world effect end (λ store now. of_outcome (into_by declared file store place).store (into_by declared file store place).answer (if arms then Chose 2 else Went))
      else then_by world effect end (λ store now. no_effect store (if arms then Chose 1 else Went))

  end-alike : (came : Bool) (world : World) (effect : Effect) (end : Ended) → effect.end ≡ end → IsAlike (ended false came world effect end) (ended true came world effect end)
  end-alike true world effect (Abended abend) is = record { operations = refl; store = refl; ends = subst (λ e. Alike e e) (sym is) refl }
  end-alike true world effect Went is = outcome-alike effect.operations (into_by declared file effect.store place).store (into_by declared file effect.store place).answer
  end-alike true world effect (Chose arm) is = outcome-alike effect.operations (into_by declared file effect.store place).store (into_by declared file effect.store place).answer
  end-alike false world effect (Abended abend) is = record { operations = refl; store = refl; ends = subst (λ e. Alike e e) (sym is) refl }
  end-alike false world effect Went is = record { operations = refl; store = refl; ends = tt }
  end-alike false world effect (Chose arm) is = record { operations = refl; store = refl; ends = tt }

  end-picks : (came : Bool) (world : World) (effect : Effect) (end : Ended) → effect.end ≡ end → IsPick (ended true came world effect end).end
  end-picks true world effect (Abended abend) is = subst IsPick (sym is) tt
  end-picks true world effect Went is = outcome-picks effect.operations (into_by declared file effect.store place).store (into_by declared file effect.store place).answer
  end-picks true world effect (Chose arm) is = outcome-picks effect.operations (into_by declared file effect.store place).store (into_by declared file effect.store place).answer
  end-picks false world effect (Abended abend) is = subst IsPick (sym is) tt
  end-picks false world effect Went is = inl refl
  end-picks false world effect (Chose arm) is = inl refl

  -- the operation
  abbrev attempt-in : World → Attempt
  attempt-in world = read_at world file (address_at declared file) (record_spot declared file).length

  abbrev operation : Roots → World → Bool → Effect
  operation store world at_end =
      operated_to declared verbs.Read file (at_end && (attempt-in world).status == 10) store (record_put declared file store (attempt-in world)) (attempt-in world)

  read-alike : (store : Roots) (world : World) (at_end : Bool) → IsAlike (read declared store world file place at_end false) (read declared store world file place at_end true)
  read-alike store world at_end = end-alike ((attempt-in world).status == 0) (attempt-in world).world (operation store world at_end) (operation store world at_end).end refl

  read-picks : (store : Roots) (world : World) (at_end : Bool) → IsPick (read declared store world file place at_end true).end
  read-picks store world at_end = end-picks ((attempt-in world).status == 0) (attempt-in world).world (operation store world at_end) (operation store world at_end).end refl

-- ---- the arm that is taken

abbrev arms_seen : ℕ → Arms → Both
arms_seen last arms = record { first = seen_if_any last (out-Arms arms).first; second = seen_if_any last (out-Arms arms).second }

module _ (last : ℕ) (arms : Arms) (events : Trace) (memory : Memory) (rest : List Item) where
  -- the rest by the end of the choice
  abbrev goes : Ended → Way Memory
  goes end = tried (chosen_by end events memory) (λ k. on (before_arm (both_arms (arms_seen last arms)) k rest))

  abbrev went : ActOutcome → Way Memory
  went made = filed_way made events memory (armed_rest last made arms rest)

  on-with : (first second : List Item) → first ≡ second → ◌≡◌ {A = Way Memory} (ways.On events memory first) (ways.On (events ++ []) memory second)
  on-with first second same = ap (λ trace. ways.On trace memory first) (sym (append-nil events)) ∙ ap (ways.On (events ++ []) memory) same

  first-taken : armed_rest last (done.Chose 1) arms rest ≡ before_arm (both_arms (arms_seen last arms)) 0 rest
  first-taken = sym (either-arm last (out-Arms arms).first _ rest)

  second-taken : armed_rest last (done.Chose 2) arms rest ≡ before_arm (both_arms (arms_seen last arms)) 1 rest
  second-taken = sym (second-arm last (out-Arms arms).first _ rest ∙ either-arm last (out-Arms arms).second language.done rest)

  arm-taken : (arm : ℕ) → IsPick (Chose arm) → went (done.Chose arm) ≡ goes (Chose arm)
  arm-taken arm (inl one) = subst (λ n. went (done.Chose n) ≡ goes (Chose n)) (sym one) (on-with _ _ first-taken)
  arm-taken arm (inr two) = subst (λ n. went (done.Chose n) ≡ goes (Chose n)) (sym two) (on-with _ _ second-taken)

  picked-way : (made : ActOutcome) (end : Ended) → ended_as made ≡ end → IsPick end → went made ≡ goes end
  picked-way done.Went end is pick = absurd (subst IsPick (sym is) pick)
  picked-way done.Shown end is pick = absurd (subst IsPick (sym is) pick)
  picked-way (done.Chose arm) end is pick = arm-taken arm (subst IsPick (sym is) pick) ∙ ap goes is
  picked-way (done.Abended abend) end is pick = ap goes is

  none-there : (first second : Option (List Stmt)) (k : ℕ) → (is_some first || is_some second) ≡ false → before_arm (both_arms (record { first = seen_if_any last first; second = seen_if_any last second })) k rest ≡ rest
  none-there None None zero none = refl
  none-there None None (suc zero) none = refl
  none-there None None (suc (suc k)) none = refl
  none-there None (Some stmts) k none = cc
  none-there (Some stmts) second k none = cc

  bare-went : (armed : Ended) → has_arms arms ≡ false → Alike Went armed → ◌≡◌ {A = Way Memory} (ways.On events memory rest) (goes armed)
  bare-went (Chose arm) none alike = on-with rest _ (sym (none-there (out-Arms arms).first (out-Arms arms).second (arm - 1) none))
  bare-went Went none alike = absurd alike
  bare-went (Abended abend) none alike = absurd alike

  bare-abended : (abend : Abend) (armed : Ended) → Alike (Abended abend) armed → went (done.Abended abend) ≡ goes armed
  bare-abended abend Went alike = absurd alike
  bare-abended abend (Chose arm) alike = absurd alike
  bare-abended abend (Abended other) alike = ap (λ a. went (done.Abended a)) alike

  bare-way : (made : ActOutcome) (end armed : Ended) → has_arms arms ≡ false → ended_as made ≡ end → Alike end armed → went made ≡ goes armed
  bare-way done.Went end armed none is alike = bare-went armed none (subst (λ e. Alike e armed) (sym is) alike)
  bare-way done.Shown end armed none is alike = bare-went armed none (subst (λ e. Alike e armed) (sym is) alike)
  bare-way (done.Chose arm) end armed none is alike = absurd (subst (λ e. Alike e armed) (sym is) alike)
  bare-way (done.Abended abend) end armed none is alike = bare-abended abend armed (subst (λ e. Alike e armed) (sym is) alike)

-- ---- READ

is-there : (last : ℕ) (first : Option (List Stmt)) → is_some (seen_if_any last first) ≡ is_some first
is-there last None = refl
is-there last (Some stmts) = refl

module _ (declared : Declared) (file : ℕ) (place : Option Place) (arms : Arms) (store : Roots) (world : World) where
  abbrev armed : Effect
  armed = read declared store world file place (is_some (out-Arms arms).first) true

  read-meant : (last : ℕ) (rest : List Item) →
      tried (chosen (memory_in store world) armed) (λ k. on (before_arm (both_arms (arms_seen last arms)) k rest))
      ≡ item_way (doing_in declared) (items.Do (seen last (stmts.Read file place arms))) rest (memory_in store world)
  read-meant last rest =
      ap (λ at_end. tried (chosen (memory_in store world) (read declared store world file place at_end true)) (λ k. on (before_arm (both_arms (arms_seen last arms)) k rest))) (sym (is-there last (out-Arms arms).first))
      ∙ ap (λ (both : Both). item_way (doing_in declared) (items.Do (language.Choose (language.By (language.Read file place (is_some both.first))) (both_arms both))) rest (memory_in store world)) (sym (seen_both_is last arms))
      ∙ ap (λ s. item_way (doing_in declared) (items.Do s) rest (memory_in store world)) (sym (seen_read last file place arms))

  -- the effect is that with arms, but for its end
  read-goes : (has : Bool) → has_arms arms ≡ has → (made : ActOutcome) (now : Roots) (files : List FileEntry) (devices : List Seen) (table : List FileRow) (before_frames frames : List Frame) →
      ((last : ℕ) → rest_of last frames ≡ armed_rest last made arms (rest_of last before_frames)) →
      Did files (Ok made) world (read declared store world file place (is_some (out-Arms arms).first) has) now devices table →
      FiledOver (Ok made) files devices table now frames (λ last. item_way (doing_in declared) (items.Do (seen last (stmts.Read file place arms))) (rest_of last before_frames) (memory_in store world))
  read-goes true has made now files devices table before_frames frames rests did =
      let later : World = last_world world armed.operations in
      let events : Trace = events_of armed.operations in (
        later,
        events,
        read_silent declared store world file place (is_some (out-Arms arms).first) true,
        λ last. ap (filed_way made events (memory_in now later)) (rests last)
            ∙ picked-way last arms events (memory_in now later) (rest_of last before_frames) made armed.end did.0 (read-picks declared file place store world (is_some (out-Arms arms).first))
            ∙ ap (λ roots. goes last arms events (memory_in roots later) (rest_of last before_frames) armed.end) did.1
            ∙ read-meant last (rest_of last before_frames),
        did.2,
      )
  read-goes false has made now files devices table before_frames frames rests did =
      let alike = read-alike declared file place store world (is_some (out-Arms arms).first) in
      let later : World = last_world world armed.operations in
      let events : Trace = events_of armed.operations in (
        later,
        events,
        read_silent declared store world file place (is_some (out-Arms arms).first) true,
        λ last. ap (filed_way made events (memory_in now later)) (rests last)
            ∙ bare-way last arms events (memory_in now later) (rest_of last before_frames) made _ armed.end has did.0 alike.ends
            ∙ ap (λ roots. goes last arms events (memory_in roots later) (rest_of last before_frames) armed.end) (did.1 ∙ alike.store)
            ∙ read-meant last (rest_of last before_frames),
        subst (λ operations. IsOver files devices table (last_world world operations)) alike.operations did.2,
      )

  abbrev Over : Result ActOutcome FileFault → Roots → List FileEntry → List Seen → List FileRow → List Frame → List Frame → Stmt → Type 0
  Over result now files devices table before_frames frames stmt =
      FiledOver result files devices table now frames (λ last. item_way (doing_in declared) (items.Do (seen last stmt)) (rest_of last before_frames) (memory_in store world))

  did-so : (given : Option Place) (at_end has : Bool) → given ≡ place → at_end ≡ is_some (out-Arms arms).first → has ≡ has_arms arms → (made : ActOutcome) (now : Roots) (files : List FileEntry) (devices : List Seen) (table : List FileRow) →
      Did files (Ok made) world (read declared store world file given at_end has) now devices table → Did files (Ok made) world (read declared store world file place (is_some (out-Arms arms).first) (has_arms arms)) now devices table
  did-so given at_end has p a h made now files devices table did =
      subst (λ x. Did files (Ok made) world (read declared store world file place (is_some (out-Arms arms).first) x) now devices table) h
      (subst (λ x. Did files (Ok made) world (read declared store world file place x has) now devices table) a
      (subst (λ x. Did files (Ok made) world (read declared store world file x at_end has) now devices table) p did))

  pub read_over : (stmt : Stmt) → stmt ≡ stmts.Read file place arms → (made : ActOutcome) (result : Result ActOutcome FileFault) (now : Roots) (files : List FileEntry) (devices : List Seen) (table : List FileRow) (before_frames frames : List Frame)
      (given : Option Place) (at_end has : Bool) → given ≡ place → at_end ≡ is_some (out-Arms arms).first → has ≡ has_arms arms →
      Did files (Ok made) world (read declared store world file given at_end has) now devices table → IfOk result (λ other. other ≡ made) →
      IfOk result (λ other. (last : ℕ) → rest_of last frames ≡ armed_rest last made arms (rest_of last before_frames)) →
      Over result now files devices table before_frames frames stmt
  read_over stmt is made (Err fault) now files devices table before_frames frames given at_end has p a h did same rests = tt
  read_over stmt is made (Ok other) now files devices table before_frames frames given at_end has p a h did same rests =
      subst (λ d. Over (Ok d) now files devices table before_frames frames stmt) (sym same)
      (subst (λ s. Over (Ok made) now files devices table before_frames frames s) (sym is)
      (read-goes (has_arms arms) refl made now files devices table before_frames frames rests (did-so given at_end has p a h made now files devices table did)))

  -- ---- a READ that broke off

  -- the operations are those that are meant, with and without arms
  read_operations : (last : ℕ) (given : Option Place) (at_end has : Bool) → given ≡ place → at_end ≡ is_some (out-Arms arms).first → (read declared store world file given at_end has).operations ≡ stmt_operations declared (seen last (stmts.Read file place arms)) (memory_in store world)
  read_operations last given at_end has p a =
      go has
      ∙ ap (λ (place : Option Place). (read declared store world file place at_end true).operations) p
      ∙ ap (λ (at_end : Bool). (read declared store world file place at_end true).operations) (a ∙ sym (is-there last (out-Arms arms).first))
      ∙ ap (λ (both : Both). stmt_operations declared (language.Choose (language.By (language.Read file place (is_some both.first))) (both_arms both)) (memory_in store world)) (sym (seen_both_is last arms))
      ∙ ap (λ s. stmt_operations declared s (memory_in store world)) (sym (seen_read last file place arms))
    where
      go : (has : Bool) → (read declared store world file given at_end has).operations ≡ (read declared store world file given at_end true).operations
      go true = refl
      go false = (read-alike declared file given store world at_end).operations

  pub read_break : (stmt : Stmt) → stmt ≡ stmts.Read file place arms → (fault : FileFault) (files : List FileEntry) (left : ℕ) (devices : List Seen) (table : List FileRow) (given : Option Place) (at_end has : Bool) → given ≡ place → at_end ≡ is_some (out-Arms arms).first →
      BreaksIn {A = ActOutcome} (Err fault) files world (read declared store world file given at_end has) left devices table →
      FiledBreaks (Err fault) files world (λ last. stmt_operations declared (seen last stmt) (memory_in store world)) left devices table
  read_break stmt is fault files left devices table given at_end has p a broke = λ last.
      let same : (read declared store world file given at_end has).operations ≡ stmt_operations declared (seen last stmt) (memory_in store world) =
      read_operations last given at_end has p a ∙ ap (λ s. stmt_operations declared (seen last s) (memory_in store world)) (sym is) in (
        broke.0,
        subst (λ (ops : List Operation). BrokeIn fault files (world_behind broke.0 world ops) left devices table) same broke.1,
        subst (λ (ops : List Operation). displayed (events_of (take broke.0 ops)) ≡ []) same (front_silent broke.0 (read declared store world file given at_end has).operations (read_silent declared store world file given at_end has)),
      )

  whole : (ops : List Operation) → take (length ops) ops ≡ ops
  whole [] = refl
  whole (op ∷ ops) = ap (λ l. op ∷ l) (whole ops)

  -- the arm that it chose wanted memory
  pub arm_break : (stmt : Stmt) → stmt ≡ stmts.Read file place arms → (made : ActOutcome) (result : Result ActOutcome FileFault) (now : Roots) (files : List FileEntry) (left : ℕ) (devices : List Seen) (table : List FileRow) (given : Option Place) (at_end has : Bool) → given ≡ place → at_end ≡ is_some (out-Arms arms).first →
      Did files (Ok made) world (read declared store world file given at_end has) now (take left devices) table → IfErr result (λ fault. fault ≡ faults.NoMemory) →
      FiledBreaks result files world (λ last. stmt_operations declared (seen last stmt) (memory_in store world)) left devices table
  arm_break stmt is made (Ok other) now files left devices table given at_end has p a did only = tt
  arm_break stmt is made (Err fault) now files left devices table given at_end has p a did only =
      let ops : List Operation = (read declared store world file given at_end has).operations in
      subst (λ (f : FileFault). FiledBreaks (Err f) files world (λ last. stmt_operations declared (seen last stmt) (memory_in store world)) left devices table) (sym only)
      (read_break stmt is faults.NoMemory files left devices table given at_end has p a
      (length ops, subst (λ (w : World). BrokeIn faults.NoMemory files w left devices table) (sym (ap (last_world world) (whole ops))) (over_left files left devices table (last_world world ops) did.2)))

  -- ---- what a READ kept

  pub read_keep : (stmt : Stmt) → stmt ≡ stmts.Read file place arms → (made : ActOutcome) (result : Result ActOutcome FileFault) (old new : FileWork) (last : ℕ) (given : Option Place) (at_end has : Bool) → given ≡ place → at_end ≡ is_some (out-Arms arms).first →
      Keeps {A = ActOutcome} (Ok made) old new (read declared store world file given at_end has).operations → Keeps result old new (stmt_operations declared (seen last stmt) (memory_in store world))
  read_keep stmt is made (Err fault) old new last given at_end has p a kept = tt
  read_keep stmt is made (Ok other) old new last given at_end has p a kept =
      subst (λ (ops : List Operation). Keeps {A = ActOutcome} (Ok other) old new ops) (read_operations last given at_end has p a ∙ ap (λ s. stmt_operations declared (seen last s) (memory_in store world)) (sym is)) kept
