-- What a statement on files does is what control says of it.
use Rattle.std.proofs.Common.{◌≡◌, ℕ, List, [], take, Option, Result, Ok, Err, refl, ap, sym, ◌∙◌, subst, append-nil}
use Rattle.cob_act.specs.declared.acting.ActOutcome.{ActOutcome}
use Rattle.cob_act.specs.declared.acting.ActOutcome.TheVariants as done
use Rattle.cob_store.specs.Store.{Roots}
use Rattle.cob_tree.specs.declared.file.FileEntry.{FileEntry}
use Rattle.cob_tree.specs.declared.file.Opening.{Opening}
use Rattle.cob_tree.specs.declared.place.Operand.{Operand}
use Rattle.cob_tree.specs.declared.stmt.Stmt.{Stmt, out-Stmt, out-roll-Stmt}
use Rattle.cob_tree.specs.declared.stmt.Stmt.TheOpen.{Stmt-F}
use Rattle.cob_tree.specs.declared.stmt.Stmt.TheVariants as stmts
use Rattle.file_model.specs.declared.table.FileRow.{FileRow}
use Rattle.file_model.specs.World.{World}
use Rattle.file_model.specs.operations.Seen.{Seen}
use Rattle.file_model.specs.declared.operations.fault.FileFault.{FileFault}
use Rattle.cob_act.specs.files.Ends.{ended_as}
use Rattle.cob_act.specs.declared.files.work.FileWork.{FileWork}
use Rattle.cob_act.specs.files.Over.{BreaksIn, BrokeIn, Did, world_behind}
use Rattle.cob_act.specs.files.Work.{Keeps}
use Rattle.meanings.specs.statements.Does.{does}
use Rattle.meanings.specs.statements.Filing.{Declared, Effect, Operation, each_file, last_world, opened, rewritten, shut, written}
use Rattle.control_flow_theory.specs.semantics.Doing.{Doing}
use Rattle.control_flow_theory.specs.semantics.Items.{item_way, tried}
use Rattle.control_flow_theory.specs.semantics.Items as ways
use Rattle.control_flow_theory.specs.semantics.Outcome.{Trace}
use Rattle.control_flow_theory.specs.language.Control.{seen}
use Rattle.control_flow_theory.specs.language.Items.{Item}
use Rattle.control_flow_theory.specs.language.Items as items
use Rattle.control_flow_theory.specs.language.Language as language
use Rattle.control_flow_theory.proofs.language_lemmas.Rows.{seen_closes, seen_opens, seen_rewrite, seen_write}
use Rattle.cobol_theory.specs.cobol_meaning.Acting.{Memory, acted, acted_by, events_of}
use Rattle.cobol_theory.specs.cobol_meaning.Runs.{doing_in}
use Rattle.cobol_run.specs.declared.frame.Frame.{Frame}
use Rattle.cobol_run.specs.Frames.{rest_of}
use Rattle.cobol_run.specs.Over.{FiledBreaks, FiledOver, filed_way}
use Rattle.cobol_run.specs.Plan.{memory_in}
use Rattle.cobol_run.specs.Points.{stmt_operations}
use Rattle.cobol_run.specs.Running.{displayed}
use Rattle.cobol_run.specs.NextStep.{on}
use Rattle.cobol_run.proofs.DisplayLemmas.{IsSilent, closes_silent, front_silent, opens_silent, rewritten_silent, written_silent}

-- ---- statements that act

-- a statement goes on, or ends the run
acted-way : (made : ActOutcome) (events : Trace) (memory : Memory) (rest : List Item) →
    filed_way made events memory rest ≡ tried (acted_by (ended_as made) events memory) (λ u. on rest)
acted-way done.Went events memory rest = ap (λ trace. ways.On trace memory rest) (sym (append-nil events))
acted-way done.Shown events memory rest = ap (λ trace. ways.On trace memory rest) (sym (append-nil events))
acted-way (done.Chose arm) events memory rest = ap (λ trace. ways.On trace memory rest) (sym (append-nil events))
acted-way (done.Abended abend) events memory rest = refl

module _ (declared : Declared) where
  abbrev doing : Doing Memory
  doing = doing_in declared

  acts-over : (stmt : Stmt) → ((last : ℕ) → seen last stmt ≡ language.Do (language.Own stmt)) → (store : Roots) (world : World) (effect : Effect) → does declared stmt store world ≡ effect → IsSilent effect →
      (files : List FileEntry) (result : Result ActOutcome FileFault) (now : Roots) (devices : List Seen) (table : List FileRow) (frames : List Frame) → Did files result world effect now devices table →
      FiledOver result files devices table now frames (λ last. item_way doing (items.Do (seen last stmt)) (rest_of last frames) (memory_in store world))
  acts-over stmt there store world effect is silent files (Err fault) now devices table frames did = tt
  acts-over stmt there store world effect is silent files (Ok made) now devices table frames did =
      let later : World = last_world world effect.operations in
      let events : Trace = events_of effect.operations in (
        later,
        events,
        silent,
        λ last. acted-way made events (memory_in now later) (rest_of last frames)
            ∙ ap (λ end. tried (acted_by end events (memory_in now later)) (λ u. on (rest_of last frames))) did.0
            ∙ ap (λ roots. tried (acted_by effect.end events (memory_in roots later)) (λ u. on (rest_of last frames))) did.1
            ∙ ap (λ made. tried (acted (memory_in store world) made) (λ u. on (rest_of last frames))) (sym is)
            ∙ ap (λ s. item_way doing (items.Do s) (rest_of last frames) (memory_in store world)) (sym (there last)),
        did.2,
      )

  module _ (stmt : Stmt) (store : Roots) (world : World) (files : List FileEntry) (result : Result ActOutcome FileFault) (now : Roots) (devices : List Seen) (table : List FileRow) (frames : List Frame) where
    abbrev Over : Stmt → Type 0
    Over s = FiledOver result files devices table now frames (λ last. item_way doing (items.Do (seen last s)) (rest_of last frames) (memory_in store world))

    pub opens_over : (openings given : List Opening) → given ≡ openings → stmt ≡ stmts.Opens openings → Did files result world (each_file (opened declared) store world given) now devices table → Over stmt
    opens_over openings given same is did =
        subst Over (sym is) (acts-over (stmts.Opens openings) (λ last. seen_opens last openings) store world _
        (rw (ap out-Stmt (sym (stmts.rolls-Opens openings)) ∙ out-roll-Stmt (Stmt-F.Opens openings), does) refl) (opens_silent declared store world openings) files result now devices table frames
        (subst (λ list. Did files result world (each_file (opened declared) store world list) now devices table) same did))

    pub closes_over : (numbers given : List ℕ) → given ≡ numbers → stmt ≡ stmts.Closes numbers → Did files result world (each_file (shut declared) store world given) now devices table → Over stmt
    closes_over numbers given same is did =
        subst Over (sym is) (acts-over (stmts.Closes numbers) (λ last. seen_closes last numbers) store world _
        (rw (ap out-Stmt (sym (stmts.rolls-Closes numbers)) ∙ out-roll-Stmt (Stmt-F.Closes numbers), does) refl) (closes_silent declared store world numbers) files result now devices table frames
        (subst (λ list. Did files result world (each_file (shut declared) store world list) now devices table) same did))

    pub written_over : (entry : ℕ) (from given : Option Operand) → given ≡ from → stmt ≡ stmts.Write entry from → Did files result world (written declared store world entry given) now devices table → Over stmt
    written_over entry from given same is did =
        subst Over (sym is) (acts-over (stmts.Write entry from) (λ last. seen_write last entry from) store world _
        (rw (ap out-Stmt (sym (stmts.rolls-Write entry from)) ∙ out-roll-Stmt (Stmt-F.Write entry from), does) refl) (written_silent declared store world entry from) files result now devices table frames
        (subst (λ o. Did files result world (written declared store world entry o) now devices table) same did))

    pub rewritten_over : (entry : ℕ) (from given : Option Operand) → given ≡ from → stmt ≡ stmts.Rewrite entry from → Did files result world (rewritten declared store world entry given) now devices table → Over stmt
    rewritten_over entry from given same is did =
        subst Over (sym is) (acts-over (stmts.Rewrite entry from) (λ last. seen_rewrite last entry from) store world _
        (rw (ap out-Stmt (sym (stmts.rolls-Rewrite entry from)) ∙ out-roll-Stmt (Stmt-F.Rewrite entry from), does) refl) (rewritten_silent declared store world entry from) files result now devices table frames
        (subst (λ o. Did files result world (rewritten declared store world entry o) now devices table) same did))

  -- ---- a statement that broke off

  acts_break : (stmt : Stmt) → ((last : ℕ) → seen last stmt ≡ language.Do (language.Own stmt)) → (store : Roots) (world : World) (effect : Effect) → does declared stmt store world ≡ effect → IsSilent effect →
      (files : List FileEntry) (result : Result ActOutcome FileFault) (left : ℕ) (devices : List Seen) (table : List FileRow) → BreaksIn result files world effect left devices table →
      FiledBreaks result files world (λ last. stmt_operations declared (seen last stmt) (memory_in store world)) left devices table
  acts_break stmt there store world effect is silent files (Ok made) left devices table broke = tt
  acts_break stmt there store world effect is silent files (Err fault) left devices table broke = λ last.
      let same : stmt_operations declared (seen last stmt) (memory_in store world) ≡ effect.operations = ap (λ s. stmt_operations declared s (memory_in store world)) (there last) ∙ ap (λ (e : Effect). e.operations) is in (
        broke.0,
        subst (λ (ops : List Operation). BrokeIn fault files (world_behind broke.0 world ops) left devices table) (sym same) broke.1,
        subst (λ (ops : List Operation). displayed (events_of (take broke.0 ops)) ≡ []) (sym same) (front_silent broke.0 effect.operations silent),
      )

  module _ (stmt : Stmt) (store : Roots) (world : World) (files : List FileEntry) (result : Result ActOutcome FileFault) (left : ℕ) (devices : List Seen) (table : List FileRow) where
    abbrev Broke : Stmt → Type 0
    Broke s = FiledBreaks result files world (λ last. stmt_operations declared (seen last s) (memory_in store world)) left devices table

    pub opens_break : (openings given : List Opening) → given ≡ openings → stmt ≡ stmts.Opens openings → BreaksIn result files world (each_file (opened declared) store world given) left devices table → Broke stmt
    opens_break openings given same is broke =
        subst Broke (sym is) (acts_break (stmts.Opens openings) (λ last. seen_opens last openings) store world _
        (rw (ap out-Stmt (sym (stmts.rolls-Opens openings)) ∙ out-roll-Stmt (Stmt-F.Opens openings), does) refl) (opens_silent declared store world openings) files result left devices table
        (subst (λ list. BreaksIn result files world (each_file (opened declared) store world list) left devices table) same broke))

    pub closes_break : (numbers given : List ℕ) → given ≡ numbers → stmt ≡ stmts.Closes numbers → BreaksIn result files world (each_file (shut declared) store world given) left devices table → Broke stmt
    closes_break numbers given same is broke =
        subst Broke (sym is) (acts_break (stmts.Closes numbers) (λ last. seen_closes last numbers) store world _
        (rw (ap out-Stmt (sym (stmts.rolls-Closes numbers)) ∙ out-roll-Stmt (Stmt-F.Closes numbers), does) refl) (closes_silent declared store world numbers) files result left devices table
        (subst (λ list. BreaksIn result files world (each_file (shut declared) store world list) left devices table) same broke))

    pub written_break : (entry : ℕ) (from given : Option Operand) → given ≡ from → stmt ≡ stmts.Write entry from → BreaksIn result files world (written declared store world entry given) left devices table → Broke stmt
    written_break entry from given same is broke =
        subst Broke (sym is) (acts_break (stmts.Write entry from) (λ last. seen_write last entry from) store world _
        (rw (ap out-Stmt (sym (stmts.rolls-Write entry from)) ∙ out-roll-Stmt (Stmt-F.Write entry from), does) refl) (written_silent declared store world entry from) files result left devices table
        (subst (λ o. BreaksIn result files world (written declared store world entry o) left devices table) same broke))

    pub rewritten_break : (entry : ℕ) (from given : Option Operand) → given ≡ from → stmt ≡ stmts.Rewrite entry from → BreaksIn result files world (rewritten declared store world entry given) left devices table → Broke stmt
    rewritten_break entry from given same is broke =
        subst Broke (sym is) (acts_break (stmts.Rewrite entry from) (λ last. seen_rewrite last entry from) store world _
        (rw (ap out-Stmt (sym (stmts.rolls-Rewrite entry from)) ∙ out-roll-Stmt (Stmt-F.Rewrite entry from), does) refl) (rewritten_silent declared store world entry from) files result left devices table
        (subst (λ o. BreaksIn result files world (rewritten declared store world entry o) left devices table) same broke))

  -- ---- what a statement kept

  acts_keep : (stmt : Stmt) → ((last : ℕ) → seen last stmt ≡ language.Do (language.Own stmt)) → (store : Roots) (world : World) (effect : Effect) → does declared stmt store world ≡ effect → (result : Result ActOutcome FileFault) (old new : FileWork) (last : ℕ) →
      Keeps result old new effect.operations → Keeps result old new (stmt_operations declared (seen last stmt) (memory_in store world))
  acts_keep stmt there store world effect is result old new last kept =
      subst (λ (ops : List Operation). Keeps result old new ops) (sym (ap (λ s. stmt_operations declared s (memory_in store world)) (there last) ∙ ap (λ (e : Effect). e.operations) is)) kept

  module _ (stmt : Stmt) (store : Roots) (world : World) (result : Result ActOutcome FileFault) (old new : FileWork) (last : ℕ) where
    abbrev Kept : Stmt → Type 0
    Kept s = Keeps result old new (stmt_operations declared (seen last s) (memory_in store world))

    pub opens_keep : (openings given : List Opening) → given ≡ openings → stmt ≡ stmts.Opens openings → Keeps result old new (each_file (opened declared) store world given).operations → Kept stmt
    opens_keep openings given same is kept =
        subst Kept (sym is) (acts_keep (stmts.Opens openings) (λ last. seen_opens last openings) store world (each_file (opened declared) store world openings)
        (rw (ap out-Stmt (sym (stmts.rolls-Opens openings)) ∙ out-roll-Stmt (Stmt-F.Opens openings), does) refl) result old new last
        (subst (λ list. Keeps result old new (each_file (opened declared) store world list).operations) same kept))

    pub closes_keep : (numbers given : List ℕ) → given ≡ numbers → stmt ≡ stmts.Closes numbers → Keeps result old new (each_file (shut declared) store world given).operations → Kept stmt
    closes_keep numbers given same is kept =
        subst Kept (sym is) (acts_keep (stmts.Closes numbers) (λ last. seen_closes last numbers) store world (each_file (shut declared) store world numbers)
        (rw (ap out-Stmt (sym (stmts.rolls-Closes numbers)) ∙ out-roll-Stmt (Stmt-F.Closes numbers), does) refl) result old new last
        (subst (λ list. Keeps result old new (each_file (shut declared) store world list).operations) same kept))

    pub written_keep : (entry : ℕ) (from given : Option Operand) → given ≡ from → stmt ≡ stmts.Write entry from → Keeps result old new (written declared store world entry given).operations → Kept stmt
    written_keep entry from given same is kept =
        subst Kept (sym is) (acts_keep (stmts.Write entry from) (λ last. seen_write last entry from) store world (written declared store world entry from)
        (rw (ap out-Stmt (sym (stmts.rolls-Write entry from)) ∙ out-roll-Stmt (Stmt-F.Write entry from), does) refl) result old new last
        (subst (λ o. Keeps result old new (written declared store world entry o).operations) same kept))

    pub rewritten_keep : (entry : ℕ) (from given : Option Operand) → given ≡ from → stmt ≡ stmts.Rewrite entry from → Keeps result old new (rewritten declared store world entry given).operations → Kept stmt
    rewritten_keep entry from given same is kept =
        subst Kept (sym is) (acts_keep (stmts.Rewrite entry from) (λ last. seen_rewrite last entry from) store world (rewritten declared store world entry from)
        (rw (ap out-Stmt (sym (stmts.rolls-Rewrite entry from)) ∙ out-roll-Stmt (Stmt-F.Rewrite entry from), does) refl) result old new last
        (subst (λ o. Keeps result old new (rewritten declared store world entry o).operations) same kept))
