-- What was done, as the code answers it.
use Rattle.std.specs.Prelude.{ℕ, Bool, true, false, List, [], ◌∷◌}
use Rattle.cob_tree.specs.declared.stmt.Stmt.{Stmt, out-Stmt}
use Rattle.cob_tree.specs.declared.stmt.Stmt.TheOpen.{Stmt-F}
use Rattle.cob_store.specs.Store.{Roots}
use Rattle.file_model.specs.World.{World, Display}
use Rattle.meanings.specs.statements.Filing as files
use Rattle.cob_act.specs.declared.acting.ActOutcome.{ActOutcome}
use Rattle.cob_act.specs.declared.acting.ActOutcome.TheVariants.{Went, Shown, Chose, Abended}

-- the effect of what was done: the world stays, and where bytes were shown that is the one
-- operation
abbrev pub effect_by : World → Roots → List ℕ → ActOutcome → files.Effect
effect_by world store shown Went = files.no_effect store files.Went
effect_by world store shown Shown = record {
  operations = record { world = world; event = Display shown } ∷ [];
  store = store;
  end = files.Went;
}
effect_by world store shown (Chose arm) = files.no_effect store (files.Chose arm)
effect_by world store shown (Abended abend) = files.no_effect store (files.Abended abend)

-- the statement is none on files
abbrev pub is_inner : Stmt → Bool
is_inner stmt =
    elim (out-Stmt stmt) [
      | Stmt-F.Opens openings ↦ false
      | Stmt-F.Closes numbers ↦ false
      | Stmt-F.Read file place arms ↦ false
      | Stmt-F.Write entry from ↦ false
      | Stmt-F.Rewrite entry from ↦ false
      | _ ↦ true
    ]
