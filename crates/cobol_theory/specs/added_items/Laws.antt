-- Laws of programs with items after their own.
use Rattle.std.specs.Prelude.{ℕ, ◌≡◌, ◌<◌, List, ◌++◌, length, map, Some, slice_get, IsTrue}
use Rattle.cob_tree.specs.declared.cond.Cond.{Cond}
use Rattle.cob_tree.specs.declared.entry.Entry.{Entry}
use Rattle.cob_tree.specs.declared.place.Operand.{Operand}
use Rattle.cob_tree.specs.declared.stmt.Stmt.{Stmt}
use Rattle.cob_store.specs.Store.{Roots}
use Rattle.cob_store.specs.declared.area.Area.{Area}
use Rattle.cob_store.specs.Laying.{layout_of}
use Rattle.cob_store.specs.Starting.{initial_store}
use Rattle.control_flow_theory.specs.language.Language.{Chooser}
use Rattle.meanings.specs.statements.Filing.{Declared}
use Rattle.cobol_theory.specs.cobol_meaning.Acting.{Memory, does_to, tests_in, chooses_in, counts_in}
use Rattle.cobol_theory.specs.added_items.Within.{cond_within, operand_within}
use Rattle.cobol_theory.specs.added_items.Laying.{begins_with_item, first_bytes, have_levels, stand_alone, laid_behind}
use Rattle.cobol_theory.specs.added_items.Own.{items, stmt_own, chooser_own}
use Rattle.cobol_theory.specs.added_items.Widened.{AddedItems, declared_beside, IsWhole, AreApart, with_tail, Keeps}

-- each part of the program does beside the added items what it does alone, and leaves their bytes
pub record DoTheSame (declared : Declared) (added : AddedItems) (tail : Roots) (memory : Memory)
    : Type 0 where
  -- a statement does the same
  pub act : (stmt : Stmt) → IsTrue (stmt_own declared stmt) →
      Keeps tail (length declared.areas.roots)
      (does_to (declared_beside added declared) stmt (with_tail tail memory))
      (does_to declared stmt memory)
  -- a condition holds alike
  pub test : (cond : Cond) → IsTrue (cond_within (items declared) cond) →
      Keeps tail (length declared.areas.roots)
      (tests_in (declared_beside added declared) cond (with_tail tail memory))
      (tests_in declared cond memory)
  -- a chooser takes the same arm
  pub choose : (chooser : Chooser) → IsTrue (chooser_own declared chooser) →
      Keeps tail (length declared.areas.roots)
      (chooses_in (declared_beside added declared) chooser (with_tail tail memory))
      (chooses_in declared chooser memory)
  -- an operand of TIMES counts alike
  pub count : (amount : Operand) → IsTrue (operand_within (items declared) amount) →
      Keeps tail (length declared.areas.roots)
      (counts_in (declared_beside added declared) amount (with_tail tail memory))
      (counts_in declared amount memory)

-- the parts of a program do beside added items what they do alone
abbrev pub OwnPartsDoTheSame : Type 0
OwnPartsDoTheSame =
    (declared : Declared) (added : AddedItems) (tail : Roots) (memory : Memory) →
    IsWhole declared → AreApart added → length memory.store ≡ length declared.areas.roots →
    DoTheSame declared added tail memory

-- each entry has an area, which lies in some root
abbrev pub LayoutsAreInside : Type 0
LayoutsAreInside =
    (entries : List Entry) → IsTrue (begins_with_item entries) →
    (length entries ≡ length (layout_of entries).items)
    × ((item : ℕ) (area : Area) → slice_get (layout_of entries).items item ≡ Some area →
    area.root < length (layout_of entries).roots)

-- items that stand alone lie after all others, each in a root of its own
abbrev pub AddedItemsLieBehind : Type 0
AddedItemsLieBehind =
    (entries added : List Entry) → IsTrue (have_levels entries) → IsTrue (stand_alone added) →
    layout_of (entries ++ added) ≡ laid_behind (layout_of entries) added

-- a run starts with what it starts with alone, and after it the first bytes of each added item
abbrev pub AddedItemsStartBehind : Type 0
AddedItemsStartBehind =
    (entries added : List Entry) → IsTrue (begins_with_item entries) →
    IsTrue (have_levels entries) →
    IsTrue (stand_alone added) →
    initial_store (entries ++ added) ≡ initial_store entries ++ map first_bytes added
