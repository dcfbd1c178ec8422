-- A statement on files over a bench, operation by operation.
use Rattle.std.proofs.Common.{◌≡◌, ◌<◌, sym, subst, ℕ, Bool, List, [], ◌∷◌, length, Some, Result, Ok, Err, refl, slice_get}
use Rattle.cob_tree.specs.declared.file.FileEntry.{FileEntry}
use Rattle.file_model.specs.declared.table.FileRow.{FileRow}
use Rattle.file_model.specs.Attempts.{Address}
use Rattle.file_model.specs.declared.operations.fault.FileFault.{FileFault}
use Rattle.file_model.specs.declared.operations.fault.FileFault.TheVariants as faults
use Rattle.file_model.specs.operations.Calls.{Leaves, Notes, addresses_of}
use Rattle.file_model.specs.operations.Falling.{AreShut, LeftOf, gone_with, is_used, name_behind}
use Rattle.file_model.specs.operations.Seen.{Seen}
use Rattle.file_model.proofs.operations_lemmas.FallLemmas.{Named, left_leaves, left_same, left_then, named_at, off_named, used_at}
use Rattle.file_model.proofs.operations_lemmas.ShutLemmas.{notes_shut, nothing_shut}
use Rattle.cob_act.specs.files.Ends.{BrokeOver, DoneOver}

pub broke_after : (fault : FileFault) (files : List FileEntry) (left mid now : ℕ) (old between new : List Seen) (table : List FileRow) → LeftOf (is_used (addresses_of files)) [] left mid old between → BrokeOver fault files mid now between new table → BrokeOver fault files left now old new table
broke_after fault files left mid now old between new table one two = (left_then (is_used (addresses_of files)) _ left mid now old between new one two.0, two.1)

-- one operation
module _ (files : List FileEntry) (address : Address) (file left left_now : ℕ) (old new : List Seen) (table now : List FileRow) (here : slice_get (addresses_of files) file ≡ Some address) where
  abbrev used : List ℕ → Bool
  used = is_used (addresses_of files)

  leaves : (answer : Result ℕ FileFault) → Leaves answer address.device left left_now old new → LeftOf used (gone_with answer address.device []) left left_now old new
  leaves answer = left_leaves used [] address.device left left left_now old old new (used_at (addresses_of files) file address here) refl (left_same used left old) answer

  apart : (answer : Result ℕ FileFault) → Notes answer file address.device (addresses_of files) table now → AreShut (gone_with answer address.device []) (addresses_of files) now
  apart answer = notes_shut answer file address [] (addresses_of files) table now here refl (nothing_shut (addresses_of files) table)

  done_by : (answer : Result ℕ FileFault) → Leaves answer address.device left left_now old new → Notes answer file address.device (addresses_of files) table now → DoneOver answer files left left_now old new now
  done_by (Ok status) l n = leaves (Ok status) l
  done_by (Err faults.Device) l n =
      let named : name_behind left_now new ≡ address.device = off_named address.device left left_now old new l in
      subst (λ (name : List ℕ). LeftOf used (name ∷ []) left left_now old new × AreShut (name ∷ []) (addresses_of files) now) (sym named) (leaves (Err faults.Device) l, apart (Err faults.Device) n)
  done_by (Err faults.NoMemory) l n = (leaves (Err faults.NoMemory) l, apart (Err faults.NoMemory) n)

pub done_over : (files : List FileEntry) (file : ℕ) (result : Result ℕ FileFault) (left left_now : ℕ) (old new : List Seen) (table now : List FileRow) → file < length files →
    ((address : Address) → slice_get (addresses_of files) file ≡ Some address → Leaves result address.device left left_now old new) →
    ((address : Address) → slice_get (addresses_of files) file ≡ Some address → Notes result file address.device (addresses_of files) table now) → DoneOver result files left left_now old new now
done_over files file result left left_now old new table now within leaves notes =
    let n : Named files file = named_at files file within in
    done_by files n.address file left left_now old new table now n.here result (leaves n.address n.here) (notes n.address n.here)

-- where no device is asked
pub none_asked : (files : List FileEntry) (left : ℕ) (devices : List Seen) → LeftOf (is_used (addresses_of files)) [] left left devices devices
none_asked files left devices = left_same (is_used (addresses_of files)) left devices

pub wanted_memory : (files : List FileEntry) (left : ℕ) (devices : List Seen) (table : List FileRow) → LeftOf (is_used (addresses_of files)) [] left left devices devices × AreShut [] (addresses_of files) table
wanted_memory files left devices table = (left_same (is_used (addresses_of files)) left devices, nothing_shut (addresses_of files) table)

-- the files as they were asked for
pub done_listed : {A : Type 0} (result : Result A FileFault) (listed program : List FileEntry) (left left_now : ℕ) (old new : List Seen) (table : List FileRow) → listed ≡ program → DoneOver result listed left left_now old new table → DoneOver result program left left_now old new table
done_listed result listed program left left_now old new table is done = subst (λ (l : List FileEntry). DoneOver result l left left_now old new table) is done

-- memory is wanted behind operations of which none failed
pub wanted_after : (listed program : List FileEntry) (left left_now : ℕ) (old new : List Seen) (table : List FileRow) → listed ≡ program → LeftOf (is_used (addresses_of listed)) [] left left_now old new → BrokeOver faults.NoMemory program left left_now old new table
wanted_after listed program left left_now old new table is one =
    (subst (λ (l : List FileEntry). LeftOf (is_used (addresses_of l)) [] left left_now old new) is one, nothing_shut (addresses_of program) table)

-- where nothing was asked of a device, or an operation on a file of the program was
pub ruleset nothing_asked = (done_listed, none_asked)
