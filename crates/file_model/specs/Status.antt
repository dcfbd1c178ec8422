-- How a file of the program stands, and the statuses that follow from that alone.
use Rattle.std.specs.Prelude.{ℕ, Bool, true, false, not, if◌then◌else◌, Option, Some, None, is_some}
use Rattle.cob_tree.specs.declared.file.How.{How}
use Rattle.cob_tree.specs.declared.file.How.TheVariants as how
use Rattle.file_model.specs.declared.table.FileRow.{FileRow}

-- a file that isn't open
abbrev pub closed_row : FileRow
closed_row = record { how = None; ended = false; has_record = false }

-- a file that was opened in this mode
abbrev pub opened_row : How → FileRow
opened_row mode = record { how = Some mode; ended = false; has_record = false }

-- a READ gave a record, or came to the end
abbrev pub read_row : Bool → FileRow → FileRow
read_row ended row = record { how = row.how; ended = ended; has_record = not ended }

-- how a file stands after any other operation, also one that was refused
abbrev pub other_row : FileRow → FileRow
other_row row = record { how = row.how; ended = row.ended; has_record = false }

-- ---- ways to be open

-- the file is open as INPUT or I-O
abbrev pub can_read : Option How → Bool
can_read None = false
can_read (Some how.Input) = true
can_read (Some how.Output) = false
can_read (Some how.InOut) = true
can_read (Some how.Extend) = false

-- the file is open as OUTPUT or EXTEND
abbrev pub can_write : Option How → Bool
can_write None = false
can_write (Some how.Input) = false
can_write (Some how.Output) = true
can_write (Some how.InOut) = false
can_write (Some how.Extend) = true

-- the file is open as I-O
abbrev pub is_in_out : Option How → Bool
is_in_out None = false
is_in_out (Some how.Input) = false
is_in_out (Some how.Output) = false
is_in_out (Some how.InOut) = true
is_in_out (Some how.Extend) = false

-- ---- 0, or the status of an operation that isn't tried

-- 41 where it is open
abbrev pub may_open : FileRow → ℕ
may_open row = if is_some row.how then 41 else 0

-- 42 where it isn't open
abbrev pub may_close : FileRow → ℕ
may_close row = if is_some row.how then 0 else 42

-- 47 unless INPUT or I-O, and 46 after the end
abbrev pub may_read : FileRow → ℕ
may_read row = if not (can_read row.how) then 47 else (if row.ended then 46 else 0)

-- 48 unless OUTPUT or EXTEND
abbrev pub may_write : FileRow → ℕ
may_write row = if can_write row.how then 0 else 48

-- 49 unless I-O, and 43 unless the last operation was a READ that gave a record
abbrev pub may_rewrite : FileRow → ℕ
may_rewrite row = if not (is_in_out row.how) then 49 else (if row.has_record then 0 else 43)
