-- The refusal that a part's fault becomes.
use Rattle.cob_tree.specs.declared.fault.SplitFault.{SplitFault}
use Rattle.cob_tree.specs.declared.fault.SplitFault.TheVariants as split
use Rattle.cobol_read.specs.declared.refusal.ReadRefusal.{ReadRefusal}
use Rattle.cobol_read.specs.declared.refusal.ReadRefusal.TheVariants as read
use Rattle.restructure_core.specs.declared.fault.Refused.{Refused}
use Rattle.restructure_core.specs.declared.fault.Refused.TheVariants.{NotSubset, Limit, NoMemory}

-- why reading refuses a source, as a refusal; a limit, and being out of memory, have refusals of
-- their own
abbrev pub of_read_refusal : ReadRefusal → Refused
of_read_refusal (read.Fault fault) = NotSubset fault
of_read_refusal (read.Limit limit) = Limit limit
of_read_refusal read.NoMemory = NoMemory

-- the refusal that a fault of splitting becomes
abbrev pub of_split_fault : SplitFault → Refused
of_split_fault (split.Limit limit) = Limit limit
of_split_fault split.NoMemory = NoMemory
