-- The status of each refusal, and the line or lines that tell it.
use Rattle.std.specs.Prelude.{ℕ, List, [], ◌∷◌, ◌++◌, codes}
use Rattle.std.specs.Fmt.{decimal}
use Rattle.cob_base.specs.Bytes.{line_feed}
use Rattle.cob_base.specs.Limit.{limit_text}
use Rattle.cob_tree.specs.declared.ending.Abend.{Abend}
use Rattle.cob_tree.specs.declared.ending.Abend.TheVariants as abends
use Rattle.restructure_core.specs.declared.fault.Refused.{Refused}
use Rattle.restructure_core.specs.declared.fault.Refused.TheVariants as refused
use Rattle.cobol_read.specs.declared.refusal.ReadFault.{ReadFault}
use Rattle.overlap_trail.specs.notes.Trail.{fault_text, trail_text}
use Rattle.restructure_asks.specs.Kind.{kind_at}
use Rattle.restructure_asks.specs.declared.status.Status.{Status}
use Rattle.restructure_asks.specs.declared.status.Status.TheVariants as status
use Rattle.restructure_asks.specs.declared.refusal.Refusal.{Refusal}
use Rattle.restructure_asks.specs.declared.refusal.Refusal.TheVariants as refusal

-- the refusal that a refused source becomes
abbrev pub of_refused : Refused → Refusal
of_refused (refused.NotSubset why) = refusal.Refused (refused.NotSubset why)
of_refused (refused.Flow program trail) = refusal.Refused (refused.Flow program trail)
of_refused (refused.Limit limit) = refusal.Refused (refused.Limit limit)
of_refused refused.NoMemory = refusal.NoMemory

-- the status of a source that is refused
abbrev pub refused_status : Refused → Status
refused_status (refused.NotSubset why) = status.NotSubset
refused_status (refused.Flow program trail) = status.Flow
refused_status (refused.Limit limit) = status.Limit
refused_status refused.NoMemory = status.NoMemory

-- the status of a refusal
abbrev pub status_of : Refusal → Status
status_of refusal.Usage = status.Usage
status_of (refusal.Refused refused) = refused_status refused
status_of (refusal.Fault program fault) = status.Flow
status_of (refusal.Abend abend) = status.Abend
status_of (refusal.Budget steps) = status.Budget
status_of (refusal.Device name) = status.DeviceFault
status_of refusal.NoSecond = status.NotSubset
status_of (refusal.Second refused) = refused_status refused
status_of (refusal.SecondDevice name) = status.DeviceFault
status_of (refusal.Differ number) = status.Differ
status_of refusal.ReadFault = status.ReadFault
status_of refusal.WriteFault = status.WriteFault
status_of refusal.NoMemory = status.NoMemory

-- the line of a fault of reading
abbrev pub not_subset_text : ReadFault → List ℕ
not_subset_text why = codes "NOT SUBSET " ++ kind_at why

-- the lines of a source that is refused
abbrev pub refused_text : Refused → List ℕ
refused_text (refused.NotSubset why) = not_subset_text why
refused_text (refused.Flow program trail) = trail_text program.paragraphs trail
refused_text (refused.Limit limit) = limit_text limit
refused_text refused.NoMemory = codes "NO MEMORY"

-- the line of an abend
abbrev pub abend_text : Abend → List ℕ
abend_text abends.BadDigits = codes "ABEND BAD-DIGITS"
abend_text abends.OutOfRange = codes "ABEND OUT-OF-RANGE"
abend_text (abends.Io status) = codes "ABEND IO " ++ decimal status

-- the line of a device that failed
abbrev pub device_text : List ℕ → List ℕ
device_text name = codes "DEVICE FAULT " ++ name

-- the lines of a second program that is refused
abbrev pub second_text : Refused → List ℕ
second_text refused = codes "SECOND " ++ refused_text refused

-- the line of a device on the second bench that failed
abbrev pub second_device_text : List ℕ → List ℕ
second_device_text name = codes "DEVICE FAULT SECOND " ++ name

-- the lines of a refusal
abbrev pub refusal_text : Refusal → List ℕ
refusal_text refusal.Usage = codes "USAGE"
refusal_text (refusal.Refused refused) = refused_text refused
refusal_text (refusal.Fault program fault) = fault_text program.paragraphs fault
refusal_text (refusal.Abend abend) = abend_text abend
refusal_text (refusal.Budget steps) = codes "BUDGET " ++ decimal steps
refusal_text (refusal.Device name) = device_text name
refusal_text refusal.NoSecond = codes "NOT SUBSET NO-SECOND LINE 1"
refusal_text (refusal.Second refused) = second_text refused
refusal_text (refusal.SecondDevice name) = second_device_text name
refusal_text (refusal.Differ number) = codes "DIFFER AT " ++ decimal number
refusal_text refusal.ReadFault = codes "READ FAULT"
refusal_text refusal.WriteFault = codes "WRITE FAULT"
refusal_text refusal.NoMemory = codes "NO MEMORY"

-- the text, of one line or of several, and a line feed
abbrev pub line_of : Refusal → List ℕ
line_of refusal = refusal_text refusal ++ line_feed ∷ []
