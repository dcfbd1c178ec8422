-- What each answer says of the bytes.
use Rattle.std.specs.Prelude.{ℕ, ◌≡◌, ◌≢◌, ◌⊎◌, List, Some, None, Result, Ok, Err}
use Rattle.cob_base.specs.declared.limit.Limit.{Limit}
use Rattle.cob_tree.specs.declared.program.Program.{Program}
use Rattle.struct_form.specs.Structured.{IsStructured}
use Rattle.cobol_theory.specs.cobol_meaning.Same.{SameBehaviour}
use Rattle.program_points.specs.declared.paths.trail.Trail.{Trail}
use Rattle.pending_returns.specs.Summary.{IsWithin}
use Rattle.procedure_split.specs.declared.writing.Split.{Split}
use Rattle.procedure_split.specs.report.Report.{IsReportOf}
use Rattle.procedure_split.specs.declared.report.report.Report.{Report}
use Rattle.cobol_read.specs.declared.refusal.ReadRefusal.{ReadRefusal}
use Rattle.cobol_read.specs.declared.refusal.ReadRefusal.TheVariants as read
use Rattle.cobol_read.specs.Reading as reading
use Rattle.cobol_read.specs.Reading.{Reads}
use Rattle.cobol_print.specs.Program.{printed}
use Rattle.restructure_core.specs.declared.fault.Refused.{Refused}
use Rattle.restructure_core.specs.declared.fault.Refused.TheVariants as refused
use Rattle.restructure_core.specs.declared.pipeline.Done.{Done}
use Rattle.restructure_core.specs.Flow.{PassesRanges, HasFlowFault, IsFaultless, IsFaultyBy}
use Rattle.restructure_core.specs.Made.{IsMadeOf, PassesBefore}
use Rattle.restructure_core.specs.Fault.{of_read_refusal}
use Rattle.restructure_core.specs.Limit.{result_limit, text_limit}

-- the bytes aren't read, for a cause that has this refusal
pub record IsUnread (bytes : List ℕ) (refusal : Refused) : Type 0 where
  pub why : ReadRefusal
  -- it isn't that memory ran out
  pub some : why ≢ read.NoMemory
  -- the bytes have this cause
  pub cause : reading.HasCause bytes why
  -- the refusal is the cause's
  pub is : refusal ≡ of_read_refusal why

-- the bytes are a program that names too many ranges
pub record IsPastRanges (bytes : List ℕ) (limit : Limit) : Type 0 where
  pub program : Program
  pub reads : Reads bytes program
  -- it names too many ranges
  pub past : PassesRanges program limit

-- the bytes are this program, a flow path of which comes to a fault
pub record IsFaultySource (bytes : List ℕ) (program : Program) : Type 0 where
  pub reads : Reads bytes program
  pub within : IsWithin program
  pub faulty : HasFlowFault program

-- the same, and this trail shows it
pub record IsFaultySourceBy (bytes : List ℕ) (program : Program) (trail : Trail) : Type 0 where
  pub reads : Reads bytes program
  pub faulty : IsFaultyBy program trail

-- the structured program that a program is split into passes this limit first
pub record PassesAsResult (program : Program) (limit : Limit) : Type 0 where
  pub made : Split
  -- the program is split so
  pub is : IsMadeOf program made
  -- this is the first limit that the result passes
  pub past : result_limit made.program ≡ Some limit

-- a program without a fault of flow passes this limit, before it is split or by the result
abbrev pub PassesLimit : Program → Limit → Type 0
PassesLimit program limit = PassesBefore program limit ⊎ PassesAsResult program limit

-- the bytes are such a program
pub record IsPastLimit (bytes : List ℕ) (limit : Limit) : Type 0 where
  pub program : Program
  pub reads : Reads bytes program
  -- it passes this limit
  pub passes : PassesLimit program limit

-- the text of the structured program that a program is split into, which passes no limit, and the
-- program's report
pub record IsResultOf (program : Program) (done : Done) : Type 0 where
  pub made : Split
  -- the program is split so
  pub is : IsMadeOf program made
  -- the result passes no limit
  pub within : result_limit made.program ≡ None
  -- the text is what is printed of it
  pub written : done.text ≡ printed made.program
  -- the report is the program's
  pub reported : IsReportOf program is.summary made.added done.report

-- the text is that of a program which is structured and behaves as the program that the bytes are,
-- and reads to it
pub record IsRestructured (bytes : List ℕ) (done : Done) : Type 0 where
  pub program : Program
  pub reads : Reads bytes program
  pub result : IsResultOf program done
  pub structured : IsStructured result.made.program
  -- it behaves as the program does
  pub same : SameBehaviour program result.made.program
  -- the text is read as that very program
  pub read_back : Reads done.text result.made.program

-- the report is that of a program which is restructured to some text
abbrev pub IsReported : List ℕ → Report → Type 0
IsReported bytes report =
    (text : List ℕ) × IsRestructured bytes (record { text = text; report = report })

-- the bytes are a program without a fault of flow that passes no limit
pub record IsRestructurable (bytes : List ℕ) : Type 0 where
  pub program : Program
  pub reads : Reads bytes program
  pub faultless : IsFaultless program
  -- it passes no limit
  pub within : (limit : Limit) → PassesLimit program limit → ⊥

-- the text of a result that passes no limit, or the limit that it passes first
abbrev pub IsPrinted : Program → Result (List ℕ) Refused → Type 0
IsPrinted result (Ok text) = (text ≡ printed result) × (result_limit result ≡ None)
IsPrinted result (Err (refused.Limit limit)) = result_limit result ≡ Some limit
IsPrinted result (Err refused.NoMemory) = Unit {0}
IsPrinted result (Err _) = ⊥

-- the same, of the limits of the text alone
abbrev pub IsText : Program → Result (List ℕ) Refused → Type 0
IsText result (Ok text) = (text ≡ printed result) × (text_limit result ≡ None)
IsText result (Err (refused.Limit limit)) = text_limit result ≡ Some limit
IsText result (Err refused.NoMemory) = Unit {0}
IsText result (Err _) = ⊥

-- what is answered of a program without a fault of flow
abbrev pub IsAnswerTo : Program → Result Done Refused → Type 0
IsAnswerTo program (Ok done) = IsResultOf program done
IsAnswerTo program (Err (refused.Limit limit)) = PassesLimit program limit
IsAnswerTo program (Err refused.NoMemory) = Unit {0}
IsAnswerTo program (Err _) = ⊥

-- the cause of each refusal; memory may run out at any place
abbrev pub HasCause : List ℕ → Refused → Type 0
HasCause bytes (refused.NotSubset why) = IsUnread bytes (refused.NotSubset why)
HasCause bytes (refused.Flow program trail) = IsFaultySourceBy bytes program trail
HasCause bytes (refused.Limit limit) =
    IsUnread bytes (refused.Limit limit) ⊎ IsPastRanges bytes limit ⊎ IsPastLimit bytes limit
HasCause bytes refused.NoMemory = Unit {0}

-- this refusal, unless memory runs out
abbrev pub IsRefusedBy : {T : Type 0} → Refused → Result T Refused → Type 0
IsRefusedBy refusal result = (result ≡ Err refusal) ⊎ (result ≡ Err refused.NoMemory)

-- the refusal of this program by a trail, unless memory runs out
abbrev pub IsRefusedByTrail : {T : Type 0} → Program → Result T Refused → Type 0
IsRefusedByTrail program result = ((trail : Trail) × (result ≡ Err (refused.Flow program trail)))
    ⊎ (result ≡ Err refused.NoMemory)

-- the text of some program that was restructured
abbrev pub IsResultText : List ℕ → Type 0
IsResultText bytes = (source : List ℕ) × (done : Done) × IsRestructured source done
    × (done.text ≡ bytes)

-- the answer has this text, unless memory runs out
abbrev pub IsDoneWith : List ℕ → Result Done Refused → Type 0
IsDoneWith text result =
    ((done : Done) × (result ≡ Ok done) × (done.text ≡ text)) ⊎ (result ≡ Err refused.NoMemory)
