-- A device fault that is told is one of a device.
use Rattle.std.proofs.Common.{◌≡◌, ◌∙◌, Bool, true, false, sym, ap, subst, refl, ℕ, List, Option, Some, Ok, Err, ◌⊎◌, inl, inr}
use Rattle.cob_base.specs.Source.{SourceCall}
use Rattle.cob_base.specs.Sink.{SinkCall}
use Rattle.cob_tree.specs.declared.program.Program.{Program}
use Rattle.cobol_run.specs.declared.machine.Ending.TheVariants as ending
use Rattle.cobol_run.specs.declared.running.Ran.{Ran}
use Rattle.cobol_run.specs.declared.running.Ran.TheVariants as ran
use Rattle.restructure_core.specs.declared.fault.Refused.{Refused}
use Rattle.restructure_core.specs.declared.fault.Refused.TheVariants as refused
use Rattle.cobol_read.specs.declared.refusal.ReadRefusal.{ReadRefusal}
use Rattle.cobol_read.specs.declared.refusal.ReadRefusal.TheVariants as rd
use Rattle.restructure_core.specs.run.Answers.{Came, CameFalls}
use Rattle.restructure_core.specs.run.Bench.{BenchCall}
use Rattle.restructure_asks.specs.declared.ask.Ask.{Ask}
use Rattle.restructure_asks.specs.declared.refusal.Refusal.{Refusal}
use Rattle.restructure_asks.specs.declared.refusal.Refusal.TheVariants as refusal
use Rattle.restructure_asks.specs.declared.status.Status.{Status}
use Rattle.restructure_asks.specs.declared.status.Status.TheVariants as status
use Rattle.restructure_asks.specs.declared.texts.Texts.{Texts}
use Rattle.restructure_asks.specs.Refusal.{line_of, refused_status, status_of}
use Rattle.restructure_asks.specs.Running.{IsDeviceTold, TellsCame, refusal_of, refusal_of_run, unread}
use Rattle.restructure_asks.specs.Tool.{EndsOfText}
use Rattle.cob_base.specs.giving.Giving.{Takes}
use Rattle.restructure_asks.specs.Writing.{Notes, Writes}

-- whether the refusal tells of a device that failed
abbrev pub is_of_device : Refusal → Bool
is_of_device (refusal.Device name) = true
is_of_device (refusal.SecondDevice name) = true
is_of_device _ = false

-- its status tells whether it does
refused_never : (why : Refused) → refused_status why ≡ status.DeviceFault → ⊥
refused_never (refused.NotSubset why) e = let x : status.NotSubset ≡ status.DeviceFault = e in cc
refused_never (refused.Flow program trail) e = let x : status.Flow ≡ status.DeviceFault = e in cc
refused_never (refused.Limit limit) e = let x : status.Limit ≡ status.DeviceFault = e in cc
refused_never refused.NoMemory e = let x : status.NoMemory ≡ status.DeviceFault = e in cc

status_never : (r : Refusal) → is_of_device r ≡ false → status_of r ≡ status.DeviceFault → ⊥
status_never refusal.Usage other e = let x : status.Usage ≡ status.DeviceFault = e in cc
status_never (refusal.Refused why) other e = refused_never why e
status_never (refusal.Fault program fault) other e = let x : status.Flow ≡ status.DeviceFault = e in cc
status_never (refusal.Abend abend) other e = let x : status.Abend ≡ status.DeviceFault = e in cc
status_never (refusal.Budget most) other e = let x : status.Budget ≡ status.DeviceFault = e in cc
status_never (refusal.Device name) other e = let x : true ≡ false = other in cc
status_never refusal.NoSecond other e = let x : status.NotSubset ≡ status.DeviceFault = e in cc
status_never (refusal.Second why) other e = refused_never why e
status_never (refusal.SecondDevice name) other e = let x : true ≡ false = other in cc
status_never (refusal.Differ number) other e = let x : status.Differ ≡ status.DeviceFault = e in cc
status_never refusal.ReadFault other e = let x : status.ReadFault ≡ status.DeviceFault = e in cc
status_never refusal.WriteFault other e = let x : status.WriteFault ≡ status.DeviceFault = e in cc
status_never refusal.NoMemory other e = let x : status.NoMemory ≡ status.DeviceFault = e in cc

-- at this status the line of the refusal went to the notes
pub noted_line : (r : Refusal) (notes : SinkCall) (answer : Status) → answer ≡ status.DeviceFault → Notes r notes answer → Takes (line_of r) notes
noted_line r notes answer is (inl h) = h.1
noted_line r notes answer is (inr h) = absurd (let x : status.NoMemory ≡ status.DeviceFault = sym h.0 ∙ is in cc)

-- and it is that of a device
pub noted_never : (r : Refusal) (notes : SinkCall) (answer : Status) → is_of_device r ≡ false → Notes r notes answer → answer ≡ status.DeviceFault → ⊥
noted_never r notes answer other (inl h) is = status_never r other (sym h.0 ∙ is)
noted_never r notes answer other (inr h) is = let x : status.NoMemory ≡ status.DeviceFault = sym h.0 ∙ is in cc

-- a source that isn't read tells of none
unread_never : (why : ReadRefusal) (notes : SinkCall) (answer : Status) → TellsCame (Some (unread why)) notes answer → answer ≡ status.DeviceFault → ⊥
unread_never (rd.Fault fault) notes answer h is = noted_never (unread (rd.Fault fault)) notes answer refl h is
unread_never (rd.Limit limit) notes answer h is = noted_never (unread (rd.Limit limit)) notes answer refl h is
unread_never rd.NoMemory notes answer h is = noted_never refusal.NoMemory notes answer refl h is

ran_told : (steps : ℕ) (program : Program) (one : Ran) (notes : SinkCall) (answer : Status) (bench : BenchCall) → TellsCame (refusal_of_run steps program one) notes answer → CameFalls (Ok (record { program = program; ran = one })) bench → answer ≡ status.DeviceFault → IsDeviceTold notes bench
ran_told steps program (ran.DeviceFault name) notes answer bench tells falls is =
    record { name = name; fell = falls; noted = noted_line (refusal.Device name) notes answer is tells }
ran_told steps program (ran.Ended ending.Stopped) notes answer bench tells falls is =
    absurd (let x : status.Done ≡ status.DeviceFault = sym tells.0 ∙ is in cc)
ran_told steps program (ran.Ended (ending.Abended abend)) notes answer bench tells falls is =
    absurd (noted_never (refusal.Abend abend) notes answer refl tells is)
ran_told steps program (ran.Ended (ending.Faulted fault)) notes answer bench tells falls is =
    absurd (noted_never (refusal.Fault program fault) notes answer refl tells is)
ran_told steps program ran.Budget notes answer bench tells falls is =
    absurd (noted_never (refusal.Budget steps) notes answer refl tells is)
ran_told steps program ran.WriteFault notes answer bench tells falls is =
    absurd (let x : status.WriteFault ≡ status.DeviceFault = sym tells.0 ∙ is in cc)
ran_told steps program ran.NoMemory notes answer bench tells falls is =
    absurd (noted_never refusal.NoMemory notes answer refl tells is)

pub device_told : (steps : ℕ) (c : Came) (notes : SinkCall) (answer : Status) (bench : BenchCall) → TellsCame (refusal_of steps c) notes answer → CameFalls c bench → answer ≡ status.DeviceFault → IsDeviceTold notes bench
device_told steps (Ok run) notes answer bench tells falls is = ran_told steps run.program run.ran notes answer bench tells falls is
device_told steps (Err why) notes answer bench tells falls is = absurd (unread_never why notes answer tells is)

-- other asks tell of none

pub text_never : (ask : Option Ask) (source : SourceCall) (out notes : SinkCall) (answer : Status) → EndsOfText ask source out notes answer → answer ≡ status.DeviceFault → ⊥
text_never ask source out notes answer h is = subst (λ s. EndsOfText ask source out notes s) is h

pub written_never : (texts : Texts) (out notes : SinkCall) (answer : Status) → Writes texts out notes answer → answer ≡ status.DeviceFault → ⊥
written_never texts out notes answer h is = subst (λ s. Writes texts out notes s) is h

pub unrun_never : (r : Refusal) (notes : SinkCall) (answer : Status) → (r ≡ refusal.ReadFault) ⊎ (r ≡ refusal.NoMemory) → Notes r notes answer → answer ≡ status.DeviceFault → ⊥
unrun_never r notes answer (inl which) h is = noted_never r notes answer (ap is_of_device which) h is
unrun_never r notes answer (inr which) h is = noted_never r notes answer (ap is_of_device which) h is
