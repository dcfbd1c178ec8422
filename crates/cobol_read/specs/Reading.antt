-- Which bytes are which program, and the cause of each refusal.
use Rattle.std.specs.Prelude.{ℕ, ◌≡◌, ◌<◌, ◌≤◌, ◌⊎◌, false, List, length, Option, Some, None, Result, Ok, Err}
use Rattle.cob_base.specs.declared.limit.Limit.{Limit}
use Rattle.cob_base.specs.declared.limit.LimitKind.{LimitKind}
use Rattle.cob_base.specs.declared.limit.LimitKind.TheVariants as limits
use Rattle.cob_tree.specs.declared.fault.NameFault.{NameFault}
use Rattle.cob_tree.specs.declared.fault.ParseFault.{ParseFault}
use Rattle.cob_tree.specs.declared.fault.ParseFault.TheVariants as faults
use Rattle.cob_tree.specs.declared.program.Program.{Program}
use Rattle.ref_format.specs.declared.fault.FormatError.TheVariants as format
use Rattle.ref_format.specs.declared.placed.Placed.{Placed}
use Rattle.ref_format.specs.Joining.{program_text}
use Rattle.cobol_lex.specs.declared.fault.LexError.TheVariants as lex
use Rattle.cobol_lex.specs.declared.token.Token.{Token}
use Rattle.cobol_lex.specs.Token.{tokens_of}
use Rattle.parser_combinators.specs.declared.note.Note.{Note}
use Rattle.parser_combinators.specs.declared.why.Why.{Why}
use Rattle.parser_combinators.specs.declared.why.Why.TheVariants as whys
use Rattle.parser_combinators.specs.Reading.{AllSpell, Stops, start, fault_line}
use Rattle.cob_store.specs.sizes.Storage.{storage_limit, storage_of}
use Rattle.parser_combinators.specs.faults.Fault.{name_fault, passed_by_one}
use Rattle.cobol_read.specs.declared.program.ProgramDraft.{ProgramDraft}
use Rattle.cobol_read.specs.declared.refusal.ReadRefusal.{ReadRefusal}
use Rattle.cobol_read.specs.declared.refusal.ReadRefusal.TheVariants as refusals
use Rattle.cobol_read.specs.declared.refusal.ReadFault.{ReadFault}
use Rattle.cobol_read.specs.declared.refusal.ReadFault.TheVariants as read
use Rattle.cobol_read.specs.LeftOut.{first_left_out}
use Rattle.cob_base.specs.Limit.{max_source, max_tokens, max_paragraphs}
use Rattle.cobol_read.specs.Limit.{past_source, past_tokens, past_paragraphs}
use Rattle.cobol_read.specs.Program.{declarations_of, fault_in, program, program_of}

-- ---- the steps of reading, each after those before

-- a source that is no longer than its limit, in the format
pub record HasText (bytes : List ℕ) (text : List Placed) : Type 0 where
  pub within : length bytes ≤ max_source
  pub formatted : program_text bytes ≡ Ok text

-- a source in the format, whose text has these tokens
pub record HasTokens (bytes : List ℕ) (tokens : List Token) : Type 0 where
  pub text : List Placed
  pub has_text : HasText bytes text
  pub lexed : tokens_of text ≡ Ok tokens

-- no more tokens than their limit
pub record HasFewTokens (bytes : List ℕ) (tokens : List Token) : Type 0 where
  pub has_tokens : HasTokens bytes tokens
  pub few : length tokens ≤ max_tokens

-- a source within its limits so far, with no word that is left out
pub record HasWords (bytes : List ℕ) (tokens : List Token) : Type 0 where
  pub has_few : HasFewTokens bytes tokens
  pub none_left_out : first_left_out tokens ≡ None

-- all tokens spell a program over what they declare, and this is its first name fault
pub record HasSyntax (bytes : List ℕ) (found : Program) (fault : Option Note) : Type 0 where
  pub tokens : List Token
  pub has_words : HasWords bytes tokens
  pub draft : ProgramDraft
  -- the first name fault that was noted
  pub noted : Option Note
  -- all tokens spell this draft
  pub spelled : AllSpell (program (declarations_of tokens)) tokens draft noted
  -- the program is made of it
  pub is : found ≡ program_of (declarations_of tokens) draft
  -- the fault is the first of those of the draft and of what is declared
  pub fault_is : fault ≡ fault_in (declarations_of tokens) noted

-- a program that is read so far, whose items are within the limit of storage
pub record HasRoom (bytes : List ℕ) (found : Program) : Type 0 where
  pub has_syntax : HasSyntax bytes found None
  pub stored : storage_limit false (storage_of found.entries) ≡ None

-- the bytes are this program, within all limits of reading
pub record Reads (bytes : List ℕ) (found : Program) : Type 0 where
  pub has_room : HasRoom bytes found
  pub few : length found.paragraphs ≤ max_paragraphs

-- ---- the causes of refusals

-- the tokens stop being a program at the first token up to which they aren't cut, and why
abbrev pub StopsAt : List ℕ → Why → (line : ℕ) → Type 0
StopsAt bytes why line =
    (tokens : List Token) × (rest : List Token) × HasWords bytes tokens
    × Stops (program (declarations_of tokens)) (start tokens) why rest
    × (line ≡ fault_line tokens rest)

-- the tokens stop at a place where this limit is passed by one
abbrev pub PassesOne : List ℕ → Why → LimitKind → Limit → Type 0
PassesOne bytes why kind limit =
    ((line : ℕ) × StopsAt bytes why line) × (limit ≡ passed_by_one kind)

-- the source is longer than its limit
abbrev pub IsTooLong : List ℕ → Limit → Type 0
IsTooLong bytes limit = (max_source < length bytes) × (limit ≡ past_source)

-- there are more tokens than their limit
abbrev pub HasManyTokens : List ℕ → Limit → Type 0
HasManyTokens bytes limit =
    (tokens : List Token) × HasTokens bytes tokens × (max_tokens < length tokens)
    × (limit ≡ past_tokens (length tokens))

-- a program without a fault whose items are past the limit of storage
abbrev pub IsPastStorage : List ℕ → Limit → Type 0
IsPastStorage bytes limit =
    (found : Program) × HasSyntax bytes found None
    × (storage_limit false (storage_of found.entries) ≡ Some limit)

-- a program within the limit of storage that has more paragraphs than their limit
abbrev pub HasManyParagraphs : List ℕ → Limit → Type 0
HasManyParagraphs bytes limit =
    (found : Program) × HasRoom bytes found × (max_paragraphs < length found.paragraphs)
    × (limit ≡ past_paragraphs (length found.paragraphs))

-- a limit that is passed, by its kind
abbrev pub IsPast : List ℕ → LimitKind → Limit → Type 0
IsPast bytes limits.Source limit = IsTooLong bytes limit
IsPast bytes limits.Tokens limit = HasManyTokens bytes limit
IsPast bytes limits.Terms limit = PassesOne bytes whys.Terms limits.Terms limit
IsPast bytes limits.Parens limit = PassesOne bytes whys.Parens limits.Parens limit
IsPast bytes limits.Nesting limit = PassesOne bytes whys.Nesting limits.Nesting limit
IsPast bytes limits.Storage limit = IsPastStorage bytes limit
IsPast bytes limits.Paragraphs limit = HasManyParagraphs bytes limit
IsPast bytes _ limit = ⊥

-- the first word that is left out gives this fault
abbrev pub HasLeftOut : List ℕ → ReadFault → Type 0
HasLeftOut bytes fault =
    (tokens : List Token) × HasFewTokens bytes tokens × (first_left_out tokens ≡ Some fault)

-- a fault of a name, in a program without a fault of syntax
abbrev pub HasNameFault : List ℕ → NameFault → Type 0
HasNameFault bytes fault =
    (found : Program) × (note : Note) × HasSyntax bytes found (Some note)
    × (fault ≡ name_fault note.kind note.position.line)

-- the cause of each fault of the syntax or of a name
abbrev pub IsParseFault : List ℕ → ParseFault → Type 0
IsParseFault bytes (faults.Syntax line) = StopsAt bytes whys.Syntax line
IsParseFault bytes (faults.Name fault) = HasNameFault bytes fault

-- the cause of each fault
abbrev pub HasFault : List ℕ → ReadFault → Type 0
HasFault bytes (read.Format fault) =
    (length bytes ≤ max_source) × (program_text bytes ≡ Err (format.Fault fault))
HasFault bytes (read.Lex fault) =
    (text : List Placed) × HasText bytes text × (tokens_of text ≡ Err (lex.Fault fault))
HasFault bytes (read.LeftOut word line) = HasLeftOut bytes (read.LeftOut word line)
HasFault bytes (read.Power line) = HasLeftOut bytes (read.Power line)
HasFault bytes (read.Parse fault) = IsParseFault bytes fault

-- the cause of each refusal; memory may run out at any place
abbrev pub HasCause : List ℕ → ReadRefusal → Type 0
HasCause bytes (refusals.Fault fault) = HasFault bytes fault
HasCause bytes (refusals.Limit limit) = IsPast bytes limit.kind limit
HasCause bytes refusals.NoMemory = Unit {0}

-- this answer, unless memory runs out
abbrev pub IsAnswered : Result Program ReadRefusal → Result Program ReadRefusal → Type 0
IsAnswered answer result = (result ≡ answer) ⊎ (result ≡ Err refusals.NoMemory)
