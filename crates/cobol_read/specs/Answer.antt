-- What a source is read to: the first refusal, in the order of these steps, or the program.
use Rattle.std.specs.Prelude.{ℕ, ◌≡◌, ◌≢◌, nat_le, false, List, length, Option, Some, None, Result, Ok, Err, if◌then◌else◌}
use Rattle.cob_base.specs.declared.limit.Limit.{Limit}
use Rattle.cob_base.specs.declared.limit.LimitKind.TheVariants as limits
use Rattle.cob_tree.specs.declared.fault.ParseFault.TheVariants as faults
use Rattle.cob_tree.specs.declared.program.Program.{Program}
use Rattle.ref_format.specs.declared.fault.FormatError.{FormatError}
use Rattle.ref_format.specs.declared.fault.FormatError.TheVariants as format
use Rattle.ref_format.specs.declared.placed.Placed.{Placed}
use Rattle.ref_format.specs.Joining.{program_text}
use Rattle.cobol_lex.specs.declared.fault.LexError.{LexError}
use Rattle.cobol_lex.specs.declared.fault.LexError.TheVariants as lex
use Rattle.cobol_lex.specs.declared.token.Token.{Token}
use Rattle.cobol_lex.specs.Token.{tokens_of}
use Rattle.parser_combinators.specs.declared.note.Note.{Note}
use Rattle.parser_combinators.specs.declared.why.Why.{Why}
use Rattle.parser_combinators.specs.declared.why.Why.TheVariants as whys
use Rattle.parser_combinators.specs.declared.why.Unread.{Unread}
use Rattle.parser_combinators.specs.declared.why.Unread.TheVariants as unread
use Rattle.parser_combinators.specs.Form.{Outcome, Got, Stop}
use Rattle.parser_combinators.specs.Reading.{start, fault_line}
use Rattle.cob_store.specs.sizes.Storage.{storage_limit, storage_of}
use Rattle.parser_combinators.specs.faults.Fault.{name_fault, passed_by_one}
use Rattle.cobol_read.specs.declared.program.Declarations.{Declarations}
use Rattle.cobol_read.specs.declared.program.ProgramDraft.{ProgramDraft}
use Rattle.cobol_read.specs.declared.refusal.ReadRefusal.{ReadRefusal}
use Rattle.cobol_read.specs.declared.refusal.ReadRefusal.TheVariants as refusals
use Rattle.cobol_read.specs.declared.refusal.ReadFault.{ReadFault}
use Rattle.cobol_read.specs.declared.refusal.ReadFault.TheVariants as read
use Rattle.cobol_read.specs.LeftOut.{first_left_out}
use Rattle.cob_base.specs.Limit.{max_source, max_tokens, max_paragraphs}
use Rattle.cobol_read.specs.Limit.{past_source, past_tokens, past_paragraphs}
use Rattle.cobol_read.specs.Program.{declarations_of, fault_in, program, program_of}

-- a program, or why none is read
abbrev pub Answer : Type 0
Answer = Result Program ReadRefusal

-- a step of reading: what is meant is the rest of what the step gives, or else its refusal
abbrev pub Leads : {A : Type 0} → (meant : Answer) → (rest : A → Answer) →
    Result A ReadRefusal → Type 0
Leads meant rest (Ok given) = meant ≡ rest given
Leads meant rest (Err refusal) = refusal ≢ refusals.NoMemory → meant ≡ Err refusal

-- ---- after the syntax

-- the program, if it has no more paragraphs than their limit
abbrev pub with_few_paragraphs : Program → Answer
with_few_paragraphs found =
    if nat_le (length found.paragraphs) max_paragraphs then Ok found
    else Err (refusals.Limit (past_paragraphs (length found.paragraphs)))

-- the program, if its items are within the limit of storage
abbrev pub within_storage : Option Limit → Program → Answer
within_storage (Some limit) found = Err (refusals.Limit limit)
within_storage None found = with_few_paragraphs found

-- the refusal for a fault of a name
abbrev pub name_refusal : Note → ReadRefusal
name_refusal note =
    refusals.Fault (read.Parse (faults.Name (name_fault note.kind note.position.line)))

-- the program, if no name has a fault
abbrev pub named : Option Note → Program → Answer
named (Some note) found = Err (name_refusal note)
named None found = within_storage (storage_limit false (storage_of found.entries)) found

-- ---- the syntax

-- the refusal for tokens that stop being a program at this line
abbrev pub stop_refusal : Why → (line : ℕ) → ReadRefusal
stop_refusal whys.Syntax line = refusals.Fault (read.Parse (faults.Syntax line))
stop_refusal whys.Terms line = refusals.Limit (passed_by_one limits.Terms)
stop_refusal whys.Parens line = refusals.Limit (passed_by_one limits.Parens)
stop_refusal whys.Nesting line = refusals.Limit (passed_by_one limits.Nesting)

-- being out of memory is reported as that
abbrev pub unread_refusal : Unread → (line : ℕ) → ReadRefusal
unread_refusal (unread.Stop why) line = stop_refusal why line
unread_refusal unread.NoMemory line = refusals.NoMemory

-- the program that the tokens were read to, or why they stop being one
abbrev pub parsed : List Token → Declarations → Outcome ProgramDraft → Answer
parsed tokens known (Stop why rest) = Err (stop_refusal why (fault_line tokens rest))
parsed tokens known (Got draft behind) =
    named (fault_in known behind.fault) (program_of known draft)

-- ---- before it

-- the program of these tokens, if none of them is a word that is left out
abbrev pub worded : Option ReadFault → List Token → Answer
worded (Some fault) tokens = Err (refusals.Fault fault)
worded None tokens =
    parsed tokens (declarations_of tokens) ((program (declarations_of tokens)).reads (start tokens))

-- the program of these tokens, if they are no more than their limit
abbrev pub with_few_tokens : List Token → Answer
with_few_tokens tokens =
    if nat_le (length tokens) max_tokens then worded (first_left_out tokens) tokens
    else Err (refusals.Limit (past_tokens (length tokens)))

-- the refusal for a text without tokens
abbrev pub lex_refusal : LexError → ReadRefusal
lex_refusal (lex.Fault fault) = refusals.Fault (read.Lex fault)
lex_refusal lex.NoMemory = refusals.NoMemory

-- the refusal for a source that isn't in the format
abbrev pub format_refusal : FormatError → ReadRefusal
format_refusal (format.Fault fault) = refusals.Fault (read.Format fault)
format_refusal format.NoMemory = refusals.NoMemory

-- the program of a text, if it has tokens
abbrev pub lexed : Result (List Token) LexError → Answer
lexed (Ok tokens) = with_few_tokens tokens
lexed (Err error) = Err (lex_refusal error)

-- the program of a source, if it is in the format
abbrev pub formatted : Result (List Placed) FormatError → Answer
formatted (Ok text) = lexed (tokens_of text)
formatted (Err error) = Err (format_refusal error)

-- what these bytes are read to
abbrev pub answer_of : List ℕ → Answer
answer_of bytes =
    if nat_le (length bytes) max_source then formatted (program_text bytes)
    else Err (refusals.Limit past_source)
