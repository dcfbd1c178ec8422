-- How long the bytes are that are read, or refused.
use Rattle.std.proofs.Common.{◌≡◌, ℕ, ◌<◌, ◌≤◌, ◌⊎◌, List, length, refl, ap, inl, inr}
use Rattle.std.specs.Prelude.{◌≢◌}
use Rattle.cob_base.specs.declared.limit.Limit.{Limit}
use Rattle.cob_base.specs.declared.limit.LimitKind.{LimitKind}
use Rattle.cob_base.specs.declared.limit.LimitKind.TheVariants as limits
use Rattle.cob_tree.specs.declared.program.Program.{Program}
use Rattle.cob_tree.specs.declared.fault.ParseFault.{ParseFault}
use Rattle.cob_tree.specs.declared.fault.ParseFault.TheVariants as parse
use Rattle.cobol_lex.specs.declared.token.Token.{Token}
use Rattle.cobol_read.specs.declared.refusal.ReadRefusal.{ReadRefusal}
use Rattle.cobol_read.specs.declared.refusal.ReadRefusal.TheVariants as read
use Rattle.cobol_read.specs.declared.refusal.ReadFault.{ReadFault}
use Rattle.cobol_read.specs.declared.refusal.ReadFault.TheVariants as faults
use Rattle.cob_base.specs.Limit.{max_source}
use Rattle.cobol_read.specs.Limit.{past_source}
use Rattle.cobol_read.specs.Reading.{Reads, HasSyntax, HasTokens, HasText, HasWords, IsPast, IsParseFault, HasFault, HasCause}

module _ (bytes : List ℕ) where
  abbrev Short : Type 0
  Short = length bytes ≤ max_source

  short-text : {text : _} → HasText bytes text → Short
  short-text h = h.within

  short-tokens : (tokens : List Token) → HasTokens bytes tokens → Short
  short-tokens tokens h = h.has_text.within

  short-words : (tokens : List Token) → HasWords bytes tokens → Short
  short-words tokens h = short-tokens tokens h.has_few.has_tokens

  short-syntax : (program : Program) {fault : _} → HasSyntax bytes program fault → Short
  short-syntax program h = short-words h.tokens h.has_words

  -- bytes that are read are within the limit on the source
  pub short-read : (program : Program) → Reads bytes program → Short
  short-read program h = short-syntax program h.has_room.has_syntax

  short-parse : (fault : ParseFault) → IsParseFault bytes fault → Short
  short-parse (parse.Syntax line) h = short-words h.0 h.2
  short-parse (parse.Name fault) h = short-syntax h.0 h.2

  -- bytes past the limit on the source are refused for it
  abbrev Long : ReadRefusal → Type 0
  Long why = (why ≡ read.Limit past_source) × (max_source < length bytes)

  past-either : (kind : LimitKind) (limit : Limit) → IsPast bytes kind limit → Short ⊎ Long (read.Limit limit)
  past-either limits.Source limit h = inr (ap read.Limit h.1, h.0)
  past-either limits.Tokens limit h = inl (short-tokens h.0 h.1)
  past-either limits.Terms limit h = inl (short-words h.0.1.0 h.0.1.2)
  past-either limits.Parens limit h = inl (short-words h.0.1.0 h.0.1.2)
  past-either limits.Nesting limit h = inl (short-words h.0.1.0 h.0.1.2)
  past-either limits.Storage limit h = inl (short-syntax h.0 h.1)
  past-either limits.Paragraphs limit h = inl (short-syntax h.0 h.1.has_syntax)
  past-either limits.Ranges limit h = absurd h
  past-either limits.Nodes limit h = absurd h
  past-either limits.Bytes limit h = absurd h

  short-fault : (fault : ReadFault) → HasFault bytes fault → Short
  short-fault (faults.Format fault) h = h.0
  short-fault (faults.Lex fault) h = short-text h.1
  short-fault (faults.LeftOut word line) h = short-tokens h.0 h.1.has_tokens
  short-fault (faults.Power line) h = short-tokens h.0 h.1.has_tokens
  short-fault (faults.Parse fault) h = short-parse fault h

  pub short-either : (why : ReadRefusal) → why ≢ read.NoMemory → HasCause bytes why → Short ⊎ Long why
  short-either (read.Fault fault) some h = inl (short-fault fault h)
  short-either (read.Limit limit) some h = past-either limit.kind limit h
  short-either read.NoMemory some h = absurd (some refl)
