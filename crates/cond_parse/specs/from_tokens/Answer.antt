-- What is answered for a condition or an expression that begins at a place in a list of tokens.
use Rattle.std.specs.Prelude.{◌≡◌, ℕ, ◌-◌, Bool, true, false, ◌⊎◌, List, Option, Some, None, Result, Ok, Err}
use Rattle.cob_tree.specs.declared.cond.Cond.{Cond}
use Rattle.cob_tree.specs.declared.fault.NameFault.{NameFault}
use Rattle.cob_tree.specs.declared.fault.ParseError.{ParseError}
use Rattle.cob_tree.specs.declared.fault.ParseError.TheVariants as errors
use Rattle.cobol_lex.specs.declared.token.Token.{Token}
use Rattle.parser_combinators.specs.declared.note.Note.{Note}
use Rattle.parser_combinators.specs.declared.why.Why.{Why}
use Rattle.parser_combinators.specs.Form.{Form, Input}
use Rattle.parser_combinators.specs.Reading.{Stops, start_at, fault_line}
use Rattle.parser_combinators.specs.faults.Fault.{stop_error, name_fault}
use Rattle.cobol_grammar.specs.declared.expr_forms.side.Side.{Side}
use Rattle.cobol_grammar.specs.expr_forms.Side.{expr_of}
use Rattle.cond_parse.specs.declared.from_tokens.answer.CondPart.{CondPart}
use Rattle.cond_parse.specs.declared.from_tokens.answer.ExprPart.{ExprPart}

-- ---- faults

-- the name fault that was noted, with its line
abbrev pub noted_fault : Option Note → Option NameFault
noted_fault None = None
noted_fault (Some note) = Some (name_fault note.kind note.position.line)

-- memory ran out, or the tokens from there on stop being the form where and why the fault says
abbrev pub IsFault : {A : Type 0} → Form A → List Token → (from : ℕ) → ParseError → Type 0
IsFault form tokens from fault =
    (fault ≡ errors.NoMemory)
    ⊎ ((why : Why) × (rest : List Token) × Stops form (start_at from tokens) why rest
    × (fault ≡ stop_error why (fault_line tokens rest)))

-- ---- parts

-- a NOT that was read and isn't the condition's own follows it
abbrev pub unread : Bool → ℕ
unread true = 1
unread false = 0

-- what was found is this condition, up to this input
abbrev pub IsCond : CondPart → Cond × Bool → Input → Type 0
IsCond found part behind =
    (found.cond ≡ part.0) × (found.next ≡ behind.taken - unread part.1)
    × (found.fault ≡ noted_fault behind.fault)

-- what was found is this expression, up to this input
abbrev pub IsExpr : ExprPart → Side → Input → Type 0
IsExpr found side behind =
    (found.expr ≡ expr_of side.what) × (found.next ≡ behind.taken)
    × (found.fault ≡ noted_fault behind.fault)

-- the tokens from there on spell it, up to `next`
abbrev pub Spelled : {A Found : Type 0} → Form A → List Token → (from : ℕ) →
    (Found → A → Input → Type 0) → Found → Type 0
Spelled {A = A} form tokens from Is found =
    (a : A) × (behind : Input) × form.spells (start_at from tokens) a behind × Is found a behind

-- what is spelled is answered, unless memory ran out
abbrev pub Gives : {A Found : Type 0} → (Found → A → Input → Type 0) →
    Result Found ParseError → A → Input → Type 0
Gives Is (Ok found) a behind = Is found a behind
Gives Is (Err fault) a behind = fault ≡ errors.NoMemory

-- the one answer where the tokens stop being the form, unless memory ran out
abbrev pub Refuses : {Found : Type 0} → Result Found ParseError → (cause : ParseError) → Type 0
Refuses (Ok found) cause = ⊥
Refuses (Err fault) cause = (fault ≡ errors.NoMemory) ⊎ (fault ≡ cause)
