-- A small grammar that uses each way to make a form, so that their laws are proved at it.
use Rattle.std.specs.Prelude.{◌≡◌, ℕ, zero, suc, ◌-◌, Bool, true, ◌||◌, codes, List, [], ◌∷◌, ◌++◌, Option, Some, None, Result, Ok, Err, position}
use Rattle.std.specs.Str.{bytes_eq}
use Rattle.cob_base.specs.Bytes.{hyphen, left_parenthesis, right_parenthesis, digit_0}
use Rattle.cobol_lex.specs.declared.token.Token.{Token}
use Rattle.cobol_lex.specs.declared.token.TokenKind.{TokenKind}
use Rattle.cobol_lex.specs.declared.token.TokenKind.TheVariants.{Digits}
use Rattle.parser_combinators.specs.declared.note.Note.{Note}
use Rattle.parser_combinators.specs.declared.note.Position.{Position}
use Rattle.parser_combinators.specs.declared.note.NameKind.TheVariants.{Unknown}
use Rattle.parser_combinators.specs.declared.why.Why.TheVariants.{Parens, Nesting}
use Rattle.parser_combinators.specs.declared.example.Step.{Step}
use Rattle.parser_combinators.specs.declared.example.Step.TheVariants as steps
use Rattle.parser_combinators.specs.declared.example.Fault.{Fault}
use Rattle.parser_combinators.specs.declared.example.Fault.TheVariants as faults
use Rattle.parser_combinators.specs.Reading.{Stops, AllSpell, start, fault_line}
use Rattle.parser_combinators.specs.Form.{Form, pure, note, one, ◌>>=◌, ◌>>◌, ◌<$>◌, loop, where_next, many, some}
use Rattle.parser_combinators.specs.Part.{key, mark, period, maybe, word, ended, is_key, is_mark, too_deep}

-- how many parentheses may be open at once
abbrev pub max_parens : ℕ
max_parens = 2

-- how many REPEATs may be in one another
abbrev pub max_nesting : ℕ
max_nesting = 2

-- ---- sum = term { "-" term }, grouped to the left      term = digit | "(" sum ")"

-- the minus sign
abbrev pub minus : ℕ
minus = hyphen

-- the left parenthesis
abbrev pub opening : ℕ
opening = left_parenthesis

-- the right parenthesis
abbrev pub closing : ℕ
closing = right_parenthesis

-- the digit that a token is
abbrev pub digit_of : TokenKind → Option ℕ
digit_of (Digits (b ∷ [])) = Some (b - digit_0)
digit_of _ = None

-- one digit
abbrev pub digit : Form ℕ
digit = one (λ position kind. digit_of kind)

-- a term, by what is in parentheses: digit | "(" sum ")"
abbrev pub term_with : Form ℕ → Form ℕ
term_with inner = where_next (is_mark opening) inner digit

-- what follows a minus sign, taken from a value; less than nothing is nothing
abbrev pub less : Form ℕ → ℕ → Form ℕ
less term left = do
  mark minus
  right ← term
  pure (left - right)

-- a sum, by what a term is: term { "-" term }
abbrev pub sum_with : Form ℕ → Form ℕ
sum_with term = term >>= loop (is_mark minus) (less term)

-- a sum in parentheses, by what is in parentheses one level down
abbrev pub in_parens_with : Form ℕ → Form ℕ
in_parens_with inner = do
  mark opening
  value ← sum_with (term_with inner)
  mark closing
  pure value

-- a sum in parentheses, with so many levels left
unfoldable pub inner : ℕ → Form ℕ
inner zero = too_deep Parens (is_mark opening)
inner (suc n) = in_parens_with (inner n)

-- a term, with so many levels left
abbrev pub term : ℕ → Form ℕ
term levels = term_with (inner levels)

-- a sum, with so many levels left
abbrev pub sum : ℕ → Form ℕ
sum levels = sum_with (term levels)

-- a sum in parentheses, with so many levels left below it
abbrev pub in_parens : ℕ → Form ℕ
in_parens levels = in_parens_with (inner levels)

-- ---- order = SHOW sum+ | GO [TO] name | REPEAT order+ [END-REPEAT],
-- ---- as a list of steps after those before

-- a token with which a sum begins
abbrev pub begins_sum : TokenKind → Bool
begins_sum (Digits text) = true
begins_sum kind = is_mark opening kind

-- sums, one at least: sum {sum}
abbrev pub sum_list : Form (List ℕ)
sum_list = some begins_sum (sum max_parens)

-- what the grammar itself has no need of: any number of sums, and a sum as a step
abbrev pub any_sums : ℕ → Form (List ℕ)
any_sums levels = many begins_sum (sum levels)

-- a sum as a step that shows it
abbrev pub shown : ℕ → Form Step
shown levels = (λ value. steps.Show (value ∷ [])) <$> sum levels

-- an order to show: SHOW sum {sum}
unfoldable pub show : List Step → Form (List Step)
show before = do
  key (codes "SHOW")
  values ← sum_list
  pure (before ++ steps.Show values ∷ [])

-- a name without an index is unknown
abbrev pub fault_at : Option ℕ → Position → Option Note
fault_at None position = Some (record { kind = Unknown; position = position })
fault_at (Some index) position = None

-- the index, or 0 where the name is unknown
abbrev pub index_or_0 : Option ℕ → ℕ
index_or_0 None = 0
index_or_0 (Some index) = index

-- the index of a name, or 0 and a fault
abbrev pub name_at : Option ℕ → Position → Form ℕ
name_at index position = note (fault_at index position) >> pure (index_or_0 index)

-- the index of a known name, or 0 and a fault
unfoldable pub name : List (List ℕ) → Form ℕ
name known = do
  found ← word
  name_at (position (bytes_eq found.0) known) found.1

-- an order to go: GO [TO] name
unfoldable pub go : List (List ℕ) → List Step → Form (List Step)
go known before = do
  key (codes "GO")
  maybe (codes "TO")
  index ← name known
  pure (before ++ steps.Go index ∷ [])

-- SHOW, GO or REPEAT
abbrev pub begins_order : TokenKind → Bool
begins_order kind =
    is_key (codes "SHOW") kind || (is_key (codes "GO") kind || is_key (codes "REPEAT") kind)

-- the steps before, and the form that goes on from them
abbrev pub Steps : Type 1
Steps = List Step → Form (List Step)

-- one order, by what REPEAT is
abbrev pub order_with : (known : List (List ℕ)) → (repeat : Steps) → Steps
order_with known repeat before =
    where_next (is_key (codes "SHOW")) (show before)
    (where_next (is_key (codes "REPEAT")) (repeat before) (go known before))

-- orders, one at least, by what REPEAT is
abbrev pub orders_with : (known : List (List ℕ)) → (repeat : Steps) → Steps
orders_with known repeat before =
    order_with known repeat before >>= loop begins_order (order_with known repeat)

-- an order to repeat, by what REPEAT is one level down
abbrev pub repeated_with : (known : List (List ℕ)) → (repeat : Steps) → Steps
repeated_with known repeat before = do
  key (codes "REPEAT")
  body ← orders_with known repeat (before ++ steps.Repeat ∷ [])
  maybe (codes "END-REPEAT")
  pure (body ++ steps.End ∷ [])

-- an order to repeat, with so many levels left
unfoldable pub repeat : List (List ℕ) → ℕ → List Step → Form (List Step)
repeat known zero before = too_deep Nesting (is_key (codes "REPEAT"))
repeat known (suc n) before = repeated_with known (repeat known n) before

-- one order with so many levels left
abbrev pub order : List (List ℕ) → ℕ → List Step → Form (List Step)
order known levels = order_with known (repeat known levels)

-- orders, one at least, with so many levels left
abbrev pub orders : List (List ℕ) → ℕ → List Step → Form (List Step)
orders known levels = orders_with known (repeat known levels)

-- an order to repeat, with so many levels left below it
abbrev pub repeated : List (List ℕ) → ℕ → List Step → Form (List Step)
repeated known levels = repeated_with known (repeat known levels)

-- ---- text = order+ .

-- a whole text: order {order} .
unfoldable pub text : List (List ℕ) → Form (List Step)
text known = do
  found ← orders known max_nesting []
  period
  ended
  pure found

-- ---- what its parser answers

-- the steps, or the first name fault, unless memory ran out
abbrev pub Gives : Result (List Step) Fault → (spelled : List Step) → Option Note → Type 0
Gives (Ok found) spelled fault = (found ≡ spelled) × (fault ≡ None)
Gives (Err (faults.Name noted)) spelled fault = fault ≡ Some noted
Gives (Err (faults.Stop why line)) spelled fault = ⊥
Gives (Err faults.NoMemory) spelled fault = Unit {0}

-- the fault says where and why the tokens stop being the text, or is their first name fault
abbrev pub IsFault : List (List ℕ) → List Token → Fault → Type 0
IsFault known tokens (faults.Stop why line) =
    (rest : List Token)
    × Stops (text known) (start tokens) why rest × (line ≡ fault_line tokens rest)
IsFault known tokens (faults.Name noted) =
    (spelled : List Step) × AllSpell (text known) tokens spelled (Some noted)
IsFault known tokens faults.NoMemory = Unit {0}
