-- Places, operands and expressions as tokens.
use Rattle.std.specs.Prelude.{ℕ, Bool, true, false, List, [], ◌∷◌, ◌++◌, map, Option, Some, None, slice_get, codes, if◌then◌else◌}
use Rattle.std.specs.Str.{bytes_eq}
use Rattle.cob_base.specs.Bytes.{asterisk, plus_sign, hyphen, slash, colon}
use Rattle.cob_tree.specs.declared.entry.Entry.{Entry}
use Rattle.cob_tree.specs.declared.program.Program.{Program}
use Rattle.cob_tree.specs.declared.place.Figure.{Figure}
use Rattle.cob_tree.specs.declared.place.Figure.TheVariants as figure
use Rattle.cob_tree.specs.declared.place.Op.{Op}
use Rattle.cob_tree.specs.declared.place.Op.TheVariants as op
use Rattle.cob_tree.specs.declared.number.Number.{Number}
use Rattle.cob_tree.specs.declared.place.Expr.{Expr, fold-Expr}
use Rattle.cob_tree.specs.declared.place.Operand.{Operand, fold-Operand}
use Rattle.cob_tree.specs.declared.place.Place.{Place, fold-Place}
use Rattle.cob_tree.specs.declared.place.Sub.{Sub, fold-Sub}
use Rattle.cob_tree.specs.declared.place.Window.{Window, fold-Window}
use Rattle.cob_tree.specs.declared.place.Expr.TheOpen.{Expr-F, Operand-F, Place-F, Sub-F, Window-F}
use Rattle.cobol_lex.specs.declared.token.TokenKind.TheVariants as kind
use Rattle.unparser.specs.Token.{Tokens, joined, number_token, in_parentheses, enclosed}

-- ---- names

-- the name of an entry; FILLER where it has none
abbrev pub entry_name : Option Entry → List ℕ
entry_name None = codes "FILLER"
entry_name (Some entry) = elim entry.name [ None ↦ codes "FILLER" | Some name ↦ name ]

-- the name of the item with this number; FILLER where it has none
abbrev pub item_name : Program → ℕ → List ℕ
item_name program number = entry_name (slice_get program.entries number)

-- the names of a qualification
abbrev pub of_tokens : List (List ℕ) → Tokens
of_tokens [] = []
of_tokens (name ∷ names) = kind.Word (codes "OF") ∷ kind.Word name ∷ of_tokens names

-- ---- what each part gives to those above it

-- the number that a subscript adds to an item's value; 0 isn't printed
abbrev pub plus_tokens : Number → Tokens
plus_tokens number =
    if number.negative then kind.Mark hyphen ∷ kind.Digits number.digits ∷ []
    else if bytes_eq number.digits (codes "0") then []
    else kind.Mark plus_sign ∷ kind.Digits number.digits ∷ []

-- one level of a place or expression, in which each part is its tokens; those of an expression
-- depend on whether it is within another one
abbrev pub Layer : (Type 0 → Type 0 → Type 0 → Type 0 → Type 0 → Type 0) → Type 0
Layer F = F (Bool → Tokens) Tokens Tokens Tokens Tokens

-- the mark of an operator
abbrev pub op_mark : Op → ℕ
op_mark op.Add = plus_sign
op_mark op.Sub = hyphen
op_mark op.Mul = asterisk
op_mark op.Div = slash

-- the tokens of one level of an expression; one with an operator or a sign is in parentheses within
-- another one
abbrev pub expr_step : Layer Expr-F → (within : Bool) → Tokens
expr_step (Expr-F.Leaf operand) within = operand
expr_step (Expr-F.Minus expr) within = enclosed within (kind.Mark hyphen ∷ expr true)
expr_step (Expr-F.Both op left right) within =
    enclosed within (left true ++ kind.Mark (op_mark op) ∷ right true)

-- the word of a figurative constant
abbrev pub figure_word : Figure → List ℕ
figure_word figure.Zero = codes "ZERO"
figure_word figure.Space = codes "SPACE"
figure_word figure.HighValue = codes "HIGH-VALUE"
figure_word figure.LowValue = codes "LOW-VALUE"
figure_word figure.Quote = codes "QUOTE"

-- one level of an operand
abbrev pub operand_step : Layer Operand-F → Tokens
operand_step (Operand-F.Place place) = place
operand_step (Operand-F.Number number) = number_token number ∷ []
operand_step (Operand-F.Text bytes) = kind.Literal bytes ∷ []
operand_step (Operand-F.Figure figure) = kind.Word (figure_word figure) ∷ []

-- a number alone, or what is added to an item's value
abbrev pub based_on : Option Tokens → Number → Tokens
based_on None number = kind.Digits number.digits ∷ []
based_on (Some base) number = base ++ plus_tokens number

-- one level of a subscript
abbrev pub sub_step : Layer Sub-F → Tokens
sub_step sub = based_on sub.base sub.plus

-- the subscripts in parentheses, if there are any
abbrev pub subs_tokens : List Tokens → Tokens
subs_tokens [] = []
subs_tokens (sub ∷ subs) = in_parentheses (joined (sub ∷ subs))

-- the length of a window, if it is given
abbrev pub length_tokens : Option (Bool → Tokens) → Tokens
length_tokens None = []
length_tokens (Some length) = length false

-- one level of a window
abbrev pub window_step : Layer Window-F → Tokens
window_step window =
    in_parentheses (window.from false ++ kind.Mark colon ∷ length_tokens window.«length»)

-- the window, if there is one
abbrev pub window_tokens_of : Option Tokens → Tokens
window_tokens_of None = []
window_tokens_of (Some window) = window

-- a place: its name, what qualifies it, its subscripts and its window
abbrev pub place_step : Program → Layer Place-F → Tokens
place_step program place =
    kind.Word (item_name program place.item) ∷ of_tokens place.of ++ subs_tokens place.subs
    ++ window_tokens_of place.window

-- ---- whole places and expressions

-- a place
abbrev pub place_tokens : Program → Place → Tokens
place_tokens program =
    fold-Place (Bool → Tokens) Tokens Tokens Tokens Tokens expr_step operand_step
    (place_step program) sub_step window_step

-- a subscript
abbrev pub sub_tokens : Program → Sub → Tokens
sub_tokens program =
    fold-Sub (Bool → Tokens) Tokens Tokens Tokens Tokens expr_step operand_step
    (place_step program) sub_step window_step

-- a window
abbrev pub window_tokens : Program → Window → Tokens
window_tokens program =
    fold-Window (Bool → Tokens) Tokens Tokens Tokens Tokens expr_step operand_step
    (place_step program) sub_step window_step

-- an operand
abbrev pub operand_tokens : Program → Operand → Tokens
operand_tokens program =
    fold-Operand (Bool → Tokens) Tokens Tokens Tokens Tokens expr_step operand_step
    (place_step program) sub_step window_step

-- an expression, within another one or not
abbrev pub expr_tokens : Program → Expr → (within : Bool) → Tokens
expr_tokens program =
    fold-Expr (Bool → Tokens) Tokens Tokens Tokens Tokens expr_step operand_step
    (place_step program) sub_step window_step

-- the tokens of these operands
abbrev pub operands_tokens : Program → List Operand → Tokens
operands_tokens program operands = joined (map (operand_tokens program) operands)
