-- What parts that pass a test spell: what is asked for that use.
use Rattle.std.specs.Prelude.{ℕ, ◌≡◌, true, Some, None}
use Rattle.cob_tree.specs.declared.cond.Cond.{Cond}
use Rattle.cob_tree.specs.declared.place.Expr.{Expr}
use Rattle.cob_tree.specs.declared.place.Operand.{Operand}
use Rattle.cob_tree.specs.declared.place.Operand.TheVariants as operands
use Rattle.cob_tree.specs.declared.place.Place.{Place}
use Rattle.cob_tree.specs.declared.program.Program.{Program}
use Rattle.cobol_grammar.specs.stmt_forms.Part.{Parts}
use Rattle.round_trip.specs.spelling.stmt_spelling.Part.{Kept, SpellsPlace, SpellsValue, SpellsNumber, SpellsNumberPlace, MovesTo, SpellsExpr, Without, WithoutExpr, SpellsCond, SpellsFile, SpellsRecord, SpellsEntry, SpellsRange}
use Rattle.round_trip.specs.spelling.stmt_spelling.Stmt.{Whole, CountsTurns}
use Rattle.round_trip.specs.fitting_statements.Fits.{Fits}

module _ {Side Known : Type 0} (parts : Parts Side Known) (kept : Kept Side) (program : Program)
    (fits : Fits) where
  -- each part that passes a test spells what is asked for that use
  pub record FitsSpell : Type 0 where
    -- an operand as a value
    pub value : (operand : Operand) → fits.value operand ≡ true →
        SpellsValue parts kept program operand
    -- an operand that arithmetic reads
    pub number : (operand : Operand) → fits.number operand ≡ true →
        SpellsNumber parts kept program operand
    -- an operand that counts by a whole number
    pub whole : (operand : Operand) → fits.whole operand ≡ true →
        Whole parts kept program operand
    -- a count before statements that are done so often
    pub turns : (operand : Operand) → fits.turns operand ≡ true →
        CountsTurns parts kept program operand
    -- a place that takes a value
    pub receives : (place : Place) → fits.receives place ≡ true →
        SpellsPlace parts kept program place
        × Without parts kept program parts.value_fault (operands.Place place)
    -- a place that arithmetic reads and changes
    pub number_place : (place : Place) → fits.number_place place ≡ true →
        SpellsNumberPlace parts kept program place
    -- a place that arithmetic only sets
    pub result_place : (place : Place) → fits.result_place place ≡ true →
        SpellsPlace parts kept program place
        × Without parts kept program parts.result_fault (operands.Place place)
    -- a place that chooses a jump
    pub whole_place : (place : Place) → fits.whole_place place ≡ true →
        SpellsPlace parts kept program place
        × Without parts kept program parts.whole_fault (operands.Place place)
    -- a name of level 88 that is SET
    pub condition_place : (place : Place) → fits.condition_place place ≡ true →
        SpellsPlace parts kept program place
        × Without parts kept program parts.condition_fault (operands.Place place)
    -- a value with the place that takes it
    pub moves : (from : Operand) (place : Place) → fits.moves from place ≡ true →
        MovesTo parts kept program from (operands.Place place)
    -- the place of INTO, for records of this file
    pub into : (file : ℕ) (place : Place) → fits.into file place ≡ true →
        Without parts kept program (parts.into_fault (Some file)) (operands.Place place)
    -- an expression as a value
    pub expr_value : (expr : Expr) → fits.expr_value expr ≡ true →
        SpellsExpr parts kept program expr
        × WithoutExpr parts kept program parts.value_fault expr
    -- an expression that arithmetic works out
    pub expr_number : (expr : Expr) → fits.expr_number expr ≡ true →
        SpellsExpr parts kept program expr
        × WithoutExpr parts kept program parts.number_fault expr
    -- a subject of EVALUATE with what it is compared with
    pub compares : (subject expr : Expr) → fits.compares subject expr ≡ true →
        (side other : Side) → kept.expr subject side → kept.expr expr other →
        parts.subject_fault (parts.known_of side) other ≡ None
    pub cond : (cond : Cond) → fits.cond cond ≡ true → SpellsCond parts kept program cond
    pub file : (file : ℕ) → fits.file file ≡ true → SpellsFile parts kept program file
    -- a record that is written
    pub entry_record : (entry : ℕ) → fits.entry_record entry ≡ true →
        SpellsRecord parts kept program entry
    -- a record with what it is written from
    pub writes : (entry : ℕ) (from : Operand) → fits.writes entry from ≡ true →
        (side other : Side) → kept.operand from side → kept.entry entry other →
        parts.move_fault side other ≡ None
    -- a paragraph to go to
    pub label : (to : ℕ) → fits.label to ≡ true → SpellsEntry parts kept program to
    -- an entry and an exit that are performed
    pub range : (entry exit : ℕ) → fits.range entry exit ≡ true →
        SpellsRange parts kept program entry exit
