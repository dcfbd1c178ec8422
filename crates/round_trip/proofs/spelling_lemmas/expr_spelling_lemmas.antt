-- Places, operands and expressions by what they are made of.
pub mod Layers
-- What of the tokens stands first, and tests of what stands behind.
pub mod Tests
-- What spells names, literals and places.
pub mod Places
-- What spells expressions.
pub mod Exprs
-- What spells windows.
pub mod Windows
-- What spells windows and subscripts behind a name.
pub mod Fronts
-- What spells subscripts.
pub mod Subs
-- What spells all of them, by levels of parentheses, and as statements have them.
pub mod Levels
-- What a reference stands for where it is printed.
pub mod Named
-- An operand ends the place before it.
pub mod Ends
