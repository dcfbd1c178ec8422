-- What holds on both branches of a choice.
pub mod BranchLemmas
-- A text that is read on by one byte, or at its end; a symbol that is taken several times.
pub mod ReadingLemmas
-- What a mask has that no fault is found in.
pub mod MaskLemmas
-- A number that is cut, and its digits.
pub mod FieldLemmas
-- The bytes, one symbol on.
pub mod EditedLemmas
-- How many digits there are behind one symbol more.
pub mod CountLemmas
-- What one symbol more does to the sign, the string and the stage.
pub mod StepLemmas
-- What holds up to the last symbol of a mask.
pub mod ComeLemmas
-- What one symbol more does to what a light pen knows, and that it shows what a pen shows.
pub mod LightSteps
pub mod LightPenLemmas
-- The laws.
pub mod SymbolsHaveBytes
pub mod NumbersAreReadBack
pub mod OnlyNegativesAreMarked
pub mod BeginningsGoOn
pub mod MasksAreWrittenOut
pub mod NegativesAreMarked
pub mod PrintedMasksAreRead
pub mod PrintedMasksAreShort
-- A mask shows the same in capitals.
pub mod CapitalLemmas
-- How a mask is held: written out, short and in capitals.
pub mod HeldMasks
