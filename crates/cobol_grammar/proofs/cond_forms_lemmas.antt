-- Conditions: their laws, and their limit of parentheses.
pub mod ConditionLaws
pub mod ConditionLevels
