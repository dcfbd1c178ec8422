-- References and expressions: their laws, and their limit of parentheses.
pub mod ExpressionLaws
pub mod ExpressionLevels
