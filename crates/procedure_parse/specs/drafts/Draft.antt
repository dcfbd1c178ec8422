-- The statement that a draft is of.
use Rattle.cob_tree.specs.declared.stmt.Stmt.{Stmt}
use Rattle.cob_tree.specs.declared.stmt.Stmt.TheVariants as stmts
use Rattle.procedure_parse.specs.declared.drafts.made.DraftParts.{DraftParts}
use Rattle.procedure_parse.specs.declared.drafts.made.DraftParts.TheVariants as drafts

-- the statement of a draft
abbrev pub stmt_of : DraftParts → Stmt
stmt_of (drafts.Arith calc into arms) = stmts.Arith calc into arms
stmt_of (drafts.Read file into arms) = stmts.Read file into arms
stmt_of (drafts.If cond first second) = stmts.If cond first second
stmt_of (drafts.Evaluate subject whens other) = stmts.Evaluate subject whens other
stmt_of (drafts.Loop control body) = stmts.Loop control body
stmt_of drafts.NextSentence = stmts.NextSentence
stmt_of (drafts.Whole stmt) = stmt
