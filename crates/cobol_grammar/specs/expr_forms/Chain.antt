-- Sums as far as they are read.
use Rattle.std.specs.Prelude.{Bool, true, false, ◌&&◌, Option, Some, None}
use Rattle.cob_tree.specs.declared.place.Expr.TheVariants as exprs
use Rattle.cob_tree.specs.declared.place.Op.{Op}
use Rattle.cob_tree.specs.declared.place.Op.TheVariants as ops
use Rattle.cobol_grammar.specs.declared.expr_forms.side.ExprContent.TheVariants as makes
use Rattle.cobol_grammar.specs.declared.expr_forms.side.Side.{Side}
use Rattle.cobol_grammar.specs.declared.expr_forms.side.ValueKind.TheVariants as kinds
use Rattle.cobol_grammar.specs.declared.expr_forms.side.ParsedExpr.TheVariants as whats
use Rattle.cobol_grammar.specs.declared.expr_forms.chain.PendingTerm.{PendingTerm}
use Rattle.cobol_grammar.specs.declared.expr_forms.chain.Chain.{Chain}
use Rattle.cobol_grammar.specs.expr_forms.Fault.{is_whole}
use Rattle.cobol_grammar.specs.expr_forms.Side.{expr_of}

-- one operand, and no operator yet
abbrev pub chain_of : Side → Chain
chain_of side = record { before = None; last = side }

-- the term before and its operator joined to the last term
abbrev pub finished : Option PendingTerm → Side → Side
finished None last = last
finished (Some b) last = record {
  what = whats.Sum (exprs.Both b.op b.left (expr_of last.what));
  kind = kinds.Number (b.whole && is_whole last.kind);
  make = makes.Joined;
  position = b.position;
  leaf = b.position;
}

-- a sum as far as it was read, as one side
unfoldable pub finish : Chain → Side
finish chain = finished chain.before chain.last

-- a term that waits for the next one, with its operator
abbrev pub opened : Op → Side → PendingTerm
opened op side = record {
  left = expr_of side.what;
  op = op;
  position = side.position;
  whole = is_whole side.kind;
}

-- the product or quotient of two sides
abbrev pub multiplied : Op → Bool → Side → Side → Side
multiplied op exact left right = record {
  what = whats.Sum (exprs.Both op (expr_of left.what) (expr_of right.what));
  kind = kinds.Number (exact && (is_whole left.kind && is_whole right.kind));
  make = makes.Joined;
  position = left.position;
  leaf = left.position;
}

-- one more term or factor
unfoldable pub joined : Op → Chain → Side → Chain
joined ops.Add chain right = record { before = Some (opened ops.Add (finish chain)); last = right }
joined ops.Sub chain right = record { before = Some (opened ops.Sub (finish chain)); last = right }
joined ops.Mul chain right = record {
  before = chain.before;
  last = multiplied ops.Mul true chain.last right;
}
joined ops.Div chain right = record {
  before = chain.before;
  last = multiplied ops.Div false chain.last right;
}
