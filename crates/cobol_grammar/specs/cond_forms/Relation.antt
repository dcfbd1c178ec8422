-- rel = [NOT] (= | EQUAL [TO] | > | GREATER [THAN] | < | LESS [THAN]) | >= | <=
--   | GREATER [THAN] OR EQUAL [TO] | LESS [THAN] OR EQUAL [TO]
use Rattle.std.specs.Prelude.{ℕ, Bool, true, false, codes, List}
use Rattle.cob_tree.specs.declared.cond.Rel.{Rel}
use Rattle.cob_tree.specs.declared.cond.Rel.TheVariants as rels
use Rattle.parser_combinators.specs.Form.{Form, pure, one, ◌>>◌, ◌<$>◌, where_next}
use Rattle.parser_combinators.specs.Part.{key, maybe, is_key}
use Rattle.cobol_grammar.specs.cond_forms.Token.{rel_of}

-- the relation that holds just where this one doesn't
abbrev pub opposite : Rel → Rel
opposite rels.Equal = rels.NotEqual
opposite rels.NotEqual = rels.Equal
opposite rels.Less = rels.GreaterEqual
opposite rels.Greater = rels.LessEqual
opposite rels.LessEqual = rels.Greater
opposite rels.GreaterEqual = rels.Less

-- the relation, or its opposite after NOT
abbrev pub signed : Bool → Rel → Rel
signed true rel = opposite rel
signed false rel = rel

-- OR EQUAL after GREATER or LESS, if it is there; it doesn't follow NOT
unfoldable pub or_equal : Bool → Rel → Rel → Form Rel
or_equal true narrow wide = pure (opposite narrow)
or_equal false narrow wide =
    where_next (is_key (codes "OR")) (key (codes "OR") >> (key (codes "EQUAL") >> (maybe
    (codes "TO") >> pure wide))) (pure narrow)

-- equality in words: EQUAL [TO]
unfoldable pub equal : Bool → Form Rel
equal negated = key (codes "EQUAL") >> (maybe (codes "TO") >> pure (signed negated rels.Equal))

-- an order in words: (GREATER | LESS) [THAN] [OR EQUAL [TO]]
unfoldable pub ordered : List ℕ → Bool → Rel → Rel → Form Rel
ordered word negated narrow wide =
    key word >> (maybe (codes "THAN") >> or_equal negated narrow wide)

-- a relation sign of one token
unfoldable pub sign_rel : Bool → Form Rel
sign_rel negated = signed negated <$> one (λ position kind. rel_of kind)

-- a relation that is neither EQUAL nor GREATER
unfoldable pub other_rel : Bool → Form Rel
other_rel negated =
    where_next (is_key (codes "LESS")) (ordered (codes "LESS") negated rels.Less rels.LessEqual)
    (sign_rel negated)

-- a relation sign, after NOT or not
unfoldable pub rel : Bool → Form Rel
rel negated =
    where_next (is_key (codes "EQUAL")) (equal negated)
    (where_next (is_key (codes "GREATER")) (ordered
    (codes "GREATER") negated rels.Greater rels.GreaterEqual) (other_rel negated))
