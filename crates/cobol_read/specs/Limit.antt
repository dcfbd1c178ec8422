-- The limits that are counted over the whole source, once they are passed. Those of one condition
-- or statement are in its forms.
use Rattle.std.specs.Prelude.{ℕ, ◌+◌, false}
use Rattle.cob_base.specs.Limit.{max_source, past}
use Rattle.cob_base.specs.declared.limit.Limit.{Limit}
use Rattle.cob_base.specs.declared.limit.LimitKind.TheVariants as limits

-- the limit of a source's bytes; counted is the limit and one more, however long the source is
abbrev pub past_source : Limit
past_source = past limits.Source false (max_source + 1)

-- the limit of tokens, which so many pass
abbrev pub past_tokens : (counted : ℕ) → Limit
past_tokens counted = past limits.Tokens false counted

-- the limit of paragraphs, which so many pass
abbrev pub past_paragraphs : (counted : ℕ) → Limit
past_paragraphs counted = past limits.Paragraphs false counted
