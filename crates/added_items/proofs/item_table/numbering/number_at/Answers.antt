use Rattle.std.proofs.Common.{◌≡◌, map, ap, sym, ◌∙◌, arith}
use Rattle.std.proofs.lemmas.List.{length-map}
use Rattle.branch_tree.specs.Graph.{seen_added}
use Rattle.added_items.specs.item_table.Owners.{owner_of}
use Rattle.added_items.specs.item_table.Tables.{or_zero}
use Rattle.added_items.proofs.item_table_lemmas.HoldingLemmas.{number-found}
use Rattle.added_items.proofs.item_table_lemmas.RowLemmas.{holder-within}
use Rattle.added_items.proofs.item_table.numbering.number_at.Goals as goal

pub index-requires : goal.index-requires
index-requires c =
    let n = c.args.numbering.now in
    let size = length-map n.kinds seen_added in
    let held = holder-within (map seen_added n.kinds) c.args.place (omega (arith, size, c.requires.within)) in
    let is : c.owner_of-held.result ≡ owner_of (map seen_added n.kinds) c.args.place =
    c.owner_of-held.ensures ∙ ap (λ ks. owner_of (map seen_added ks) c.args.place) c.as_slice.ensures in
    omega (arith, held, size, is, c.requires.whole.size, n.holding.numbers.ok.0)

pub returns-in-Some : goal.returns-in-Some
returns-in-Some c =
    let n = c.args.numbering.now in
    let size = length-map n.kinds seen_added in
    let held = holder-within (map seen_added n.kinds) c.args.place (omega (arith, size, c.requires.within)) in
    let is : c.owner_of-held.result ≡ owner_of (map seen_added n.kinds) c.args.place =
    c.owner_of-held.ensures ∙ ap (λ ks. owner_of (map seen_added ks) c.args.place) c.as_slice.ensures in
    ap or_zero (sym c.in-Some.is)
    ∙ number-found n.holding.held n.holding.numbers.items c.owner_of-held.result (owner_of (map seen_added n.kinds) c.args.place) c.index.result.now
    c.requires.whole.held (omega (arith, held, size, c.requires.whole.size)) is c.index.ensures

pub returns-in-None : goal.returns-in-None
returns-in-None c =
    let n = c.args.numbering.now in
    let size = length-map n.kinds seen_added in
    let held = holder-within (map seen_added n.kinds) c.args.place (omega (arith, size, c.requires.within)) in
    let is : c.owner_of-held.result ≡ owner_of (map seen_added n.kinds) c.args.place =
    c.owner_of-held.ensures ∙ ap (λ ks. owner_of (map seen_added ks) c.args.place) c.as_slice.ensures in
    ap or_zero (sym c.in-None.is)
    ∙ number-found n.holding.held n.holding.numbers.items c.owner_of-held.result (owner_of (map seen_added n.kinds) c.args.place) c.index.result.now
    c.requires.whole.held (omega (arith, held, size, c.requires.whole.size)) is c.index.ensures
