-- Room for one more piece in each tree that ends in a choice.
use Rattle.std.specs.Prelude.{◌≡◌, ◌&&◌, Bool, true, List, [], ◌∷◌, nat_lt}
use Rattle.std.specs.VecDeque.{deque_len, deque_capacity}
use Rattle.branch_tree.specs.declared.tree.Tree.{Tree, fold-Tree}
use Rattle.branch_tree.specs.declared.tree.End.{End, fold-End}
use Rattle.branch_tree.specs.declared.tree.End.TheOpen.{Tree-F, End-F, Piece-F}

-- each of these holds
abbrev pub all_true : List Bool → Bool
all_true [] = true
all_true (first ∷ others) = first && all_true others

-- whether there is room at an end, where it is known whether there is room before it
abbrev pub end_room_step : End-F (Bool → Bool) Bool Bool → Bool → Bool
end_room_step (End-F.Pick by arms) room = room && all_true arms
end_room_step (End-F.Jump to) room = true
end_room_step End-F.Return room = true
end_room_step End-F.Stop room = true
end_room_step End-F.Dead room = true

-- within a piece no room is asked for
abbrev pub piece_room_step : Piece-F (Bool → Bool) Bool Bool → Bool
piece_room_step piece = true

-- whether there is room in a tree: that at its end, where it is known whether the body has room
abbrev pub tree_room_step : Tree-F (Bool → Bool) Bool Bool → Bool
tree_room_step t = t.end (nat_lt (deque_len t.body) (deque_capacity t.body))

-- the tree has such room
abbrev pub has_room : Tree → Bool
has_room = fold-Tree (Bool → Bool) Bool Bool end_room_step piece_room_step tree_room_step

-- the end has such room, where it is known whether there is room before it
abbrev pub end_has_room : End → Bool → Bool
end_has_room = fold-End (Bool → Bool) Bool Bool end_room_step piece_room_step tree_room_step

-- the tree, where it ends in a choice, has room, and so have all trees within the choice
abbrev pub HasRoom : Tree → Type 0
HasRoom t = has_room t ≡ true
