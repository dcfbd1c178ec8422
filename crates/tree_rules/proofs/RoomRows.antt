-- Room, tree by tree.
use Rattle.std.proofs.Common.{◌≡◌, ◌<◌, ℕ, zero, suc, ◌&&◌, Bool, true, false, List, [], ◌∷◌, ◌++◌, map, length, take, drop, get_or, refl, ap, sym, ◌∙◌, arith}
use Rattle.std.proofs.lemmas.Bool.{ltb-true, lt-ltb}
use Rattle.std.proofs.Math.Seq.{take-append_seam}
use Rattle.std.specs.Prelude.{All, nat_lt}
use Rattle.std.specs.VecDeque.{deque_len, deque_capacity}
use Rattle.branch_tree.specs.declared.chooser.Picker.{Picker}
use Rattle.branch_tree.specs.declared.tree.Tree.{Tree, fold_out-Tree}
use Rattle.branch_tree.specs.declared.tree.End.{fold-roll-End}
use Rattle.branch_tree.specs.declared.tree.End.TheOpen.{End-F}
use Rattle.branch_tree.specs.declared.tree.End.TheVariants as end
use Rattle.tree_rules.specs.Rooms.{HasRoom, has_room, end_has_room, all_true, end_room_step, piece_room_step, tree_room_step}

abbrev body_room : Tree → Bool
body_room t = nat_lt (deque_len t.body) (deque_capacity t.body)

room_is : (t : Tree) → has_room t ≡ end_has_room t.end (body_room t)
room_is t = fold_out-Tree (Bool → Bool) Bool Bool end_room_step piece_room_step tree_room_step t

-- an end is seen so
pick_room : (by : Picker) (arms : List Tree) (room : Bool) →
    end_has_room (end.Pick by arms) room ≡ (room && all_true (map has_room arms))
pick_room by arms room =
    ap (λ e. end_has_room e room) (sym (end.rolls-Pick by arms))
    ∙ ap (λ f. f room)
    (fold-roll-End (Bool → Bool) Bool Bool end_room_step piece_room_step tree_room_step
    (End-F.Pick by arms))

jump_room : (to : ℕ) (room : Bool) → end_has_room (end.Jump to) room ≡ true
jump_room to room =
    ap (λ e. end_has_room e room) (sym (end.rolls-Jump to))
    ∙ ap (λ f. f room)
    (fold-roll-End (Bool → Bool) Bool Bool end_room_step piece_room_step tree_room_step
    (End-F.Jump to))

return_room : (room : Bool) → end_has_room end.Return room ≡ true
return_room room =
    ap (λ e. end_has_room e room) (sym end.rolls-Return)
    ∙ ap (λ f. f room)
    (fold-roll-End (Bool → Bool) Bool Bool end_room_step piece_room_step tree_room_step
    End-F.Return)

stop_room : (room : Bool) → end_has_room end.Stop room ≡ true
stop_room room =
    ap (λ e. end_has_room e room) (sym end.rolls-Stop)
    ∙ ap (λ f. f room)
    (fold-roll-End (Bool → Bool) Bool Bool end_room_step piece_room_step tree_room_step
    End-F.Stop)

dead_room : (room : Bool) → end_has_room end.Dead room ≡ true
dead_room room =
    ap (λ e. end_has_room e room) (sym end.rolls-Dead)
    ∙ ap (λ f. f room)
    (fold-roll-End (Bool → Bool) Bool Bool end_room_step piece_room_step tree_room_step
    End-F.Dead)

both_true : (one other : Bool) → (one && other) ≡ true → (one ≡ true) × (other ≡ true)
both_true true other h = (refl, h)
both_true false other h = let no : ⊥ = cc in absurd no

and_true : (one other : Bool) → one ≡ true → other ≡ true → (one && other) ≡ true
and_true one other h k = ap (λ z. z && other) h ∙ k

all_have : (arms : List Tree) → all_true (map has_room arms) ≡ true → (k : ℕ) (d : Tree) →
    k < length arms → HasRoom (get_or arms k d)
all_have [] h k d within = let no : ⊥ = omega (arith, within) in absurd no
all_have (first ∷ others) h zero d within =
    (both_true (has_room first) (all_true (map has_room others)) h).0
all_have (first ∷ others) h (suc k) d within =
    let both = both_true (has_room first) (all_true (map has_room others)) h in
    all_have others both.1 k d (omega (arith, within))

have_all : (arms : List Tree) → All HasRoom arms → all_true (map has_room arms) ≡ true
have_all [] h = refl
have_all (first ∷ others) h =
    and_true (has_room first) (all_true (map has_room others)) (h 0 first (omega arith))
    (have_all others (λ k d within. h (suc k) d (omega (arith, within))))

-- a tree with a choice, in which there is room
pub room_in_pick : (t : Tree) (by : Picker) (arms : List Tree) → t.end ≡ end.Pick by arms →
    HasRoom t → (deque_len t.body < deque_capacity t.body) × All HasRoom arms
room_in_pick t by arms is h =
    let both = both_true (body_room t) (all_true (map has_room arms))
    (sym (room_is t ∙ ap (λ e. end_has_room e (body_room t)) is ∙ pick_room by arms (body_room t)) ∙ h) in
    (ltb-true (deque_len t.body) (deque_capacity t.body) both.0, all_have arms both.1)

pub room_by_pick : (t : Tree) (by : Picker) (arms : List Tree) → t.end ≡ end.Pick by arms →
    deque_len t.body < deque_capacity t.body → All HasRoom arms → HasRoom t
room_by_pick t by arms is h k =
    room_is t ∙ ap (λ e. end_has_room e (body_room t)) is ∙ pick_room by arms (body_room t)
    ∙ and_true (body_room t) (all_true (map has_room arms))
    (lt-ltb (deque_len t.body) (deque_capacity t.body) h) (have_all arms k)

-- a leaf needs none
pub room_by_jump : (t : Tree) (to : ℕ) → t.end ≡ end.Jump to → HasRoom t
room_by_jump t to is = room_is t ∙ ap (λ e. end_has_room e (body_room t)) is ∙ jump_room to (body_room t)

pub room_by_return : (t : Tree) → t.end ≡ end.Return → HasRoom t
room_by_return t is = room_is t ∙ ap (λ e. end_has_room e (body_room t)) is ∙ return_room (body_room t)

pub room_by_stop : (t : Tree) → t.end ≡ end.Stop → HasRoom t
room_by_stop t is = room_is t ∙ ap (λ e. end_has_room e (body_room t)) is ∙ stop_room (body_room t)

pub room_by_dead : (t : Tree) → t.end ≡ end.Dead → HasRoom t
room_by_dead t is = room_is t ∙ ap (λ e. end_has_room e (body_room t)) is ∙ dead_room (body_room t)

-- what a slice of a list is written back to
pub written_back : {A : Type 0} (new old all : List A) (len : ℕ) →
    all ≡ take len (new ++ drop (length new) old) → len ≡ length new → all ≡ new
written_back new old all len h e =
    h ∙ ap (λ n. take n (new ++ drop (length new) old)) e
    ∙ take-append_seam new (drop (length new) old)
