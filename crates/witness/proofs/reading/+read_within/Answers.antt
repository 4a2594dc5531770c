use Rattle.std.proofs.Common.{◌≡◌, ◌∙◌, ◌-◌, ◌≤◌, ℕ, true, Option, Ok, Err, option_map, sym, ap, subst, arith}
use Rattle.std.proofs.lemmas.Result.{err_from_is_err_and}
use Rattle.format_spec.specs.Bytes.{Bytes}
use Rattle.tree_spec.specs.Tree.{Tree, labeled}
use Rattle.tree_spec.specs.Cbor.{tree_within, last_label}
use Rattle.hash_tree.specs.View.{tree_view}
use Rattle.byte_codec.specs.Gives.{Fails}
use Rattle.witness.proofs.Within.{no_room, head_stops, kind_stops, empty_read, left_stops, right_stops, fork_read, label_stops, below_stops, labeled_read, value_stops, leaf_read, hash_stops, pruned_read, last_of_fork}
use Rattle.witness.proofs.reading.+read_within.Goals as goal

pub returns-then-room-eq0-clause-value : goal.returns-then-room-eq0-clause-value
returns-then-room-eq0-clause-value t c =
    no_room c.args.room c.args.in_fork (option_map (λ s. s.now) c.args.last) c.args.reader.now c.if-room-eq0.true ∙ ap (λ (at : ℕ). Err at) (sym c.at.ensures)

pub returns-in_err-head-clause-value : goal.returns-in_err-head-clause-value
returns-in_err-head-clause-value t c =
    let p = err_from_is_err_and c.from_residual.result c.from_residual.ensures.1 in
    rw (p.1, p.2) (head_stops c.args.room c.args.in_fork (option_map (λ s. s.now) c.args.last) c.args.reader.now c.if-room-eq0.false c.in_err-head.field-0.0 c.in_err-head.ensures)

pub returns-in_err-read_kind-clause-value : goal.returns-in_err-read_kind-clause-value
returns-in_err-read_kind-clause-value t c =
    let p = err_from_is_err_and c.from_residual-in_err-read_kind.result c.from_residual-in_err-read_kind.ensures.1 in
    rw (p.1, p.2) (kind_stops c.args.room c.args.in_fork (option_map (λ s. s.now) c.args.last) c.args.reader.now c.if-room-eq0.false c.in_ok-head.head c.read_array_head.new.reader c.in_ok-head.ensures c.in_err-read_kind.field-0.0 c.in_err-read_kind.ensures)

pub returns-in_err-left-in-1-clause-value : goal.returns-in_err-left-in-1-clause-value
returns-in_err-left-in-1-clause-value t c =
    let p = err_from_is_err_and c.from_residual-in_err-left-in-1.result c.from_residual-in_err-left-in-1.ensures.1 in
    rw (p.1, p.2) (left_stops c.args.room c.args.in_fork (option_map (λ s. s.now) c.args.last)
    c.args.reader.now c.if-room-eq0.false c.in_ok-head.head c.read_array_head.new.reader c.in_ok-head.ensures c.in_ok-read_kind.field-0 c.read_kind.new.reader c.in_ok-read_kind.ensures c.in-1.is c.in_err-left-in-1.field-0.0 c.in_err-left-in-1.ensures.value)

pub returns-in_err-right-in-1-clause-value : goal.returns-in_err-right-in-1-clause-value
returns-in_err-right-in-1-clause-value t c =
    let p = err_from_is_err_and c.from_residual-in_err-right-in-1.result c.from_residual-in_err-right-in-1.ensures.1 in
    let e = c.in_err-right-in-1.field-0.0 in
    let h = subst (λ (l : Option Bytes). Fails e (tree_within (c.args.room - 1) true l c.read_within.new.reader)) c.in_ok-left-in-1.ensures.last c.in_err-right-in-1.ensures.value in
    rw (p.1, p.2) (right_stops c.args.room c.args.in_fork (option_map (λ s. s.now) c.args.last) c.args.reader.now c.if-room-eq0.false c.in_ok-head.head c.read_array_head.new.reader c.in_ok-head.ensures c.in_ok-read_kind.field-0 c.read_kind.new.reader c.in_ok-read_kind.ensures c.in-1.is
    (tree_view c.in_ok-left-in-1.left.tree) c.read_within.new.reader c.in_ok-left-in-1.ensures.value e h)

pub returns-in_err-label-in-2-clause-value : goal.returns-in_err-label-in-2-clause-value
returns-in_err-label-in-2-clause-value t c =
    let p = err_from_is_err_and c.from_residual-in_err-label-in-2.result c.from_residual-in_err-label-in-2.ensures.1 in
    rw (p.1, p.2) (label_stops c.args.room c.args.in_fork (option_map (λ s. s.now) c.args.last)
    c.args.reader.now c.if-room-eq0.false c.in_ok-head.head c.read_array_head.new.reader c.in_ok-head.ensures c.in_ok-read_kind.field-0 c.read_kind.new.reader c.in_ok-read_kind.ensures c.in-2.is c.in_err-label-in-2.field-0.0 c.in_err-label-in-2.ensures)

pub returns-in_err-below-in-2-clause-value : goal.returns-in_err-below-in-2-clause-value
returns-in_err-below-in-2-clause-value t c =
    let p = err_from_is_err_and c.from_residual-in_err-below-in-2.result c.from_residual-in_err-below-in-2.ensures.1 in
    rw (p.1, p.2) (below_stops c.args.room c.args.in_fork (option_map (λ s. s.now) c.args.last)
    c.args.reader.now c.if-room-eq0.false c.in_ok-head.head c.read_array_head.new.reader c.in_ok-head.ensures c.in_ok-read_kind.field-0 c.read_kind.new.reader
    c.in_ok-read_kind.ensures c.in-2.is c.in_ok-label-in-2.label.now c.read_label.new.reader c.in_ok-label-in-2.ensures c.in_err-below-in-2.field-0.0 c.in_err-below-in-2.ensures.value)

pub returns-in_err-read_value-in-3-clause-value : goal.returns-in_err-read_value-in-3-clause-value
returns-in_err-read_value-in-3-clause-value t c =
    let p = err_from_is_err_and c.from_residual-in_err-read_value-in-3.result c.from_residual-in_err-read_value-in-3.ensures.1 in
    rw (p.1, p.2) (value_stops c.args.room c.args.in_fork (option_map (λ s. s.now) c.args.last)
    c.args.reader.now c.if-room-eq0.false c.in_ok-head.head c.read_array_head.new.reader c.in_ok-head.ensures
    c.in_ok-read_kind.field-0 c.read_kind.new.reader c.in_ok-read_kind.ensures c.in-3.is c.in_err-read_value-in-3.field-0.0 c.in_err-read_value-in-3.ensures)

pub returns-in_err-read_hash-in_default-clause-value : goal.returns-in_err-read_hash-in_default-clause-value
returns-in_err-read_hash-in_default-clause-value t c =
    let p = err_from_is_err_and c.from_residual-in_err-read_hash-in_default.result c.from_residual-in_err-read_hash-in_default.ensures.1 in
    let more : 4 ≤ c.in_ok-read_kind.field-0 = omega arith in
    rw (p.1, p.2) (hash_stops c.args.room c.args.in_fork (option_map (λ s. s.now) c.args.last)
    c.args.reader.now c.if-room-eq0.false c.in_ok-head.head c.read_array_head.new.reader c.in_ok-head.ensures
    c.in_ok-read_kind.field-0 c.read_kind.new.reader c.in_ok-read_kind.ensures more c.in_err-read_hash-in_default.field-0.0 c.in_err-read_hash-in_default.ensures)

pub returns-in-0-clause-value : goal.returns-in-0-clause-value
returns-in-0-clause-value t c = empty_read c.args.room c.args.in_fork (option_map (λ s. s.now) c.args.last) c.args.reader.now c.if-room-eq0.false c.in_ok-head.head c.read_array_head.new.reader c.in_ok-head.ensures c.in_ok-read_kind.field-0 c.read_kind.new.reader c.in_ok-read_kind.ensures c.in-0.is

pub returns-in_ok-tree-in-1-clause-value : goal.returns-in_ok-tree-in-1-clause-value
returns-in_ok-tree-in-1-clause-value t c =
    let left = tree_view c.in_ok-left-in-1.left.tree in
    let right = tree_view c.in_ok-right-in-1.right.tree in
    let end = c.read_within-in-1.new.reader in
    let second = subst (λ (l : Option Bytes). tree_within (c.args.room - 1) true l c.read_within.new.reader ≡ Ok (right, end)) c.in_ok-left-in-1.ensures.last c.in_ok-right-in-1.ensures.value in
    fork_read c.args.room c.args.in_fork (option_map (λ s. s.now) c.args.last)
    c.args.reader.now c.if-room-eq0.false c.in_ok-head.head c.read_array_head.new.reader c.in_ok-head.ensures c.in_ok-read_kind.field-0 c.read_kind.new.reader c.in_ok-read_kind.ensures c.in-1.is left c.read_within.new.reader c.in_ok-left-in-1.ensures.value right end second
    ∙ ap (λ (x : Tree). Ok (x, end)) (sym c.in_ok-tree-in-1.ensures)

pub returns-in_ok-tree-in-1-clause-last : goal.returns-in_ok-tree-in-1-clause-last
returns-in_ok-tree-in-1-clause-last t c =
    let last = option_map (λ s. s.now) c.args.last in
    let left = tree_view c.in_ok-left-in-1.left.tree in
    let right = tree_view c.in_ok-right-in-1.right.tree in
    c.in_ok-right-in-1.ensures.last
    ∙ ap (λ (l : Option Bytes). last_label l right) c.in_ok-left-in-1.ensures.last
    ∙ sym (last_of_fork last left right)
    ∙ ap (last_label last) (sym c.in_ok-tree-in-1.ensures)

pub returns-in_ok-tree-in-2-clause-value : goal.returns-in_ok-tree-in-2-clause-value
returns-in_ok-tree-in-2-clause-value t c =
    let below = tree_view c.in_ok-below-in-2.below.tree in
    let end = c.read_within-in-2.new.reader in
    labeled_read c.args.room c.args.in_fork (option_map (λ s. s.now) c.args.last)
    c.args.reader.now c.if-room-eq0.false c.in_ok-head.head c.read_array_head.new.reader c.in_ok-head.ensures c.in_ok-read_kind.field-0
    c.read_kind.new.reader c.in_ok-read_kind.ensures c.in-2.is c.in_ok-label-in-2.label.now c.read_label.new.reader c.in_ok-label-in-2.ensures below end c.in_ok-below-in-2.ensures.value
    ∙ ap (λ (l : Bytes). Ok (labeled l below, end)) (sym c.in_ok-from_slice-in-2.ensures.value)
    ∙ ap (λ (x : Tree). Ok (x, end)) (sym c.in_ok-tree-in-2.ensures)

pub returns-in_ok-read_value-in-3-clause-value : goal.returns-in_ok-read_value-in-3-clause-value
returns-in_ok-read_value-in-3-clause-value t c =
    leaf_read c.args.room c.args.in_fork (option_map (λ s. s.now) c.args.last)
    c.args.reader.now c.if-room-eq0.false c.in_ok-head.head c.read_array_head.new.reader c.in_ok-head.ensures c.in_ok-read_kind.field-0
    c.read_kind.new.reader c.in_ok-read_kind.ensures c.in-3.is c.in_ok-read_value-in-3.field-0 c.read_value.new.reader c.in_ok-read_value-in-3.ensures

pub returns-in_ok-read_hash-in_default-clause-value : goal.returns-in_ok-read_hash-in_default-clause-value
returns-in_ok-read_hash-in_default-clause-value t c =
    let more : 4 ≤ c.in_ok-read_kind.field-0 = omega arith in
    pruned_read c.args.room c.args.in_fork (option_map (λ s. s.now) c.args.last)
    c.args.reader.now c.if-room-eq0.false c.in_ok-head.head c.read_array_head.new.reader c.in_ok-head.ensures c.in_ok-read_kind.field-0
    c.read_kind.new.reader c.in_ok-read_kind.ensures more c.in_ok-read_hash-in_default.field-0 c.read_hash.new.reader c.in_ok-read_hash-in_default.ensures
