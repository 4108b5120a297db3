use Rattle.std.proofs.Common.{◌≡◌, ◌+◌, ◌∙◌, drop, map, ap, sym, arith}
use Rattle.std.proofs.lemmas.List.{drop_more, drop_all}
use Rattle.wk_tables.specs.Edits.{edit_of}
use Rattle.wk_tables.specs.Room.{edit_room, room_for}
use Rattle.wk_tables.proofs.change.Change.room.Goals as goal

pub loop-edit-preserved : goal.loop-edit-preserved
loop-edit-preserved c =
    let edits = c.deref-edit-items.result.now in
    let i = c.loop-edit.edit-index in
    let edit = c.edit-item.result in
    let step : room_for (map edit_of (drop i edits)) ≡ edit_room (edit_of edit) + room_for (map edit_of (drop (i + 1) edits)) =
    ap (λ l. room_for (map edit_of l)) (drop_more edits i edit (omega arith)) ∙ ap (λ e. edit_room (edit_of e) + room_for (map edit_of (drop (i + 1) edits))) (sym c.edit-item.is) in
    omega (arith, step, c.loop-edit.invariant, c.in_ok-edit_room.ensures, c.in_ok-room.ensures)

pub returns : goal.returns
returns c =
    let edits = c.deref-edit-items.result.now in
    let i = c.loop-edit.edit-index in
    let none : room_for (map edit_of (drop i edits)) ≡ 0 = ap (λ l. room_for (map edit_of l)) (drop_all i edits (omega arith)) in
    let all : room_for (map edit_of edits) ≡ room_for c.args.self.now = ap (λ l. room_for (map edit_of l)) c.deref-edit-items.ensures.value ∙ ap room_for c.self.view_is in
    omega (arith, none, all, c.loop-edit.invariant)
