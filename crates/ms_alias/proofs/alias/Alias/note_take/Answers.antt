use Rattle.std.proofs.Common.{Some, List, Bool, sym, subst}
use Rattle.ms_alias.specs.Captured.{IsCaptured, IsCapturedBut}
use Rattle.ms_alias.specs.Tables.{HasPointers, IsAliasOf, IsCapturesBut}
use Rattle.ms_alias.proofs.Renewed.{room_columns, counted_but, marks_differ}
use Rattle.ms_alias.proofs.alias.Alias.note_take.Goals as goal

pub recount-requires-clause-columns : goal.recount-requires-clause-columns
recount-requires-clause-columns c =
    let f = c.args.func.now in
    let h = subst (HasPointers f) (sym c.self.view_is) c.requires in
    room_columns c.self.inside.bases f h.room

pub returns-clause-pointers : goal.returns-clause-pointers
returns-clause-pointers c =
    let h = subst (HasPointers c.args.func.now) (sym c.self.view_is) c.requires in
    record { room = h.room; origins = h.origins; turning = h.turning; bases = h.bases }

pub returns-clause-captured : goal.returns-clause-captured
returns-clause-captured c =
    let f = c.args.func.now in
    let h = subst (HasPointers f) (sym c.self.view_is) c.requires in
    let t = c.self.inside.bases in
    subst (λ (m : List Bool). IsCapturesBut t f (Some c.args.i) m) (sym c.swap.ensures.x_after) (counted_but t f (Some c.args.i) c.recount.new.marks h.room h.bases c.recount.ensures)

pub returns-clause-changed : goal.returns-clause-changed
returns-clause-changed c = λ f is.
    let g = c.args.func.now in
    let h = subst (HasPointers g) (sym c.self.view_is) c.requires in
    let o = subst (IsAliasOf f) (sym c.self.view_is) is in
    let t = c.self.inside.bases in
    let now = counted_but t g (Some c.args.i) c.recount.new.marks h.room h.bases c.recount.ensures in
    marks_differ t f g (IsCaptured f) (IsCapturedBut g (Some c.args.i)) c.self.inside.captured c.recount.new.marks o.room h.room o.captured.sound o.captured.complete now.sound now.complete c.mark_others-changed.result c.mark_others-changed.ensures
