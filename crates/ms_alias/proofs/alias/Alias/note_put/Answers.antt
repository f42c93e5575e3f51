use Rattle.std.proofs.Common.{List, Bool, sym, subst}
use Rattle.ms_alias.specs.Captured.{IsCaptured}
use Rattle.ms_alias.specs.Tables.{HasPointers, IsAliasOf, IsCaptures}
use Rattle.ms_alias.proofs.Renewed.{room_columns, counted_captures, marks_differ}
use Rattle.ms_alias.proofs.alias.Alias.note_put.Goals as goal

pub recount-requires-clause-columns : goal.recount-requires-clause-columns
recount-requires-clause-columns c =
    let f = c.args.func.now in
    let h = subst (HasPointers f) (sym c.self.view_is) c.requires in
    room_columns c.self.inside.bases f h.room

pub returns-clause-alias : goal.returns-clause-alias
returns-clause-alias c =
    let f = c.args.func.now in
    let h = subst (HasPointers f) (sym c.self.view_is) c.requires in
    let t = c.self.inside.bases in
    record {
      room = h.room;
      origins = h.origins;
      turning = h.turning;
      bases = h.bases;
      captured = subst (λ (m : List Bool). IsCaptures t f m) (sym c.swap.ensures.x_after) (counted_captures t f c.recount.new.marks h.room h.bases c.recount.ensures);
    }

pub returns-clause-changed : goal.returns-clause-changed
returns-clause-changed c = λ f is.
    let g = c.args.func.now in
    let h = subst (HasPointers g) (sym c.self.view_is) c.requires in
    let o = subst (IsAliasOf f) (sym c.self.view_is) is in
    let t = c.self.inside.bases in
    let now = counted_captures t g c.recount.new.marks h.room h.bases c.recount.ensures in
    marks_differ t f g (IsCaptured f) (IsCaptured g) c.self.inside.captured c.recount.new.marks o.room h.room o.captured.sound o.captured.complete now.sound now.complete c.mark_others-changed.result c.mark_others-changed.ensures
