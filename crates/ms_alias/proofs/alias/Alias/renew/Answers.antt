use Rattle.std.proofs.Common.{sym, subst}
use Rattle.ms_alias.specs.Tables.{AliasState, HasRoom, IsOrigins}
use Rattle.ms_alias.specs.Building.{IsBeyond}
use Rattle.ms_alias.proofs.Renewed.{room_beyond, room_columns, counted_captures}
use Rattle.ms_alias.proofs.alias.Alias.renew.Goals as goal

pub find_turning-requires-clause-beyond : goal.find_turning-requires-clause-beyond
find_turning-requires-clause-beyond c =
    let f = c.args.func.now in
    let room = subst (λ (a : AliasState). HasRoom a.bases f) (sym c.self.view_is) c.requires.ready.room in
    subst (IsBeyond f) (sym c.self.invariant.0) (room_beyond c.self.inside.bases f room)

pub recount-requires-clause-columns : goal.recount-requires-clause-columns
recount-requires-clause-columns c = room_columns c.fill_rows.new.bases c.args.func.now c.fill_rows.ensures.room

pub returns : goal.returns
returns c =
    let f = c.args.func.now in
    let e = c.fill_rows.ensures in
    record {
      room = e.room;
      origins = subst (λ (a : AliasState). IsOrigins f a.origins) (sym c.self.view_is) c.requires.ready.origins;
      turning = c.find_turning.ensures.turning;
      bases = e.bases;
      captured = counted_captures c.fill_rows.new.bases f c.recount.new.marks e.room e.bases c.recount.ensures;
    }
