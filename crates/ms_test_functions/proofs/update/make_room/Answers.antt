use Rattle.std.specs.Prelude.{max}
use Rattle.ms_test_functions.proofs.Rooms.{together_still}
use Rattle.ms_test_functions.proofs.update.make_room.Goals as goal

pub returns-clause-together : goal.returns-clause-together
returns-clause-together g c =
    together_still c.args.f.now c.reserve.new.self c.args.flow.now c.args.form.now c.room_in.new.form c.reserve.new.self.spare (max c.args.form.now.spare 1) c.reserve.ensures.kept c.room_in.ensures c.requires
