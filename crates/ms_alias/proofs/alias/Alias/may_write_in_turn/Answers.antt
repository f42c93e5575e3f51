use Rattle.std.proofs.Common.{◌≡◌, ◌↔◌, Bool, true, sym, subst}
use Rattle.ms_alias.specs.Meeting.{MayWriteInTurn}
use Rattle.ms_alias.specs.Tables.{reach_in}
use Rattle.ms_alias.proofs.Asked.{in_turn_tested, in_turn_told}
use Rattle.ms_alias.proofs.alias.Alias.may_write_in_turn.Goals as goal

pub returns-clause-test : goal.returns-clause-test
returns-clause-test c =
    in_turn_tested c.args.func.now c.args.self.now c.args.i.0 c.args.loc.now (reach_in c.write_at.result) (reach_in c.loc_touch.result) c.write_at.ensures c.loc_touch.ensures c.meet_in_turn.result c.meet_in_turn.ensures

pub returns-clause-told : goal.returns-clause-told
returns-clause-told c =
    λ is. subst (λ (b : Bool). (b ≡ true) ↔ MayWriteInTurn c.args.func.now c.args.i.0 c.args.loc.now) (sym (returns-clause-test c)) (in_turn_told c.args.func.now c.args.self.now is c.args.loc.now c.args.i.0)
