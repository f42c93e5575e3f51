use Rattle.std.proofs.Common.{sym, subst}
use Rattle.ms_ir.specs.Func.{FuncState}
use Rattle.ms_form.specs.Form.{FormState}
use Rattle.ms_whole.specs.Whole.{IsWhole}
use Rattle.ms_whole.proofs.Room.{whole_roomy}
use Rattle.ms_whole.proofs.whole.Whole.reserve.Goals as goal

pub invariant_of-self-2 : goal.invariant_of-self-2
invariant_of-self-2 c =
    let p = c.self.inside.parts in (
      subst (λ (f : FuncState). IsWhole f p.flow c.reserve.new.self p.alias p.kept) (sym c.reserve-2.ensures.kept)
          (subst (λ (h : FormState). IsWhole (record p.func { spare = c.reserve-2.new.self.spare }) p.flow h p.alias p.kept) (sym c.in_ok-reserve.ensures.ok)
          (whole_roomy p.func p.flow p.form p.alias p.kept c.reserve-2.new.self.spare _ c.rights_need_no_room.ensures c.self.invariant.0)),
      c.self.invariant.1,
    )
