use Rattle.std.proofs.Common.{◌≡◌, ◌∙◌, None, Some, get_or, rules, sym}
use Rattle.std.proofs.lemmas.List.{get_or_past, get_or_default}
use Rattle.ms_ir.proofs.OrderLemmas.{not_listed_home, home_place}
use Rattle.ms_ir.proofs.order.Order.block_of.Goals as goal

pub returns-then-number-len-clause-block : goal.returns-then-number-len-clause-block
returns-then-number-len-clause-block c =
    rw (← c.self.view_is) (not_listed_home c.self.inside.next.items c.self.inside.home.items _ _ c.args.number None c.self.invariant.0 (get_or_past c.self.inside.home.items c.args.number None (search rules)) (λ b e lt. cc))

pub returns-in-None-clause-block : goal.returns-in-None-clause-block
returns-in-None-clause-block c =
    let home_is : get_or c.self.inside.home.items c.args.number None ≡ None =
    get_or_default c.self.inside.home.items c.args.number None c.index.result.now (search rules) ∙ sym c.index.ensures ∙ c.in-None.is in
    rw (← c.self.view_is) (not_listed_home c.self.inside.next.items c.self.inside.home.items _ _ c.args.number None c.self.invariant.0 home_is (λ b e lt. cc))

pub returns-in-Some-clause-block : goal.returns-in-Some-clause-block
returns-in-Some-clause-block c =
    let home_is : get_or c.self.inside.home.items c.args.number None ≡ Some c.in-Some.block =
    get_or_default c.self.inside.home.items c.args.number None c.index.result.now (search rules) ∙ sym c.index.ensures ∙ c.in-Some.is in
    rw (← c.self.view_is) (home_place c.self.inside.next.items c.self.inside.home.items c.self.inside.heads.items _ c.args.number c.in-Some.block c.self.invariant.0 home_is)
