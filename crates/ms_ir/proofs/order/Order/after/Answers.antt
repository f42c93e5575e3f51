use Rattle.std.proofs.Common.{◌∙◌, None, rules, add-one}
use Rattle.std.proofs.lemmas.List.{get_or_default}
use Rattle.ms_ir.proofs.OrderLemmas.{next_place, listed_and_not}
use Rattle.ms_ir.proofs.order.Order.after.Goals as goal

pub returns-in-Some-clause-there : goal.returns-in-Some-clause-there
returns-in-Some-clause-there c =
    rw (← c.self.view_is) (λ block place e. rw add-one (c.index.ensures ∙ get_or_default c.self.inside.next.items c.args.number c.index.result.now None (search rules)
    ∙ next_place c.self.inside.next.items c.self.inside.home.items c.self.inside.heads.items _ c.args.number block place c.self.invariant.0 e))

pub returns-in-Some-clause-gone : goal.returns-in-Some-clause-gone
returns-in-Some-clause-gone c = λ gone. absurd (listed_and_not _ c.args.number _ _ gone c.in-Some.ensures.block.2)

pub returns-in-None-clause-there : goal.returns-in-None-clause-there
returns-in-None-clause-there c = λ block place e. absurd (listed_and_not _ c.args.number block place c.in-None.ensures.block e)
