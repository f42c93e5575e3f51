use Rattle.std.proofs.Common.{sym, ◌∙◌}
use Rattle.ms_alias.proofs.Makers.{maker_none, maker_some, maker_other}
use Rattle.ms_alias.proofs.maker.maker.Goals as goal

pub returns-in-None : goal.returns-in-None
returns-in-None c = maker_none c.args.func.now c.args.l c.in-None.ensures.found

pub returns-then-makes_pointer : goal.returns-then-makes_pointer
returns-then-makes_pointer c = maker_some c.args.func.now c.args.l c.in-Some.node.now c.numbered.ensures c.in-Some.ensures.found (sym c.makes_pointer.ensures ∙ c.if-makes_pointer.true)

pub returns-else-makes_pointer : goal.returns-else-makes_pointer
returns-else-makes_pointer c = maker_other c.args.func.now c.args.l c.in-Some.node.now c.numbered.ensures c.in-Some.ensures.found (sym c.makes_pointer.ensures ∙ c.if-makes_pointer.false)
