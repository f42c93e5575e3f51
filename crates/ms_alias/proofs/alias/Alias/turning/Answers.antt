use Rattle.std.proofs.Common.{sym, ◌∙◌}
use Rattle.ms_alias.proofs.Turns.{turning_made, turning_one}
use Rattle.ms_alias.proofs.alias.Alias.turning.Goals as goal

pub returns-in-Local-clause-made : goal.returns-in-Local-clause-made
returns-in-Local-clause-made c =
    turning_made c.args.func.now c.numbered.ensures c.args.self.now c.requires c.in-Local.l c.args.root c.in-Local.is (sym c.is_turning.ensures ∙ c.if-not-is_turning.false) c.def_of.result c.def_of.ensures.found

pub returns-in-Local-clause-one : goal.returns-in-Local-clause-one
returns-in-Local-clause-one c = turning_one c.args.func.now c.in-Local.l c.args.root c.in-Local.is c.def_of.result c.def_of.ensures.each
