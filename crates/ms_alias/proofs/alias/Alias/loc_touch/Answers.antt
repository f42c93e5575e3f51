use Rattle.std.proofs.Common.{◌≡◌, ◌↔◌, Some, sym, subst}
use Rattle.ms_alias.specs.declared.loc.Loc.{Loc}
use Rattle.ms_alias.specs.Tables.{reach_in, IsReachBy}
use Rattle.ms_alias.proofs.alias.Alias.loc_touch.Goals as goal

pub returns-in-ReadBy : goal.returns-in-ReadBy
returns-in-ReadBy c = λ u. subst (λ (l : Loc). (reach_in c.read_at.result ≡ Some u) ↔ IsReachBy c.args.func.now c.args.self.now.origins l u) (sym c.in-ReadBy.is) (c.read_at.ensures u)
