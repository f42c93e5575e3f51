use Rattle.std.proofs.Common.{◌≡◌, true, false, sym, subst}
use Rattle.ms_ir.specs.declared.names.Name.{Name}
use Rattle.ms_ir.specs.Locals.{HasName}
use Rattle.ms_ir.proofs.LookLemmas.{no_local_no_name}
use Rattle.ms_ir.proofs.func.Func.is_named.Goals as goal

pub returns-in-Some : goal.returns-in-Some
returns-in-Some c = (
  λ yes. let same : c.in-Some.found.now ≡ c.args.name.now = c.same_name.ensures.0 yes in subst (λ (n : Name). HasName c.args.self.now c.args.l n) same c.in-Some.ensures.found,
  λ h. c.same_name.ensures.1 (sym (c.in-Some.ensures.each c.args.name.now h)),
)

pub returns-in-None : goal.returns-in-None
returns-in-None c = (λ no. absurd (let both : false ≡ true = no in cc), λ h. absurd (no_local_no_name c.args.self.now c.args.l c.args.name.now c.in-None.ensures.found h))
