use Rattle.std.proofs.Common.{◌≡◌, ◌∙◌, true, false, Some, ap, sym}
use Rattle.ms_ir.proofs.LookLemmas.{named_block, block_named}
use Rattle.ms_ir.proofs.func.Func.is_block_named.Goals as goal

pub returns-in-Some : goal.returns-in-Some
returns-in-Some c = (
  λ yes. named_block c.args.self.now.blocks c.args.b.0 c.args.name.now (sym c.in-Some.ensures ∙ ap Some (c.same_name.ensures.0 yes)),
  λ h. c.same_name.ensures.1 (let both : Some c.in-Some.found.now ≡ Some c.args.name.now = c.in-Some.ensures ∙ block_named c.args.self.now.blocks c.args.b.0 c.args.name.now h in cc),
)

pub returns-in-None : goal.returns-in-None
returns-in-None c = (λ no. absurd (let both : false ≡ true = no in cc), λ h. let both = c.in-None.ensures ∙ block_named c.args.self.now.blocks c.args.b.0 c.args.name.now h in cc)
