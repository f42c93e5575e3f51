use Rattle.std.proofs.Common.{◌∙◌, ap}
use Rattle.ms_resolve.specs.Build.{sig_by, body_in}
use Rattle.ms_resolve.specs.Context.{outer_by}
use Rattle.ms_resolve.proofs.BuildLemmas.{defined_bare}
use Rattle.ms_resolve.proofs.items.Context.define.Goals as goal

pub returns : goal.returns
returns c =
    let o = outer_by c.args.self.now in
    let head = c.args.head.now in
    defined_bare c.args.module.now c.add_body.new.module head.name _ (sig_by c.args.self.now.groups.now head) _ c.in_ok-func.func _
    c.in_ok-add_body.ensures (c.in_ok-func.ensures ∙ ap (λ body. body_in o c.args.n head body) c.body_of.ensures) c.in_ok-name.ensures c.in_ok-sig.ensures
