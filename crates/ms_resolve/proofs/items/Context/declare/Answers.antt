use Rattle.std.proofs.Common.{◌∙◌, ◌++◌, ap}
use Rattle.ms_grammar.specs.Form.{printed}
use Rattle.ms_resolve.specs.Build.{sig_by}
use Rattle.ms_resolve.proofs.BuildLemmas.{declared_bare}
use Rattle.ms_resolve.proofs.items.Context.declare.Goals as goal

pub returns : goal.returns
returns c =
    declared_bare c.args.module.now c.add_declared.new.self c.in_ok-add_declared.field-0 c.args.head.now.name _ (sig_by c.args.self.now.groups.now c.args.head.now) _ (printed c.args.line.now) _
    c.in_ok-add_declared.ensures.ok.0 c.in_ok-add_declared.ensures.ok.1 c.in_ok-name.ensures c.in_ok-sig.ensures
    (c.in_ok-write_line.ensures.ok ∙ ap (λ t. t ++ printed c.args.line.now) c.new-text.ensures)
