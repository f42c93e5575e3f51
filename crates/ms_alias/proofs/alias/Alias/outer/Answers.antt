use Rattle.std.proofs.Common.{sym, ap, ◌∙◌}
use Rattle.ms_alias.specs.Tables.{has_outer, set_of}
use Rattle.ms_alias.proofs.Meets.{outer_from, outer_to}
use Rattle.ms_alias.proofs.Reaching.{set_told}
use Rattle.ms_alias.proofs.alias.Alias.outer.Goals as goal

pub returns : goal.returns
returns c =
    let t = c.args.self.now.bases in
    let same = c.has_outer.ensures ∙ ap (has_outer t) c.set_of.ensures in
    let is = set_told t c.args.func.now c.requires.bases c.args.root in
    (λ e. outer_from t c.args.func.now c.args.root (set_of t c.args.root) is (sym same ∙ e), λ h. same ∙ outer_to t c.args.func.now c.args.root (set_of t c.args.root) is h)
