use Rattle.std.proofs.Common.{◌≡◌, sym, ap, ◌∙◌}
use Rattle.ms_flow.specs.Walk.{is_seen, beyond}
use Rattle.ms_flow.proofs.Paths.{cycle_told}
use Rattle.ms_flow.proofs.search.comes_back.Goals as goal

pub returns-clause-cycle : goal.returns-clause-cycle
returns-clause-cycle c =
    let same : c.has_seen.result ≡ is_seen (beyond c.args.table.now c.args.b) c.args.b = c.has_seen.ensures ∙ ap (λ w. is_seen w c.args.b) c.visit_beyond.ensures.walk in
    let told = cycle_told c.args.table.now c.requires.closed c.args.b in
    (λ t. told.0 (sym same ∙ t), λ w. same ∙ told.1 w)
