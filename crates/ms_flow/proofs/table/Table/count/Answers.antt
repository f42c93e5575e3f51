use Rattle.std.proofs.Common.{◌<◌, length, sym, ap, ◌∙◌, arith}
use Rattle.ms_flow.specs.Table.{list_of}
use Rattle.ms_flow.proofs.Tables.{length-edges, next_at}
use Rattle.ms_flow.proofs.table.Table.count.Goals as goal

pub index-requires : goal.index-requires
index-requires c =
    let within = rw (← c.self.view_is) at c.requires in
    omega (arith, within, length-edges c.self.inside.targets.items, c.self.inside.targets.ok.0)

pub returns-clause-count : goal.returns-clause-count
returns-clause-count c =
    let within = rw (← c.self.view_is) at c.requires in
    let items = c.self.inside.targets.items in
    let in' : c.args.b < length items = omega (arith, within, length-edges items) in
    rw (← c.self.view_is) (c.count.ensures.count ∙ ap (λ t. length (list_of t)) c.index.ensures ∙ sym (ap length (next_at items c.args.b c.index.result.now in')))
