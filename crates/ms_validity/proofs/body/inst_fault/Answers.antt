use Rattle.std.proofs.Common.{◌∙◌, [], arith}
use Rattle.std.specs.Prelude.{IsTrue, ◌↔◌}
use Rattle.std.proofs.lemmas.List.{get_or_default}
use Rattle.std.proofs.lemmas.Result.{IfOk-weaker}
use Rattle.ms_validity.specs.Tables.{HasBadEntriesFor}
use Rattle.ms_validity.specs.Told.{InstFault}
use Rattle.ms_validity.proofs.BodyLemmas.{edges_told}
use Rattle.ms_validity.proofs.body.inst_fault.Goals as goal

pub returns-in-Edges-clause-told : goal.returns-in-Edges-clause-told
returns-in-Edges-clause-told c =
    let lists = c.args.view.now.sources.items in
    let b = c.args.at.block in
    let len = c.requires.view.sources.blocks_are in
    let lt = c.requires.block in
    let list = c.as_slice.ensures ∙ c.index.ensures ∙ get_or_default lists b c.index.result.now [] (omega arith) in
    IfOk-weaker c.bad_entries.result (λ t. IsTrue t ↔ HasBadEntriesFor c.as_slice.result.now c.args.inst.now)
    (λ t. IsTrue t ↔ InstFault c.args.phase c.args.m.now c.args.func.now b c.args.at.place c.args.inst.now)
    (edges_told c.args.phase c.args.m.now c.args.func.now lists b c.args.at.place c.as_slice.result.now c.args.inst.now c.in-Edges.is c.requires.view.sources lt list)
    c.bad_entries.ensures
