use Rattle.std.proofs.Common.{◌≡◌, ◌∙◌, List, ap, sym, subst, length, arith}
use Rattle.ms_paths.specs.Flow.{Block as Run, IsReducible}
use Rattle.ms_climb.specs.Chains.{first_of}
use Rattle.ms_climb.specs.declared.near.TheConstants.{NEAR}
use Rattle.ms_climb.specs.Near.{IsLeft}
use Rattle.ms_climb.specs.Walk.{IsCollected}
use Rattle.ms_climb.specs.Skips.{IsSkipping}
use Rattle.ms_climb.proofs.ChainLemmas.{chain_first}
use Rattle.ms_climb.proofs.SkipLemmas.{skipping_none}
use Rattle.ms_climb.proofs.NearLemmas.{near_last}
use Rattle.ms_climb.proofs.Resolved.{found_last}
use Rattle.ms_climb.proofs.search.climb.Goals as goal

pub settle-requires-clause-skipping : goal.settle-requires-clause-skipping
settle-requires-clause-skipping g c =
    let gr = c.args.formed.now.flow.now.graph in
    let count = c.block_count.ensures in
    let blocks = ap (λ (x : List Run). length x) c.requires.formed.graph ∙ c.same_paths.ensures.blocks c.args.formed.now.func.now.blocks in
    let few = c.numbered.ensures.few_blocks in
    subst (IsSkipping gr c.args.formed.now.form.now c.in_ok-walk-in-Left.walk) (sym c.in_ok-skips-in-Left.ensures) (skipping_none gr c.args.formed.now.form.now c.in_ok-walk-in-Left.walk c.block_count.result count (omega arith))

pub returns-in_ok-skips-in-Left : goal.returns-in_ok-skips-in-Left
returns-in_ok-skips-in-Left g c =
    let func = c.args.formed.now.func.now in
    let gr = c.args.formed.now.flow.now.graph in
    let f = c.args.formed.now.form.now in
    let E = g.W.Writes.test c.args.counted.now in
    let closed = rw (← c.requires.formed.graph) at (c.same_paths.ensures.closed func.blocks c.requires.formed.closed) in
    let size = ap (λ (x : List Run). length x) c.requires.formed.graph ∙ c.same_paths.ensures.blocks func.blocks in
    let reducible = (c.same_paths.ensures.reducible func.blocks).0 (subst IsReducible c.requires.formed.graph c.requires.formed.reducible) in
    let left : IsLeft NEAR f E c.args.start c.in-Left.passed.items c.in-Left.at = rw c.in-Left.is at c.in_ok-found.ensures in
    let first : c.args.start ≡ first_of c.in-Left.passed.items c.in-Left.at =
    chain_first f E c.in-Left.passed.items c.args.start c.in-Left.at left.chain in
    let collected : IsCollected gr f E func.made c.args.start c.in_ok-walk-in-Left.walk = rw (first, ← c.made.ensures, ← c.deref.ensures.value) c.in_ok-walk-in-Left.ensures in
    found_last func gr f c.requires.formed.graph c.requires.formed.form c.numbered.ensures.one_place c.numbered.ensures.below_made c.requires.formed.closed
    (c.same_paths.ensures.edges func.blocks) (c.same_paths.ensures.reached func.blocks) (c.order_told.ensures.reached gr closed) (c.sources_told.ensures.edges gr closed) (c.sources_told.ensures.all gr closed)
    c.answer_lies_on_every.ensures E c.args.start c.in_ok-walk-in-Left.walk c.settle.new.self size collected c.settle.ensures c.walk_answers.ensures c.requires.defs reducible c.root.result
    (λ go l. ap go (sym c.stop.ensures) ∙ c.root.ensures.leads go l)

pub returns-in-Stop : goal.returns-in-Stop
returns-in-Stop g c =
    let func = c.args.formed.now.func.now in
    let gr = c.args.formed.now.flow.now.graph in
    let closed = rw (← c.requires.formed.graph) at (c.same_paths.ensures.closed func.blocks c.requires.formed.closed) in
    let reducible = (c.same_paths.ensures.reducible func.blocks).0 (subst IsReducible c.requires.formed.graph c.requires.formed.reducible) in
    near_last func gr c.args.formed.now.form.now c.requires.formed.graph c.requires.formed.form c.numbered.ensures.one_place c.numbered.ensures.below_made c.requires.formed.closed
    (c.same_paths.ensures.edges func.blocks) (c.same_paths.ensures.reached func.blocks) (c.order_told.ensures.reached gr closed) (c.sources_told.ensures.edges gr closed) (c.sources_told.ensures.all gr closed)
    c.answer_lies_on_every.ensures (g.W.Writes.test c.args.counted.now) c.args.start c.in-Stop.found (rw c.in-Stop.is at c.in_ok-found.ensures) c.walk_answers.ensures c.requires.defs reducible
