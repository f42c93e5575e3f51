use Rattle.std.proofs.Common.{◌≡◌, ◌+◌, ◌*◌, ap, ◌∙◌, arith}
use Rattle.std.specs.Prelude.{slice_get}
use Rattle.std.proofs.lemmas.List.{get_or_default}
use Rattle.ms_flow.specs.Flow.{has_reached, in_slot_of, sources_of}
use Rattle.ms_flow.proofs.Paths.{reached_told}
use Rattle.ms_flow.proofs.Listed.{reached_below, edge_stands}
use Rattle.ms_flow.proofs.flow.Flow.succ.Goals as goal

pub at-requires-clause-block : goal.at-requires-clause-block
at-requires-clause-block c =
    let reached = rw (← c.self.view_is) at c.requires.block in
    reached_below c.self.inside.table c.self.invariant.closed c.args.b.0 reached

pub index-requires : goal.index-requires
index-requires c =
    let g = c.self.inside.table in
    let reached = rw (← c.self.view_is) at c.requires.block in
    let slot = rw (← c.self.view_is) at c.requires.slot in
    let below = reached_below g c.self.invariant.closed c.args.b.0 reached in
    let slots = c.self.invariant.listed.slots in
    let few = c.bounded.ensures.few c.args.b.0 in
    omega (arith, c.self.inside.sources.in_slots.ok.0)

pub returns-clause-in_slot : goal.returns-clause-in_slot
returns-clause-in_slot c =
    let g = c.self.inside.table in
    let reached = rw (← c.self.view_is) at c.requires.block in
    let slot = rw (← c.self.view_is) at c.requires.slot in
    let below = reached_below g c.self.invariant.closed c.args.b.0 reached in
    let slots = c.self.invariant.listed.slots in
    let few = c.bounded.ensures.few c.args.b.0 in
    let on = (reached_told g c.self.invariant.closed c.args.b.0).1 reached in
    let items = c.self.inside.sources.in_slots.items in
    let place : c.index.result.now ≡ in_slot_of (has_reached g) g c.args.b.0 c.args.slot =
    c.index.ensures ∙ get_or_default items (2 * c.args.b.0 + c.args.slot) c.index.result.now 0 (omega arith) ∙ c.self.invariant.listed.places c.args.b.0 c.args.slot below on slot in
    rw (← c.self.view_is)
    (ap (slice_get (sources_of g c.at.result)) place ∙ edge_stands (has_reached g) g c.args.b.0 c.args.slot c.at.result below on slot c.at.ensures.target)
