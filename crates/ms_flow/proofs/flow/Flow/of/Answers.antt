use Rattle.std.proofs.Common.{length, subst}
use Rattle.ms_flow.specs.Walk.{WalkState, is_seen}
use Rattle.ms_flow.specs.Flow.{AreListed}
use Rattle.ms_flow.proofs.Again.{are_sources, own_from, rows_from}
use Rattle.ms_flow.proofs.flow.Flow.of.Goals as goal

pub tell_cycles-reducible-requires-clause-listed : goal.tell_cycles-reducible-requires-clause-listed
tell_cycles-reducible-requires-clause-listed c =
    let P : WalkState → Type 0 = λ w. AreListed (is_seen w) c.in_ok-table.table (length c.in_ok-table.table) c.in_ok-sources.sources.lists.items c.in_ok-sources.sources.in_slots.items in
    subst P c.in_ok-walker.ensures.walk c.in_ok-sources.ensures.listed

pub invariant_of-result : goal.invariant_of-result
invariant_of-result c =
    let P : WalkState → Type 0 = λ w. AreListed (is_seen w) c.in_ok-table.table (length c.in_ok-table.table) c.in_ok-sources.sources.lists.items c.in_ok-sources.sources.in_slots.items in
    let listed = subst P c.in_ok-walker.ensures.walk c.in_ok-sources.ensures.listed in
    let done = c.tell_cycles-reducible.ensures in
    record {
      closed = c.in_ok-table.ensures.closed;
      walk_blocks = done.blocks;
      rows_are = rows_from c.in_ok-table.table _ _ (are_sources c.in_ok-table.table _ _ listed) c.in_ok-sources.ensures.rows;
      low_blocks = done.low;
      listed = listed;
      ordered = c.in_ok-order.ensures;
      on_cycles = done.cycles;
      told = done.told;
    }

pub returns-clause-before : goal.returns-clause-before
returns-clause-before c =
    let P : WalkState → Type 0 = λ w. AreListed (is_seen w) c.in_ok-table.table (length c.in_ok-table.table) c.in_ok-sources.sources.lists.items c.in_ok-sources.sources.in_slots.items in
    let listed = subst P c.in_ok-walker.ensures.walk c.in_ok-sources.ensures.listed in
    own_from c.in_ok-table.table _ _ (are_sources c.in_ok-table.table _ _ listed) c.in_ok-sources.ensures.rows c.in_ok-sources.ensures.own
