use Rattle.std.proofs.Common.{◌≡◌, ◌≤◌, ◌*◌, ℕ, List, length, sym, ap, ◌∙◌, subst, arith}
use Rattle.ms_paths.specs.Flow.{Block as Run, IsClosed, IsReducible}
use Rattle.ms_flow.specs.declared.sources.Source.{Source}
use Rattle.ms_flow.specs.Table.{next_of}
use Rattle.ms_flow.specs.Flow.{AreListed, AreRows, has_reached}
use Rattle.ms_flow.specs.Cut.{AreBefore}
use Rattle.ms_flow.proofs.Cuts.{cut_blocks, cut_few}
use Rattle.ms_flow.proofs.Again.{are_sources, cut_rows, cut_sources, few_kept, few_sources, from_within, listed_again, rows_back, sources_apart}
use Rattle.ms_flow.proofs.flow.Flow.drop_edge.Goals as goal

pub walk_again-requires-clause-closed : goal.walk_again-requires-clause-closed
walk_again-requires-clause-closed c =
    let two = rw (← c.self.view_is) at c.requires.two in
    subst IsClosed (sym c.cut.ensures) (c.cut_is_told.ensures.closed c.self.inside.table c.args.b.0 c.args.slot two c.self.invariant.closed)

pub count_left-requires-clause-closed : goal.count_left-requires-clause-closed
count_left-requires-clause-closed c =
    let two = rw (← c.self.view_is) at c.requires.two in
    subst IsClosed (sym c.cut.ensures) (c.cut_is_told.ensures.closed c.self.inside.table c.args.b.0 c.args.slot two c.self.invariant.closed)

pub order_again-requires-clause-closed : goal.order_again-requires-clause-closed
order_again-requires-clause-closed c =
    let two = rw (← c.self.view_is) at c.requires.two in
    subst IsClosed (sym c.cut.ensures) (c.cut_is_told.ensures.closed c.self.inside.table c.args.b.0 c.args.slot two c.self.invariant.closed)

pub keep-requires-clause-within : goal.keep-requires-clause-within
keep-requires-clause-within c =
    let g = c.self.inside.table in
    let lists = c.self.inside.sources.lists.items in
    from_within g lists (are_sources g lists _ c.self.invariant.listed) _ (c.walk_again.ensures.blocks ∙ ap length c.cut.ensures ∙ cut_blocks g c.args.b.0 c.args.slot)

pub keep-requires-clause-rows : goal.keep-requires-clause-rows
keep-requires-clause-rows c =
    let g = c.self.inside.table in
    let lists = c.self.inside.sources.lists.items in
    rows_back g lists _ (are_sources g lists _ c.self.invariant.listed) c.self.invariant.rows_are

pub keep-requires-clause-few : goal.keep-requires-clause-few
keep-requires-clause-few c = few_sources c.self.inside.table _ _ c.self.invariant.listed c.bounded.ensures.few c.bounded.ensures.small

pub number-requires-clause-few : goal.number-requires-clause-few
number-requires-clause-few c =
    few_kept _ _ _ _ _ _ _ c.keep.ensures.kept (few_sources c.self.inside.table _ _ c.self.invariant.listed c.bounded.ensures.few c.bounded.ensures.small)

pub number-requires-clause-apart : goal.number-requires-clause-apart
number-requires-clause-apart c =
    let g = c.self.inside.table in
    let h = c.cut.new.self in
    let b = c.args.b.0 in
    let slot = c.args.slot in
    let lists = c.self.inside.sources.lists.items in
    let two = rw (← c.self.view_is) at c.requires.two in
    let closed = c.self.invariant.closed in
    let are = cut_sources g h b slot _ lists _ _ c.cut.ensures c.walk_again.ensures.walk closed two c.requires.slot (are_sources g lists _ c.self.invariant.listed) c.keep.ensures.kept in
    sources_apart h _ (subst IsClosed (sym c.cut.ensures) (c.cut_is_told.ensures.closed g b slot two closed))
    (subst (λ (x : List Run). (y : ℕ) → length (next_of x y) ≤ 2) (sym c.cut.ensures) (cut_few g b slot two c.bounded.ensures.few)) are

pub tell_cycles-self-inside-requires-clause-closed : goal.tell_cycles-self-inside-requires-clause-closed
tell_cycles-self-inside-requires-clause-closed c =
    let two = rw (← c.self.view_is) at c.requires.two in
    subst IsClosed (sym c.cut.ensures) (c.cut_is_told.ensures.closed c.self.inside.table c.args.b.0 c.args.slot two c.self.invariant.closed)

pub tell_cycles-self-inside-requires-clause-known : goal.tell_cycles-self-inside-requires-clause-known
tell_cycles-self-inside-requires-clause-known c =
    let two = rw (← c.self.view_is) at c.requires.two in
    λ t. subst IsReducible (sym c.cut.ensures) (c.cut_is_told.ensures.reducible c.self.inside.table c.args.b.0 c.args.slot two (c.self.invariant.told.0 t))

pub tell_cycles-self-inside-requires-clause-listed : goal.tell_cycles-self-inside-requires-clause-listed
tell_cycles-self-inside-requires-clause-listed c =
    let g = c.self.inside.table in
    let h = c.cut.new.self in
    let b = c.args.b.0 in
    let slot = c.args.slot in
    let lists = c.self.inside.sources.lists.items in
    let two = rw (← c.self.view_is) at c.requires.two in
    let closed = c.self.invariant.closed in
    let are = cut_sources g h b slot _ lists _ _ c.cut.ensures c.walk_again.ensures.walk closed two c.requires.slot (are_sources g lists _ c.self.invariant.listed) c.keep.ensures.kept in
    let blocks = are.0 in
    let sized : length c.number.new.self.in_slots.items ≡ 2 * length h = c.number.ensures.slots ∙ ap (λ n. 2 * n) blocks in
    let all = ap (λ v. v.items) c.number.ensures.lists in
    subst (λ (l : List (List Source)). AreListed (has_reached h) h (length h) l c.number.new.self.in_slots.items) (sym all)
    (listed_again h c.keep.new.self.lists.items c.number.new.self.in_slots.items (subst IsClosed (sym c.cut.ensures) (c.cut_is_told.ensures.closed g b slot two closed)) are sized
    (λ x lt. c.number.ensures.numbered x (omega (arith, lt, blocks))))

pub invariant_of-self : goal.invariant_of-self
invariant_of-self c =
    let g = c.self.inside.table in
    let h = c.cut.new.self in
    let b = c.args.b.0 in
    let slot = c.args.slot in
    let lists = c.self.inside.sources.lists.items in
    let two = rw (← c.self.view_is) at c.requires.two in
    let closed = c.self.invariant.closed in
    let closed' = subst IsClosed (sym c.cut.ensures) (c.cut_is_told.ensures.closed g b slot two closed) in
    let were = are_sources g lists _ c.self.invariant.listed in
    let are = cut_sources g h b slot _ lists _ _ c.cut.ensures c.walk_again.ensures.walk closed two c.requires.slot were c.keep.ensures.kept in
    let blocks = are.0 in
    let sized : length c.number.new.self.in_slots.items ≡ 2 * length h = c.number.ensures.slots ∙ ap (λ n. 2 * n) blocks in
    let all = ap (λ v. v.items) c.number.ensures.lists in
    let rows = cut_rows g h b slot _ lists _ _ c.cut.ensures c.walk_again.ensures.walk closed two c.requires.slot were c.keep.ensures.kept in
    let same_rows = ap (λ v. v.items) c.number.ensures.before in
    let done = c.tell_cycles-self-inside.ensures in
    record {
      closed = closed';
      walk_blocks = done.blocks;
      rows_are = subst (λ (r : List (List ℕ)). AreRows h r) (sym same_rows) (subst (λ (x : List Run). AreRows x c.keep.new.self.before.items) (sym c.cut.ensures) rows.rows_are);
      low_blocks = done.low;
      listed = subst (λ (l : List (List Source)). AreListed (has_reached h) h (length h) l c.number.new.self.in_slots.items) (sym all)
          (listed_again h c.keep.new.self.lists.items c.number.new.self.in_slots.items closed' are sized (λ x lt. c.number.ensures.numbered x (omega (arith, lt, blocks))));
      ordered = c.order_again.ensures;
      on_cycles = done.cycles;
      told = done.told;
    }

pub returns-clause-before : goal.returns-clause-before
returns-clause-before c =
    let g = c.self.inside.table in
    let h = c.cut.new.self in
    let lists = c.self.inside.sources.lists.items in
    let two = rw (← c.self.view_is) at c.requires.two in
    let rows = cut_rows g h c.args.b.0 c.args.slot _ lists _ _ c.cut.ensures c.walk_again.ensures.walk c.self.invariant.closed two c.requires.slot (are_sources g lists _ c.self.invariant.listed) c.keep.ensures.kept in
    let same_rows = ap (λ v. v.items) c.number.ensures.before in
    rw (← c.self.view_is) (subst (λ (r : List (List ℕ)). AreBefore g c.args.b.0 c.args.slot r) (sym same_rows) rows)
