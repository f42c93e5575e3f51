use Rattle.std.proofs.Common.{◌≡◌, List, length, ◌∙◌, subst, arith}
use Rattle.ms_alias.specs.declared.sets.Set.{Set}
use Rattle.ms_alias.specs.declared.loc.Root.{Root}
use Rattle.ms_alias.specs.Building.{AreKinds, HaveFirst, HaveRows}
use Rattle.ms_alias.proofs.Rooms.{has_room}
use Rattle.ms_alias.proofs.room.room.Goals as goal

pub returns-clause-room : goal.returns-clause-room
returns-clause-room c =
    let f = c.args.func.now in
    let count = c.local_count-count.ensures in
    let columns : List Root = c.add_locals.new.columns.items in
    let sets : List Set = c.in_ok-sets.sets.items in
    let kinds = subst (λ n. AreKinds f n c.find_sets.new.columns.items sets) count c.in_ok-sets.ensures in
    let first = subst (λ n. HaveFirst f n columns) count c.in_ok-add_locals.ensures.globals in
    let size = c.add_locals.new.columns.ok.0 in
    let len : c.len.result ≡ length columns = omega (arith, c.len.ensures) in
    let rows = subst (λ n. HaveRows sets n c.in_ok-rows.rows.items) len (subst (λ xs. HaveRows xs c.len.result c.in_ok-rows.rows.items) c.as_slice.ensures.value c.in_ok-rows.ensures) in
    has_room f c.numbered.ensures (record { sets = sets; columns = columns; rows = c.in_ok-rows.rows.items }) c.find_sets.new.columns.items kinds c.in_ok-add_locals.ensures.longer first rows

pub returns-clause-count : goal.returns-clause-count
returns-clause-count c = c.in_ok-sets.ensures.len ∙ c.local_count-count.ensures
