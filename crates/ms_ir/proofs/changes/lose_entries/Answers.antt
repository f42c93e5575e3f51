use Rattle.std.proofs.Common.{◌≡◌, ◌<◌, ◌∙◌, None, Some, [], length, get_or, arith, refl, sym, add-one}
use Rattle.std.specs.List.{slice_get}
use Rattle.std.proofs.lemmas.List.{get_or_default}
use Rattle.std.proofs.lemmas.Option.{slice_get-get_or}
use Rattle.ms_ir.specs.Func.{no_node}
use Rattle.ms_ir.specs.Changes.{node_without}
use Rattle.ms_ir.proofs.LocalLemmas.{all_below_at}
use Rattle.ms_ir.proofs.ChangeLemmas.{passed-more}
use Rattle.ms_ir.proofs.changes.lose_entries.Goals as goal

pub unreachable-requires : goal.unreachable-requires
unreachable-requires c =
    let there = slice_get-get_or (get_or c.args.order.now.lists c.args.block []) c.walk.counter 0 (omega arith) in
    let both : None ≡ Some (get_or (get_or c.args.order.now.lists c.args.block []) c.walk.counter 0) = sym c.in-None.is ∙ c.walk.invariant.at_place ∙ there in
    cc

pub index_mut-requires : goal.index_mut-requires
index_mut-requires c =
    let found = sym c.walk.invariant.at_place ∙ c.in-Some.is in
    let lt = all_below_at c.args.order.now.made (get_or c.args.order.now.lists c.args.block []) c.walk.counter c.in-Some.number (c.listed_once.ensures.below c.args.block) found in
    omega (arith, lt, c.requires.made, c.walk.invariant.passed.len, c.walk.nodes.ok.0, c.args.nodes.now.ok.0)

pub walk-preserved : goal.walk-preserved
walk-preserved c =
    let found : slice_get (get_or c.args.order.now.lists c.args.block []) c.walk.counter ≡ Some c.in-Some.number = sym c.walk.invariant.at_place ∙ c.in-Some.is in
    let lt = all_below_at c.args.order.now.made (get_or c.args.order.now.lists c.args.block []) c.walk.counter c.in-Some.number (c.listed_once.ensures.below c.args.block) found in
    let in' : c.in-Some.number < length c.walk.nodes.items = omega (arith, lt, c.requires.made, c.walk.invariant.passed.len, c.args.nodes.now.ok.0) in
    let node_is : c.index_mut.result.now ≡ get_or c.walk.nodes.items c.in-Some.number no_node = c.index_mut.ensures.value ∙ get_or_default c.walk.nodes.items c.in-Some.number c.index_mut.result.now no_node in' in
    record {
      at_place = c.after-at.ensures.there c.args.block c.walk.counter found;
      passed = rw add-one (passed-more (node_without c.args.from.0) c.args.nodes.now.items c.walk.nodes.items (get_or c.args.order.now.lists c.args.block []) c.walk.counter c.in-Some.number _ found
          (λ j e. (c.listed_once.ensures.once c.in-Some.number c.args.block j c.args.block c.walk.counter e found).1) (omega (arith, in', c.walk.invariant.passed.len))
          (rw (c.lose_entry.ensures, node_is) refl) c.walk.invariant.passed);
      capacity = c.walk.invariant.capacity;
    }
