use Rattle.std.proofs.Common.{◌+◌, ◌≡◌, [], get_or, ◌∙◌, arith}
use Rattle.std.proofs.lemmas.List.{get_or_default}
use Rattle.ms_flow.proofs.Sifted.{numbered_more, once_in_list}
use Rattle.ms_flow.proofs.sources.number_lists.Goals as goal

pub number_list-requires-clause-once : goal.number_list-requires-clause-once
number_list-requires-clause-once c =
    let lists = c.args.lists.now in
    let is : c.as_slice.result.now ≡ get_or lists c.loop-b.b [] = c.as_slice.ensures ∙ c.index-lists-b.is ∙ get_or_default lists c.loop-b.b c.index-lists-b.result [] (omega arith) in
    once_in_list lists c.loop-b.b c.as_slice.result.now c.requires.apart is (omega arith)

pub loop-b-preserved : goal.loop-b-preserved
loop-b-preserved c =
    let lists = c.args.lists.now in
    let b = c.loop-b.b in
    let is : c.as_slice.result.now ≡ get_or lists b [] = c.as_slice.ensures ∙ c.index-lists-b.is ∙ get_or_default lists b c.index-lists-b.result [] (omega arith) in
    let done = c.number_list.ensures in (
      done.slots ∙ c.loop-b.invariant.0,
      numbered_more lists b (b + 1) c.as_slice.result.now c.loop-b.in_slots.items c.number_list.new.in_slots.items c.requires.apart is (omega arith) c.loop-b.invariant.1
          (record { slots = done.slots; numbered = done.numbered; others = done.others }) (omega arith),
    )
