use Rattle.std.proofs.Common.{ap, sym, ◌∙◌, map, length, rules, tests}
use Rattle.std.proofs.lemmas.List.{map_push}
use Rattle.std.proofs.lemmas.Iterator.Consumers.{YieldsList-turn, YieldsList-end}
use Rattle.std.proofs.lemmas.Iterator.Splits.{YieldsList-from_slice_split}
use Rattle.std.specs.List.{slice_split}
use Rattle.ms_attrs.specs.Memory.{is_comma, item_of, all_of}
use Rattle.ms_attrs.proofs.ItemLemmas.{all_of_push, all_of_none}
use Rattle.ms_attrs.proofs.memory.items.Goals as goal

pub loop-piece-preserved : goal.loop-piece-preserved
loop-piece-preserved c =
    let more = all_of_push (map item_of (map (λ p. p.now) c.loop-piece.yielded)) c.loop-piece.list.items c.in-Some-only_item.next c.loop-piece.invariant in
    rw (map_push, map_push, ← c.in-Some-only_item.ensures, c.in_ok-push-in-Some-only_item.ensures.items) more

pub returns-in-None-only_item : goal.returns-in-None-only_item
returns-in-None-only_item c =
    let turn = YieldsList-turn (YieldsList-from_slice_split _ is_comma c.args.inner.now (cc) (cc) (cc) (λ x r q k. search (rules, tests))) c.loop-piece.yielded _ c.loop-piece.yielded_by _ _ c.in-Some.piece c.in-Some.is c.next.ensures.steps in
    sym (all_of_none (slice_split is_comma c.args.inner.now) (length c.loop-piece.yielded) c.in-Some.piece.now turn.0 (ap item_of (sym turn.1) ∙ sym c.in-None-only_item.ensures))

pub returns : goal.returns
returns c =
    let end = YieldsList-end (YieldsList-from_slice_split _ is_comma c.args.inner.now (cc) (cc) (cc) (λ x r q k. search (rules, tests))) c.loop-piece.yielded _ c.loop-piece.yielded_by _ _ c.in-None.is c.next.ensures.steps in
    sym (ap (λ ps. all_of (map item_of ps)) (sym end.0) ∙ c.loop-piece.invariant)
