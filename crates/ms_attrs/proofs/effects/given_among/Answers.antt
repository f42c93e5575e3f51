use Rattle.std.proofs.Common.{◌+◌, ◌∙◌, get_or, drop, arith}
use Rattle.std.proofs.lemmas.List.{drop_more, take_rest}
use Rattle.ms_attrs.specs.declared.part.Part.TheVariants.{Parenthesis}
use Rattle.ms_attrs.proofs.EffectLemmas.{given_here, given_inside}
use Rattle.ms_attrs.proofs.effects.given_among.Goals as goal
use Rattle.ms_attrs.proofs.effects.given_among.Goals.{then-depth-eq0+in_ok-given_at, else-depth-eq0}

pub loop-at-preserved : goal.loop-at-preserved
loop-at-preserved c =
    let parts = c.args.parts.now in
    let at = c.loop-at.at in
    let e = c.loop-at.effects in
    let depth = c.loop-at.depth in
    let p = get_or parts at Parenthesis in
    let rest = drop (at + 1) parts in
    let before = rw (drop_more parts at Parenthesis c.loop-at-test.true) at c.loop-at.invariant.so_far in
    record {
      few = omega arith;
      so_far = elim c.if-depth-eq0.branch [
        | then-depth-eq0+in_ok-given_at w ↦
            rw (w.effects-is, w.in_both-effects.ensures, c.depth_after-depth.ensures.value)
            (given_here e w.in_ok-given_at.field-0 depth p rest _ w.if-depth-eq0.true (take_rest parts (at + 1)) w.in_ok-given_at.ensures ∙ before)
        | else-depth-eq0 w ↦
            rw (w.effects-is, c.depth_after-depth.ensures.value) (given_inside e depth p rest w.if-depth-eq0.false ∙ before)
      ];
    }
