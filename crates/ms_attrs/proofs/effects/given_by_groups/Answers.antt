use Rattle.std.proofs.Common.{◌+◌, ◌∙◌, ap, get_or, drop, arith}
use Rattle.std.proofs.lemmas.List.{drop_more}
use Rattle.ms_lex.specs.declared.token.Token.{Token}
use Rattle.ms_lex.specs.declared.token.TokenKind.TheVariants.{Word}
use Rattle.ms_attrs.specs.Texts.{text_of, texts_of}
use Rattle.ms_attrs.specs.Effects.{both, groups_given}
use Rattle.ms_attrs.proofs.EffectLemmas.{named_here, named_inside}
use Rattle.ms_attrs.proofs.effects.given_by_groups.Goals as goal
use Rattle.ms_attrs.proofs.effects.given_by_groups.Goals.{then-depth-eq0+in_ok-given_by_name, else-depth-eq0}

pub loop-token-preserved : goal.loop-token-preserved
loop-token-preserved c =
    let line = c.args.line.now in
    let tokens = c.args.tokens.now in
    let groups = c.args.groups.now in
    let at = c.loop-token.token-index in
    let e = c.loop-token.effects in
    let depth = c.loop-token.depth in
    let unread : Token = record { kind = Word; from = 0; to = 0 } in
    let t = text_of line (get_or tokens at unread) in
    let rest = texts_of line (drop (at + 1) tokens) in
    record {
      few = omega arith;
      so_far = λ cut cuts.
          let before = rw (drop_more tokens at unread c.loop-token-test.true) at (c.loop-token.invariant.so_far cut cuts) in
          elim c.if-depth-eq0.branch [
            | then-depth-eq0+in_ok-given_by_name w ↦
                let next = rw w.text_at.ensures.text at (w.in_ok-given_by_name.ensures cut cuts) in
                rw (w.effects-is, w.in_both-effects.ensures, c.depth_after-depth.ensures.value, c.part_at.ensures)
                (named_here cut groups e w.in_ok-given_by_name.field-0 depth t rest w.if-depth-eq0.true next ∙ before)
            | else-depth-eq0 w ↦
                rw (w.effects-is, c.depth_after-depth.ensures.value, c.part_at.ensures) (ap (λ ds. both e (groups_given cut groups ds)) (named_inside depth t rest w.if-depth-eq0.false) ∙ before)
          ];
    }
