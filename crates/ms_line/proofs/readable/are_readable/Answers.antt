use Rattle.std.proofs.Common.{refl, sym, subst}
use Rattle.std.proofs.lemmas.List.{drop_all}
use Rattle.ms_lex.specs.declared.token.Token.{Token}
use Rattle.ms_lex.specs.declared.token.TokenKind.TheVariants.{Word}
use Rattle.ms_line.specs.Spelled.{AreReadable}
use Rattle.ms_line.proofs.Cells.{not_true}
use Rattle.ms_line.proofs.NumberLemmas.{next_readable, more_readable}
use Rattle.ms_line.proofs.readable.are_readable.Goals as goal

pub returns-then-not-is_readable : goal.returns-then-not-is_readable
returns-then-not-is_readable c =
    let unread : Token = record { kind = Word; from = 0; to = 0 } in (
      λ no. absurd (cc),
      λ all.
          absurd (not_true c.is_readable.result c.if-not-is_readable.true
          (c.is_readable.ensures.1 (next_readable c.args.line.now c.args.tokens.now c.loop-token.token-index unread c.loop-token-test.true (c.loop-token.invariant.1 all)).0)),
    )

pub loop-token-preserved : goal.loop-token-preserved
loop-token-preserved c =
    let unread : Token = record { kind = Word; from = 0; to = 0 } in
    let line = c.args.line.now in
    let tokens = c.args.tokens.now in
    let at = c.loop-token.token-index in (
      λ rest. c.loop-token.invariant.0 (more_readable line tokens at unread c.loop-token-test.true (c.is_readable.ensures.0 c.if-not-is_readable.false) rest),
      λ all. (next_readable line tokens at unread c.loop-token-test.true (c.loop-token.invariant.1 all)).1,
    )

pub returns : goal.returns
returns c =
    let none = drop_all c.loop-token.token-index c.args.tokens.now c.loop-token-test.false in
    (λ yes. c.loop-token.invariant.0 (subst (λ ts. AreReadable c.args.line.now ts) (sym none) tt), λ all. refl)
