use Rattle.std.proofs.Common.{rules, sym, ◌∙◌}
use denote.Enum.Bare.{same_true, same_false}
use Rattle.ms_lex.specs.contracts.token.TokenKind.{the_type}
use Rattle.ms_line_parts.proofs.OneKind.{kind_told}
use Rattle.ms_line_parts.proofs.words.has_kind.Goals as goal

pub returns : goal.returns
returns c =
    kind_told c.args.token.kind c.args.kind _ c.eq.result c.requires.bytes
    (λ yes. same_true the_type (search rules) _ _ (sym c.eq.ensures ∙ yes)) (λ no. same_false the_type _ _ (sym c.eq.ensures ∙ no))
