use Rattle.std.proofs.Common.{drop, ap, subst, ◌∙◌}
use Rattle.ms_grammar.specs.Parts.{kept_text}
use Rattle.ms_line.specs.Heads.{IsSignature, NoSignature}
use Rattle.ms_line.proofs.Cells.{not_true}
use Rattle.ms_line.proofs.ParamLemmas.{IsWholeFront}
use Rattle.ms_line.proofs.HeadLemmas.{no_front_word, no_front_signature, front_told}
use Rattle.ms_line.proofs.heads.front_at.Goals as goal

pub returns-then-not-starts_with : goal.returns-then-not-starts_with
returns-then-not-starts_with c =
    no_front_word c.args.keyword c.args.line.now c.args.tokens.now (λ first. not_true c.starts_with.result c.if-not-starts_with.true (c.starts_with.ensures.is.1 first))

pub returns-in-Some : goal.returns-in-Some
returns-in-Some c =
    let line = c.args.line.now in
    let n = c.in_ok-attributes.attributes in
    let first = c.starts_with.ensures.is.0 c.if-not-starts_with.false in
    front_told c.args.keyword line c.args.tokens.now c.behind-rest.result.now n c.in_ok-attrs.attrs c.in-Some.signature first.0 first.1 (c.starts_with.ensures.some c.if-not-starts_with.false)
    c.behind-rest.ensures.value
    (record {
      few = c.in_ok-attributes.ensures.within;
      many = c.in_ok-attributes.ensures.are;
      whole = c.in_ok-attributes.ensures.whole;
      kept = c.in_ok-attrs.ensures ∙ ap (λ ts. kept_text line ts) c.before-2.ensures.value;
      is = subst (λ ts. IsSignature line ts c.in-Some.signature) c.behind.ensures.value (rw c.in-Some.is at c.in_ok-signature.ensures);
    })

pub returns-in-None : goal.returns-in-None
returns-in-None c =
    let line = c.args.line.now in
    let n = c.in_ok-attributes.attributes in
    no_front_signature c.args.keyword line c.args.tokens.now n (subst (λ r. IsWholeFront line r n) c.behind-rest.ensures.value c.in_ok-attributes.ensures.whole)
    (subst (λ ts. NoSignature line ts) (c.behind.ensures.value ∙ ap (λ r. drop n r) c.behind-rest.ensures.value) (rw c.in-None.is at c.in_ok-signature.ensures))
