use Rattle.std.proofs.Common.{ap, subst, ◌∙◌}
use Rattle.ms_grammar.specs.Parts.{kept_text}
use Rattle.ms_line.specs.Params.{NoParams}
use Rattle.ms_line.proofs.HeadLemmas.{no_head_front, no_head_params, head_told}
use Rattle.ms_line.proofs.heads.head_at.Goals as goal

pub returns-in_default : goal.returns-in_default
returns-in_default c = no_head_front c.args.keyword c.args.line.now c.args.tokens.now (rw c.in_default.is at c.in_ok-front.ensures)

pub returns-in_default-2 : goal.returns-in_default-2
returns-in_default-2 c =
    let line = c.args.line.now in
    no_head_params c.args.keyword line c.args.tokens.now c.in-Some.front (rw c.in-Some.is at c.in_ok-front.ensures)
    (subst (λ ts. NoParams line ts) c.behind-inner.ensures.value (rw c.in_default-2.is at c.in_ok-list.ensures))

pub returns : goal.returns
returns c =
    let line = c.args.line.now in
    head_told c.args.keyword line c.args.tokens.now c.behind-inner.result.now c.behind-rest.result.now c.in-Some.front c.in-Some-2.list c.in_ok-attributes.attributes c.in_ok-post.post
    (rw c.in-Some.is at c.in_ok-front.ensures) c.behind-inner.ensures.value c.behind-rest.ensures.value (rw c.in-Some-2.is at c.in_ok-list.ensures)
    (record {
      few = c.in_ok-attributes.ensures.within;
      many = c.in_ok-attributes.ensures.are;
      whole = c.in_ok-attributes.ensures.whole;
      kept = c.in_ok-post.ensures ∙ ap (λ ts. kept_text line ts) c.before-2.ensures.value;
    })
