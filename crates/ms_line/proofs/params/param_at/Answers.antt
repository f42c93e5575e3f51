use Rattle.std.proofs.Common.{◌+◌, ap, subst, ◌∙◌}
use Rattle.ms_grammar.specs.Parts.{kept_text}
use Rattle.ms_line.specs.Params.{IsNameFirst}
use Rattle.ms_line.proofs.ParamLemmas.{param_found, no_param_type}
use Rattle.ms_line.proofs.params.param_at.Goals as goal

pub returns-in_default-type_at : goal.returns-in_default-type_at
returns-in_default-type_at c = no_param_type c.args.line.now c.args.tokens.now c.in-Some.rest.now c.in-Some.first c.in-Some.ensures.cells c.in_default-type_at.ensures

pub returns : goal.returns
returns c =
    let line = c.args.line.now in
    let n = c.in_ok-attributes.attributes in
    param_found line c.args.tokens.now c.in-Some.rest.now c.in-Some.first c.in-Some-type_at.ty n c.in_ok-text.text c.in_ok-name.name (1 + n + c.tokens_of.result) c.in-Some.ensures.cells
    c.in-Some-type_at.ensures c.in_ok-attributes.ensures.within c.in_ok-attributes.ensures.are c.in_ok-attributes.ensures.whole
    (c.in_ok-text.ensures ∙ ap (λ ts. kept_text line ts) c.before-2.ensures.value)
    (subst (λ ts. IsNameFirst line ts c.in_ok-name.name) c.behind.ensures.value c.in_ok-name.ensures) (ap (λ k. 1 + n + k) c.tokens_of.ensures)
