use Rattle.std.proofs.Common.{◌≡◌, [], ◌∷◌, ◌++◌, ap, ◌∙◌}
use Rattle.ms_grammar.specs.Parts.{texts, joined}
use Rattle.ms_grammar.specs.Words.{spelling}
use Rattle.ms_grammar.specs.declared.keyword.Keyword.TheVariants as word
use Rattle.ms_line_insts.proofs.CallLemmas.{copy_head_back, copy_found}
use Rattle.ms_line_insts.proofs.Fronts.{blank_off}
use Rattle.ms_line_insts.proofs.JoinLemmas.{one_more}
use Rattle.ms_line_insts.proofs.calls.copy_start.Goals as goal

pub returns-in_default-behind_word : goal.returns-in_default-behind_word
returns-in_default-behind_word c =
    λ y ps g h.
    let m = copy_head_back c.args.line.now c.args.tokens.now c.in-Some.mark.now c.in-Some.at_void.now y _ c.in-Some.ensures h in
    c.in_default-behind_word.ensures _ m.further

pub returns-in_default-behind_word-2 : goal.returns-in_default-behind_word-2
returns-in_default-behind_word-2 c =
    λ y ps g h.
    let m = copy_head_back c.args.line.now c.args.tokens.now c.in-Some.mark.now c.in-Some.at_void.now y _ c.in-Some.ensures h in
    let name = blank_off c.args.line.now c.in-Some-behind_word.at_name.now _ (c.in-Some-behind_word.ensures.back _ m.further) in
    c.in_default-behind_word-2.ensures _ name

pub returns-in_default-behind_word-3 : goal.returns-in_default-behind_word-3
returns-in_default-behind_word-3 c =
    λ y ps g h.
    let m = copy_head_back c.args.line.now c.args.tokens.now c.in-Some.mark.now c.in-Some.at_void.now y _ c.in-Some.ensures h in
    let name = blank_off c.args.line.now c.in-Some-behind_word.at_name.now _ (c.in-Some-behind_word.ensures.back _ m.further) in
    c.in_default-behind_word-3.ensures _ (c.in-Some-behind_word-2.ensures.back _ name)

pub returns : goal.returns
returns c =
    let one : c.join.new.out.items ≡ joined (c.in_ok-text.text.items ∷ spelling word.Void ∷ []) = c.in_ok-join.ensures ∙ ap (λ s. joined (c.in_ok-text.text.items ∷ s ∷ [])) c.keyword_bytes.ensures in
    let is : c.from_vec.result ≡ joined (texts c.args.line.now c.in-Some.mark.now ++ spelling word.Void ∷ []) = c.from_vec.ensures ∙ one_more (texts c.args.line.now c.in-Some.mark.now) _ _ _ c.in_ok-text.ensures one in
    copy_found c.args.line.now c.args.tokens.now c.in-Some.mark.now c.in-Some.at_void.now c.in-Some-behind_word.at_name.now c.in-Some-behind_word-2.at_open.now c.in-Some-behind_word-3.rest.now c.from_vec.result c.in-Some.ensures c.in-Some-behind_word.ensures c.in-Some-behind_word-2.ensures c.in-Some-behind_word-3.ensures is
