use Rattle.std.proofs.Common.{[], ◌∷◌, ap, ◌∙◌}
use Rattle.ms_grammar.specs.Parts.{texts, kept_text, joined, result_word}
use Rattle.ms_line_insts.proofs.JoinLemmas.{three_more}
use Rattle.ms_line_insts.proofs.calls.call_text.Goals as goal

pub returns : goal.returns
returns c =
    c.from_vec.ensures ∙ three_more (texts c.args.line.now c.args.mark.now) (kept_text c.args.line.now c.args.before.now) (result_word c.args.ret) (kept_text c.args.line.now c.args.written.now) c.in_ok-text.text.items c.join_kept.new.out.items c.join.new.out.items c.join_kept-2.new.out.items
    c.in_ok-text.ensures c.in_ok-join_kept.ensures (c.in_ok-join.ensures ∙ ap (λ s. joined (c.join_kept.new.out.items ∷ s ∷ [])) c.result_bytes.ensures) c.in_ok-join_kept-2.ensures
