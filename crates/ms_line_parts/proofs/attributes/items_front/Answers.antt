use Rattle.std.proofs.Common.{◌≡◌, ◌+◌, ◌≤◌, length, drop, refl, sym, ap, subst, ◌∙◌, arith}
use Rattle.std.proofs.lemmas.List.{take_rest, length-drop}
use Rattle.ms_grammar.specs.Parts.{texts}
use Rattle.ms_line_parts.specs.Reach.{item_length, AreLongest, stop}
use Rattle.ms_line_parts.proofs.Longest.{longer, left_behind}
use Rattle.ms_line_parts.proofs.attributes.items_front.Goals as goal

pub returns-then-n-eq0-clause-are : goal.returns-then-n-eq0-clause-are
returns-then-n-eq0-clause-are c =
    let none : item_length c.args.metadata (texts c.args.line.now (drop c.loop-n.at c.args.tokens.now)) ≡ 0 =
    ap (λ ts. item_length c.args.metadata (texts c.args.line.now ts)) (sym (take_rest c.args.tokens.now c.loop-n.at)) ∙ sym c.in_ok-n.ensures.is ∙ c.if-n-eq0.true in
    let end : c.loop-n.at + 0 ≡ c.loop-n.at = omega arith in
    subst (λ n. AreLongest c.args.metadata (texts c.args.line.now c.args.tokens.now) n) end (c.loop-n.invariant.so_far 0 (stop _ 0 none refl))

pub loop-n-preserved : goal.loop-n-preserved
loop-n-preserved c = record {
  within = (let rest = take_rest c.args.tokens.now c.loop-n.at in let short : c.in_ok-n.n ≤ length (drop c.loop-n.at c.args.tokens.now) = rw rest at c.in_ok-n.ensures.within in
      omega (arith, short, length-drop c.loop-n.at c.args.tokens.now));
  so_far = λ m rest.
      let is : c.in_ok-n.n ≡ item_length c.args.metadata (texts c.args.line.now (drop c.loop-n.at c.args.tokens.now)) =
      c.in_ok-n.ensures.is ∙ ap (λ ts. item_length c.args.metadata (texts c.args.line.now ts)) (take_rest c.args.tokens.now c.loop-n.at) in
      let end : c.loop-n.at + (c.in_ok-n.n + m) ≡ c.loop-n.at + c.in_ok-n.n + m = omega arith in
      subst (λ n. AreLongest c.args.metadata (texts c.args.line.now c.args.tokens.now) n) end (c.loop-n.invariant.so_far (c.in_ok-n.n + m)
      (longer c.args.metadata _ c.in_ok-n.n m is c.if-n-eq0.false (subst (λ ts. AreLongest c.args.metadata ts m) (sym (left_behind c.args.line.now c.args.tokens.now c.loop-n.at c.in_ok-n.n)) rest)));
}
