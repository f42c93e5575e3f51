use Rattle.std.proofs.Common.{◌≡◌, ◌+◌, false, take, refl, subst, arith}
use Rattle.ms_grammar.specs.Kept.{AreMany, IsAttribute}
use Rattle.ms_grammar.specs.Parts.{texts}
use Rattle.ms_line_parts.specs.Reach.{item_length}
use Rattle.ms_line_parts.proofs.Longest.{left_told, left_within, none_many}
use Rattle.ms_line_parts.proofs.Globals.{turn, no_kind_at, place_is, longer_front, item_here}
use Rattle.ms_line_parts.proofs.wholes.kind_place.Goals as goal

pub returns-then-is_kind-clause-is : goal.returns-then-is_kind-clause-is
returns-then-is_kind-clause-is c =
    let end : c.loop-at.at + 0 ≡ c.loop-at.at = omega arith in
    record {
      place = place_is c.args.line.now c.args.tokens.now c.loop-at.at _ c.loop-at-test.true
          (subst (λ k. AreMany IsAttribute (take k (texts c.args.line.now c.args.tokens.now))) end (c.loop-at.invariant.so_far 0 (none_many IsAttribute))) (c.is_kind.ensures.0 c.if-is_kind.true);
      first = λ before kind rest e many is. (let left = c.loop-at.invariant.first before kind rest e many is in record { place = c.loop-at.at; is = refl; within = left.within; left = left.many });
    }

pub returns-then-n-eq0-clause-is : goal.returns-then-n-eq0-clause-is
returns-then-n-eq0-clause-is c =
    let count = item_here c.args.line.now c.args.tokens.now c.loop-at.at c.in_ok-n.n (left_told c.args.line.now c.args.tokens.now c.loop-at.at (item_length false) c.in_ok-n.n c.in_ok-n.ensures.is) in
    record {
      place = tt;
      first = λ before kind rest e many is.
          (let next = turn _ before kind rest c.loop-at.at c.in_ok-n.n (c.loop-at.invariant.first before kind rest e many is) e is
          (no_kind_at c.args.line.now c.args.tokens.now c.loop-at.at _ c.loop-at-test.true (λ here. let yes = c.is_kind.ensures.1 here in let no = c.if-is_kind.false in cc)) count in
          let some = next.some in absurd (omega (arith, some, c.if-n-eq0.true)));
    }

pub loop-at-preserved : goal.loop-at-preserved
loop-at-preserved c =
    let count = item_here c.args.line.now c.args.tokens.now c.loop-at.at c.in_ok-n.n (left_told c.args.line.now c.args.tokens.now c.loop-at.at (item_length false) c.in_ok-n.n c.in_ok-n.ensures.is) in
    record {
      within = left_within c.args.tokens.now c.loop-at.at c.in_ok-n.n c.loop-at.invariant.within c.in_ok-n.ensures.within;
      so_far = λ k many.
          (let sum : c.loop-at.at + (c.in_ok-n.n + k) ≡ c.loop-at.at + c.in_ok-n.n + k = omega arith in
          subst (λ j. AreMany IsAttribute (take j (texts c.args.line.now c.args.tokens.now))) sum
          (c.loop-at.invariant.so_far (c.in_ok-n.n + k) (longer_front _ c.loop-at.at c.in_ok-n.n k count c.if-n-eq0.false many)));
      first = λ before kind rest e many is.
          (turn _ before kind rest c.loop-at.at c.in_ok-n.n (c.loop-at.invariant.first before kind rest e many is) e is
          (no_kind_at c.args.line.now c.args.tokens.now c.loop-at.at _ c.loop-at-test.true (λ here. let yes = c.is_kind.ensures.1 here in let no = c.if-is_kind.false in cc)) count).left;
    }
