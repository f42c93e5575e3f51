use Rattle.std.proofs.Common.{◌≡◌, false, Some, length, ap, arith}
use Rattle.ms_line_parts.proofs.Cut.{Member, front_are, not_all, at_value, at_mark, before_value}
use Rattle.ms_line_parts.proofs.fronts.member_front.Goals as goal

pub returns-then-n-tokens-clause-whole : goal.returns-then-n-tokens-clause-whole
returns-then-n-tokens-clause-whole c = λ run left value mark cut many member marked.
    absurd (not_all c.args.line.now c.args.tokens.now run left value mark c.in_ok-n.n (record { cut = cut; many = many; member = member; marked = marked }) c.in_ok-n.ensures.are c.if-n-tokens.true)

pub returns-then-not-is_list_mark-clause-whole : goal.returns-then-not-is_list_mark-clause-whole
returns-then-not-is_list_mark-clause-whole c = λ run left value mark cut many member marked.
    ap Some (at_value c.args.line.now c.args.tokens.now run left value mark _ c.in_ok-n.n (record { cut = cut; many = many; member = member; marked = marked }) c.in_ok-n.ensures.are
    (λ is. let e = c.if-not-is_list_mark.ensures.1 is in cc))

pub returns-then-not-is_list_mark-clause-are : goal.returns-then-not-is_list_mark-clause-are
returns-then-not-is_list_mark-clause-are c = (omega (arith, c.in_ok-n.ensures.within, c.if-n-tokens.false), front_are false c.args.line.now c.args.tokens.now c.in_ok-n.n c.in_ok-n.ensures.are)

pub returns-then-n-eq0-clause-whole : goal.returns-then-n-eq0-clause-whole
returns-then-n-eq0-clause-whole c = λ run left value mark cut many member marked.
    let at = at_mark c.args.line.now c.args.tokens.now run left value mark _ c.in_ok-n.n (record { cut = cut; many = many; member = member; marked = marked }) c.in_ok-n.ensures.are
    (c.is_list_mark.ensures.0 (c.if-not-is_list_mark.false)) in
    absurd (omega (arith, at, c.if-n-eq0.true))

pub returns-then-before-n-clause-whole : goal.returns-then-before-n-clause-whole
returns-then-before-n-clause-whole c = λ run left value mark cut many member marked.
    let at = at_mark c.args.line.now c.args.tokens.now run left value mark _ c.in_ok-n.n (record { cut = cut; many = many; member = member; marked = marked }) c.in_ok-n.ensures.are
    (c.is_list_mark.ensures.0 (c.if-not-is_list_mark.false)) in
    let one : c.in_ok-before.before ≡ length run = omega (arith, at, c.if-before-n.true) in
    ap Some one

pub returns-else-before-n-clause-whole : goal.returns-else-before-n-clause-whole
returns-else-before-n-clause-whole c = λ run left value mark cut many member marked.
    let m : Member c.args.line.now c.args.tokens.now run left value mark = record { cut = cut; many = many; member = member; marked = marked } in
    let at = at_mark c.args.line.now c.args.tokens.now run left value mark _ c.in_ok-n.n m c.in_ok-n.ensures.are (c.is_list_mark.ensures.0 (c.if-not-is_list_mark.false)) in
    let all = c.in_ok-before.ensures.whole run _ (before_value c.args.line.now c.args.tokens.now run left value mark c.in_ok-n.n m at) many tt in
    absurd (c.if-before-n.false (omega (arith, at, all)))
