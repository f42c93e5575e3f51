use Rattle.std.proofs.Common.{◌≡◌, ◌-◌, ◌+◌, ◌∙◌, None, Some, get_or, length, arith, sym}
use Rattle.ms_ir.specs.Order.{members}
use Rattle.ms_ir.proofs.LinkLemmas.{last_number, last_before}
use Rattle.ms_ir.proofs.links.Head.number_before.Goals as goal

pub unreachable-requires : goal.unreachable-requires
unreachable-requires c =
    let long : length (members c.args.next.now c.args.self) ≡ (c.args.place - 1) + 1 = omega (arith, c.requires.counted) in
    let both : None ≡ Some (get_or (members c.args.next.now c.args.self) (c.args.place - 1) 0) = sym c.in-None.is ∙ c.requires.last ∙ last_number None _ (c.args.place - 1) long in
    cc

pub returns-clause-number : goal.returns-clause-number
returns-clause-number c =
    let end : c.args.place ≡ length (members c.args.next.now c.args.self) = omega (arith, c.requires.counted) in
    (last_before _ _ _ _ _ _ c.requires.linked c.requires.last c.requires.later end c.in-Some.is).0

pub returns-clause-linked : goal.returns-clause-linked
returns-clause-linked c =
    let end : c.args.place ≡ length (members c.args.next.now c.args.self) = omega (arith, c.requires.counted) in
    (last_before _ _ _ _ _ _ c.requires.linked c.requires.last c.requires.later end c.in-Some.is).1
