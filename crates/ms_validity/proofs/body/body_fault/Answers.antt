use Rattle.std.proofs.Common.{ℕ, Option, sym, subst}
use Rattle.ms_validity.specs.Told.{BodyHas, InstHas, TermHas, Tells}
use Rattle.ms_validity.proofs.ToldLemmas.{told_either}
use Rattle.ms_validity.proofs.body.body_fault.Goals as goal

pub returns : goal.returns
returns c =
    subst (λ (o : Option ℕ). Tells (BodyHas c.args.phase c.args.m.now c.args.func.now c.args.lines.now) o) (sym c.earlier.ensures)
    (told_either (λ n. (i : ℕ) × InstHas c.args.phase c.args.m.now c.args.func.now c.args.lines.now.insts i n)
    (λ n. (b : ℕ) × TermHas c.args.phase c.args.func.now c.args.lines.now.terms b n) c.in_ok-inst.inst c.in_ok-term.term c.in_ok-inst.ensures.told c.in_ok-term.ensures.told)
