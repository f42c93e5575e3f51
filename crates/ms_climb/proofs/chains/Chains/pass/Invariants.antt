use Rattle.std.proofs.Common.{ℕ, Bool, drop}
use Rattle.ms_form.specs.Form.{FormState}
use Rattle.ms_climb.specs.Chains.{first_of, LeadTo}
use Rattle.ms_climb.proofs.ChainLemmas.{IsPassing}
use Rattle.ms_climb.proofs.chains.Chains.pass.Given as goal

-- the Defs that are left lead on from where the climb is
abbrev pub invariant-loop-i : goal.invariant-loop-i
invariant-loop-i l = (f : FormState) (E : ℕ → Bool) → LeadTo f E l.passed l.to → IsPassing f E (first_of l.passed l.to) l.to l.fn.self l.self (drop l.i-index l.passed)
