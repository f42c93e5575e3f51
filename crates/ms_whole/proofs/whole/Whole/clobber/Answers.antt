use Rattle.std.proofs.Common.{refl, sym, subst}
use Rattle.std.specs.Prelude.{Contains}
use Rattle.std.proofs.lemmas.Bool.{true≢false}
use Rattle.ms_cache.specs.Stays.{query_of, NotKept}
use Rattle.ms_kept.specs.Answers.{AreRight, IsAskedLoc}
use Rattle.ms_whole.specs.Whole.{WholeState}
use Rattle.ms_whole.proofs.Asked.{none_kept, with_answer}
use Rattle.ms_whole.proofs.whole.Whole.clobber.Goals as goal

pub returns-in-Some-clause-walked : goal.returns-in-Some-clause-walked
returns-in-Some-clause-walked c = (
  λ e. absurd (true≢false (sym e)),
  λ none. absurd (none c.in-Some.access (subst (λ (s : WholeState). Contains s.kept (query_of c.args.i c.args.loc.now, c.in-Some.access)) c.self.view_is c.in-Some.ensures.found)),
)

pub returns-in_err-access-clause-known : goal.returns-in_err-access-clause-known
returns-in_err-access-clause-known c = none_kept _ _ (subst (λ (s : WholeState). NotKept s.kept (query_of c.args.i c.args.loc.now)) c.self.view_is c.in_default.ensures.found)

pub returns-in_err-put-clause-known : goal.returns-in_err-put-clause-known
returns-in_err-put-clause-known c = none_kept _ _ (subst (λ (s : WholeState). NotKept s.kept (query_of c.args.i c.args.loc.now)) c.self.view_is c.in_default.ensures.found)

pub invariant_of-self-2 : goal.invariant_of-self-2
invariant_of-self-2 c =
    let f = c.self.inside.parts.func in
    let asked = subst (λ (s : WholeState). IsAskedLoc s.func c.args.i c.args.loc.now) (sym c.self.view_is) c.requires.asked in (
      with_answer c.self.invariant.0 (subst (AreRight f) (sym c.in_ok-put.ensures.ok)
          (c.answers_may_be_kept.ensures.more f c.self.inside.parts.kept _ c.self.invariant.0.right (record { asked = asked; clobber = c.in_ok-access.ensures.clobber }))),
      c.self.invariant.1,
    )

pub returns-clause-walked : goal.returns-clause-walked
returns-clause-walked c =
    (λ e. subst (λ (s : WholeState). NotKept s.kept (query_of c.args.i c.args.loc.now)) c.self.view_is c.in_default.ensures.found, λ none. refl)
