use Rattle.std.proofs.Common.{◌≡◌, ℕ, List, subst, sym, Result, Ok, Err}
use Rattle.std.specs.Result.{IfErr, IsErrAnd}
use Rattle.ms_lex.specs.Line.{NextIs, IsCause, EndsAfter, IsBadAfter, Follow}
use Rattle.ms_lex.specs.declared.fault.LexFault.{LexFault}
use Rattle.ms_lex.specs.declared.fault.LexFault.TheVariants.{Bad, Memory}
use Rattle.ms_lex.specs.declared.token.Token.{Token}
use Rattle.ms_lex.proofs.Follows.{follow_push, follow_end, each_token}
use Rattle.ms_lex.proofs.lex.tokens.Goals as goal

-- a fault that is passed on
passed_on : {A : Type 0} (P : LexFault → Type 0) (r : Result A LexFault) (fault : LexFault) → IsErrAnd r (λ e. e ≡ fault) → P fault → IfErr r P
passed_on P (Ok x) fault same holds = tt
passed_on P (Err e) fault same holds = subst P (sym same) holds

-- what stood next is the cause
cause : (line : List ℕ) (from : ℕ) (tokens : List Token) (fault : LexFault) → Follow line (λ place. place ≡ from) 0 tokens → NextIs line from (Err fault) → IsCause line fault
cause line from tokens (Bad at) follow next = (tokens, follow_end line (λ place. IsBadAfter line place at) 0 from tokens follow next)
cause line from tokens Memory follow next = tt

pub returns-in_err-token-clause-err : goal.returns-in_err-token-clause-err
returns-in_err-token-clause-err c =
    passed_on (IsCause c.args.line.now) _ c.in_err-token.field-0.0 c.from_residual.ensures.1
    (cause c.args.line.now c.loop-tokens.from c.loop-tokens.tokens c.in_err-token.field-0.0 c.loop-tokens.invariant.follow c.in_err-token.ensures)

pub loop-tokens-preserved : goal.loop-tokens-preserved
loop-tokens-preserved c =
    let here = rw c.in-Some.is at c.in_ok-token.ensures in
    record {
      within = here.within;
      follow = rw c.in_ok-push.ensures.ok (follow_push c.args.line.now 0 c.loop-tokens.from c.loop-tokens.tokens c.in-Some.token c.loop-tokens.invariant.follow here);
    }

pub returns-clause-ok : goal.returns-clause-ok
returns-clause-ok c =
    let end = rw c.in_default.is at c.in_ok-token.ensures in
    follow_end c.args.line.now (EndsAfter c.args.line.now) 0 c.loop-tokens.from c.loop-tokens.tokens c.loop-tokens.invariant.follow end

pub returns-clause-each : goal.returns-clause-each
returns-clause-each c = each_token c.args.line.now (λ place. place ≡ c.loop-tokens.from) 0 c.loop-tokens.tokens c.loop-tokens.invariant.follow
