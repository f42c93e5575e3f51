use Rattle.std.proofs.Common.{◌≡◌, ◌∙◌, ◌+◌, ◌∷◌, Bool, ap, sym, drop}
use Rattle.std.proofs.lemmas.List.{drop_more}
use Rattle.ms_grammar.specs.declared.line.RawArg.{RawArg}
use Rattle.ms_resolve.specs.Scope.{arg_of}
use Rattle.ms_script.specs.Names.{scope_of}
use Rattle.ms_resolve.proofs.BuildLemmas.{args_more}
use Rattle.ms_script.proofs.lookup.Lookup.args.Goals as goal

pub loop-at-preserved : goal.loop-at-preserved
loop-at-preserved c =
    let args = c.args.args.now in
    let at = c.loop-at.at in
    let a = c.index-args-at.result in
    let s = scope_of c.args.self.now.m.now c.args.self.now.func.now in
    let cut : drop at args ≡ a ∷ drop (at + 1) args = drop_more args at a c.loop-at-test.true ∙ ap (λ (x : RawArg). x ∷ drop (at + 1) args) (sym c.index-args-at.is) in
    args_more s c.args.marks.now (drop (at + 1) args) (drop at args) a at c.in_ok-arg.field-0 c.loop-at.all c.push.new.self _ cut c.in_ok-push.ensures.ok
    (c.in_ok-arg.ensures ∙ ap (λ (lets : Bool). arg_of s lets a) c.keeps_at.ensures) c.loop-at.invariant
