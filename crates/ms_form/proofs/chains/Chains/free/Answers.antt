use Rattle.std.proofs.Common.{◌≡◌, arith, None, rules, refl}
use Rattle.std.proofs.Math.ListN.{replicate}
use Rattle.ms_form.specs.Chains.{no_link, home_of}
use Rattle.ms_form.proofs.ChainLemmas.{chains-free, lists_kept}
use Rattle.ms_form.proofs.ListLemmas.{map-replicated}
use Rattle.ms_form.proofs.chains.Chains.free.Goals as goal

pub invariant_of-result : goal.invariant_of-result
invariant_of-result c =
    let links_are : c.in_ok-links.links.items ≡ replicate c.args.numbers no_link = search rules in
    let heads_are : c.in_ok-heads.heads.items ≡ replicate c.args.lists None = search rules in
    let done = chains-free c.args.numbers c.args.lists in
    rw (links_are, heads_are, lists_kept _ _ _ done) (done, omega arith, omega arith)

pub returns : goal.returns
returns c =
    let links_are : c.in_ok-links.links.items ≡ replicate c.args.numbers no_link = search rules in
    let heads_are : c.in_ok-heads.heads.items ≡ replicate c.args.lists None = search rules in
    let done = chains-free c.args.numbers c.args.lists in
    rw (links_are, heads_are, lists_kept _ _ _ done, map-replicated home_of c.args.numbers no_link) refl
