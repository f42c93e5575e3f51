use Rattle.std.proofs.Common.{◌≡◌, ◌∙◌, ◌-◌, ◌≤◌, ◌<◌, length, get_or, arith, sym, ap, inl, inr}
use Rattle.std.proofs.lemmas.List.{get_or_default}
use Rattle.ms_ir.specs.Func.{placed}
use Rattle.ms_ir.proofs.FuncLemmas.{at_listed}
use Rattle.ms_ir.proofs.LocalLemmas.{ungiven_past, ungiven_out, giver_number, gives_local}
use Rattle.ms_ir.proofs.func.Func.def_of.Goals as goal

pub returns-then-l-params-clause-found : goal.returns-then-l-params-clause-found
returns-then-l-params-clause-found c =
    let same : length c.self.inside.blocks.items ≡ length c.self.inside.order.lists = omega (arith, c.self.inside.blocks.ok.0) in
    rw (← c.self.view_is) (ungiven_past c.self.inside.nodes.items c.self.inside.results.items c.self.inside.blocks.items c.self.inside.order.lists (length c.self.inside.params) c.args.l c.self.invariant.5 same (inl (omega arith)))

pub returns-then-at-len-clause-found : goal.returns-then-at-len-clause-found
returns-then-at-len-clause-found c =
    let same : length c.self.inside.blocks.items ≡ length c.self.inside.order.lists = omega (arith, c.self.inside.blocks.ok.0) in
    rw (← c.self.view_is) (ungiven_past c.self.inside.nodes.items c.self.inside.results.items c.self.inside.blocks.items c.self.inside.order.lists (length c.self.inside.params) c.args.l c.self.invariant.5 same (inr (omega (arith, c.self.inside.results.ok.0))))

pub returns-in-Some-clause-found : goal.returns-in-Some-clause-found
returns-in-Some-clause-found c =
    let same : length c.self.inside.blocks.items ≡ length c.self.inside.order.lists = omega (arith, c.self.inside.blocks.ok.0) in
    let le : length c.self.inside.params ≤ c.args.l.0 = omega arith in
    let at_is : c.args.l.0 - c.len-params.result ≡ c.args.l.0 - length c.self.inside.params = ap (λ k. c.args.l.0 - k) c.len-params.ensures in
    let lt : c.args.l.0 - length c.self.inside.params < length c.self.inside.results.items = omega (arith, c.self.inside.results.ok.0) in
    let is : get_or c.self.inside.results.items (c.args.l.0 - length c.self.inside.params) 0 ≡ c.index-number.result.now =
    ap (λ k. get_or c.self.inside.results.items k 0) (sym at_is) ∙ get_or_default c.self.inside.results.items (c.args.l.0 - c.len-params.result) 0 c.index-number.result.now (omega (arith, lt, at_is)) ∙ sym c.index-number.ensures in
    let there = c.in-Some.ensures.block in
    rw (← c.self.view_is) (
      c.in-Some.field-0,
      there.0,
      placed c.self.inside.nodes.items c.index-number.result.now,
      at_listed c.self.inside.nodes.items c.self.inside.blocks.items c.self.inside.order.lists c.index-number.result.now c.in-Some.field-0 there.0 same there.1 there.2,
      gives_local c.self.inside.nodes.items c.self.inside.results.items (length c.self.inside.params) c.index-number.result.now c.args.l c.self.invariant.5 le lt is,
    )

pub returns-in-Some-clause-each : goal.returns-in-Some-clause-each
returns-in-Some-clause-each c =
    let same : length c.self.inside.blocks.items ≡ length c.self.inside.order.lists = omega (arith, c.self.inside.blocks.ok.0) in
    let le : length c.self.inside.params ≤ c.args.l.0 = omega arith in
    let at_is : c.args.l.0 - c.len-params.result ≡ c.args.l.0 - length c.self.inside.params = ap (λ k. c.args.l.0 - k) c.len-params.ensures in
    let lt : c.args.l.0 - length c.self.inside.params < length c.self.inside.results.items = omega (arith, c.self.inside.results.ok.0) in
    let is : get_or c.self.inside.results.items (c.args.l.0 - length c.self.inside.params) 0 ≡ c.index-number.result.now =
    ap (λ k. get_or c.self.inside.results.items k 0) (sym at_is) ∙ get_or_default c.self.inside.results.items (c.args.l.0 - c.len-params.result) 0 c.index-number.result.now (omega (arith, lt, at_is)) ∙ sym c.index-number.ensures in
    rw (← c.self.view_is) (λ b place x giver. (giver_number c.self.inside.nodes.items c.self.inside.results.items c.self.inside.blocks.items c.self.inside.order.lists (length c.self.inside.params) c.index-number.result.now c.args.l c.self.invariant.5 same le is b place x giver).0)

pub returns-in-None-clause-found : goal.returns-in-None-clause-found
returns-in-None-clause-found c =
    let same : length c.self.inside.blocks.items ≡ length c.self.inside.order.lists = omega (arith, c.self.inside.blocks.ok.0) in
    let le : length c.self.inside.params ≤ c.args.l.0 = omega arith in
    let at_is : c.args.l.0 - c.len-params.result ≡ c.args.l.0 - length c.self.inside.params = ap (λ k. c.args.l.0 - k) c.len-params.ensures in
    let lt : c.args.l.0 - length c.self.inside.params < length c.self.inside.results.items = omega (arith, c.self.inside.results.ok.0) in
    let is : get_or c.self.inside.results.items (c.args.l.0 - length c.self.inside.params) 0 ≡ c.index-number.result.now =
    ap (λ k. get_or c.self.inside.results.items k 0) (sym at_is) ∙ get_or_default c.self.inside.results.items (c.args.l.0 - c.len-params.result) 0 c.index-number.result.now (omega (arith, lt, at_is)) ∙ sym c.index-number.ensures in
    rw (← c.self.view_is) (ungiven_out c.self.inside.nodes.items c.self.inside.results.items c.self.inside.blocks.items c.self.inside.order.lists (length c.self.inside.params) c.index-number.result.now c.args.l c.self.invariant.5 same le is c.in-None.ensures.block)
