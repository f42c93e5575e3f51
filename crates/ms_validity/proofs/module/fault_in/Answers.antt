use Rattle.std.proofs.lemmas.Option.{MatchOption-at_some, MatchOption-at_none}
use Rattle.ms_validity.specs.Faults.{HasTypeFault, HasEdgeFault, HasOrderFault}
use Rattle.ms_validity.proofs.CauseLemmas.{is_named, is_closed, told_as, types_told, edges_told, order_told}
use Rattle.ms_validity.proofs.module.fault_in.Goals as goal

pub type_fault-requires-clause-closed : goal.type_fault-requires-clause-closed
type_fault-requires-clause-closed c = is_closed c.args.draft.now c.args.m.now c.args.lines.now c.requires.resolved

pub module_fault-requires-clause-closed : goal.module_fault-requires-clause-closed
module_fault-requires-clause-closed c = is_closed c.args.draft.now c.args.m.now c.args.lines.now c.requires.resolved

pub module_fault-requires-2-clause-closed : goal.module_fault-requires-2-clause-closed
module_fault-requires-2-clause-closed c = is_closed c.args.draft.now c.args.m.now c.args.lines.now c.requires.resolved

pub first_irreducible-requires-clause-closed : goal.first_irreducible-requires-clause-closed
first_irreducible-requires-clause-closed c = is_closed c.args.draft.now c.args.m.now c.args.lines.now c.requires.resolved

pub returns-in-Some : goal.returns-in-Some
returns-in-Some c =
    let r = c.requires.resolved in
    record {
      items = r.items;
      m = c.args.m.now;
      named = is_named c.args.draft.now c.args.m.now c.args.lines.now r;
      types = told_as (HasTypeFault r.items c.args.m.now) _ _ c.in-Some.is (types_told c.args.draft.now c.args.m.now c.args.lines.now r c.in_ok-line.field-0 c.in_ok-line.ensures);
    }

pub returns-in-Some-2 : goal.returns-in-Some-2
returns-in-Some-2 c =
    let r = c.requires.resolved in
    record {
      items = r.items;
      m = c.args.m.now;
      named = is_named c.args.draft.now c.args.m.now c.args.lines.now r;
      types = told_as (HasTypeFault r.items c.args.m.now) _ _ c.in-None.is (types_told c.args.draft.now c.args.m.now c.args.lines.now r c.in_ok-line.field-0 c.in_ok-line.ensures);
      edges = told_as (HasEdgeFault r.items c.args.m.now) _ _ c.in-Some-2.is (edges_told c.args.draft.now c.args.m.now c.args.lines.now r c.in_ok-line-2.field-0 c.in_ok-line-2.ensures);
    }

pub returns-in-Some-3 : goal.returns-in-Some-3
returns-in-Some-3 c =
    let r = c.requires.resolved in
    record {
      items = r.items;
      m = c.args.m.now;
      named = is_named c.args.draft.now c.args.m.now c.args.lines.now r;
      types = told_as (HasTypeFault r.items c.args.m.now) _ _ c.in-None.is (types_told c.args.draft.now c.args.m.now c.args.lines.now r c.in_ok-line.field-0 c.in_ok-line.ensures);
      edges = told_as (HasEdgeFault r.items c.args.m.now) _ _ c.in-None-2.is (edges_told c.args.draft.now c.args.m.now c.args.lines.now r c.in_ok-line-2.field-0 c.in_ok-line-2.ensures);
      order = told_as (HasOrderFault r.items c.args.m.now) _ _ c.in-Some-3.is (order_told c.args.draft.now c.args.m.now c.args.lines.now r c.in_ok-line-3.field-0 c.in_ok-line-3.ensures);
    }

pub returns-in-Some-4 : goal.returns-in-Some-4
returns-in-Some-4 c =
    let r = c.requires.resolved in
    record {
      items = r.items;
      m = c.args.m.now;
      named = is_named c.args.draft.now c.args.m.now c.args.lines.now r;
      types = told_as (HasTypeFault r.items c.args.m.now) _ _ c.in-None.is (types_told c.args.draft.now c.args.m.now c.args.lines.now r c.in_ok-line.field-0 c.in_ok-line.ensures);
      edges = told_as (HasEdgeFault r.items c.args.m.now) _ _ c.in-None-2.is (edges_told c.args.draft.now c.args.m.now c.args.lines.now r c.in_ok-line-2.field-0 c.in_ok-line-2.ensures);
      order = told_as (HasOrderFault r.items c.args.m.now) _ _ c.in-None-3.is (order_told c.args.draft.now c.args.m.now c.args.lines.now r c.in_ok-line-3.field-0 c.in_ok-line-3.ensures);
      irreducible = MatchOption-at_some _ _ c.in-Some-4.f c.in-Some-4.is c.in_ok-f.ensures;
    }

pub returns-in-None-4 : goal.returns-in-None-4
returns-in-None-4 c =
    let r = c.requires.resolved in
    record {
      items = r.items;
      named = is_named c.args.draft.now c.args.m.now c.args.lines.now r;
      types = told_as (HasTypeFault r.items c.args.m.now) _ _ c.in-None.is (types_told c.args.draft.now c.args.m.now c.args.lines.now r c.in_ok-line.field-0 c.in_ok-line.ensures);
      edges = told_as (HasEdgeFault r.items c.args.m.now) _ _ c.in-None-2.is (edges_told c.args.draft.now c.args.m.now c.args.lines.now r c.in_ok-line-2.field-0 c.in_ok-line-2.ensures);
      order = told_as (HasOrderFault r.items c.args.m.now) _ _ c.in-None-3.is (order_told c.args.draft.now c.args.m.now c.args.lines.now r c.in_ok-line-3.field-0 c.in_ok-line-3.ensures);
      reducible = MatchOption-at_none _ _ c.in-None-4.is c.in_ok-f.ensures;
    }
