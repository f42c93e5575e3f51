use Rattle.std.proofs.Common.{◌≡◌, ◌++◌, ◌∷◌, [], List, ℕ, None, length, sym, ap, ◌∙◌, subst, arith}
use Rattle.std.proofs.lemmas.List.{length-append}
use Rattle.ms_alias.specs.Tables.{IsRow}
use Rattle.ms_alias.specs.Building.{FloodState, flood_begun, met}
use Rattle.ms_alias.proofs.Rings.{local}
use Rattle.ms_alias.proofs.Floods.{IsFlood, work, flood_row, flood_next, flood_visited, flood_starts, work_visited}
use Rattle.ms_alias.proofs.flood.Flood.run.Goals as goal

pub search-init : goal.search-init
search-init c =
    let t = c.args.bases.now in
    let marks = c.requires.marks in
    let bits = c.requires.bits in
    let there = c.requires.there in
    let e = c.meet.ensures ∙ ap (met c.args.l) (c.clear.ensures ∙ ap (λ n. flood_begun n (length c.args.self.now.row.bits)) marks ∙ ap (flood_begun (length t.sets)) bits) in
    subst (IsFlood t c.args.func.now c.args.l None) (sym e) (flood_starts t c.args.func.now c.args.l (omega arith))

pub search-smaller : goal.search-smaller
search-smaller c =
    let next : FloodState = c.next.new.self in
    let before = ap work c.in-Some.ensures.rest in
    let grow = length-append next.todo (c.in-Some.m ∷ []) in
    let visit = work_visited c.args.bases.now c.args.func.now c.in-Some.m next in
    let after = ap work c.visit.ensures in
    omega arith

pub search-preserved : goal.search-preserved
search-preserved c =
    let t = c.args.bases.now in
    let i = subst (IsFlood t c.args.func.now c.args.l None) c.in-Some.ensures.rest c.search.invariant in
    let n = flood_next t c.args.func.now c.args.l c.in-Some.m c.next.new.self i in
    subst (IsFlood t c.args.func.now c.args.l None) (sym c.visit.ensures) (flood_visited t c.args.func.now c.args.l c.in-Some.m c.next.new.self c.requires.room n.0 n.1)

pub returns-clause-row : goal.returns-clause-row
returns-clause-row c =
    let t = c.args.bases.now in
    let none : c.search.self.todo ≡ [] = ap (λ (s : FloodState). s.todo) c.in_default.ensures.rest ∙ ap (λ (ys : List ℕ). ys ++ []) c.in_default.ensures.none in
    let row : c.search.self.row ≡ c.next.new.self.row = ap (λ (s : FloodState). s.row) c.in_default.ensures.rest in
    subst (IsRow t c.args.func.now (local c.args.l)) row (flood_row t c.args.func.now c.args.l c.search.self c.requires.room c.search.invariant none)
