use Rattle.std.proofs.Common.{◌≡◌, ◌+◌, ◌<◌, ℕ, true, false, List, [], ◌∷◌, ◌++◌, length, get_or, sym, ap, ◌∙◌, subst, arith}
use Rattle.ms_flow.specs.Table.{next_of}
use Rattle.ms_flow.specs.declared.walker.Frame.{Frame}
use Rattle.ms_flow.proofs.Steps.{work, work-push, walking_begun, walking_frame, walking_left, walking_seen, walking_new, empty, read_mark, unseen-set, resume_none}
use Rattle.ms_flow.proofs.walker.Walker.visit.Goals as goal

pub walk-init : goal.walk-init
walk-init c =
    let F : Frame = record { block = c.args.b; slot = 0 } in
    let none : c.self.inside.frames.items ≡ [] = empty c.self.inside.frames.items (omega (arith, c.self.inside.frames.ok.0)) in
    let frames : c.push_reserved.new.self.items ≡ F ∷ [] = c.push_reserved.ensures.items ∙ ap (λ (l : List Frame). l ++ F ∷ []) none in
    let blocks = rw (← c.self.view_is) at c.requires.blocks in
    let marks = c.self.inside.marks.ok.0 in
    let new = read_mark c.self.inside.marks.items c.args.b c.index.result.now false (omega arith) c.index.ensures c.if-index.false in (
      rw (← c.self.view_is, frames) (walking_begun c.args.table.now c.args.b c.self.inside.marks.items c.self.inside.left.items blocks c.requires.block new (omega (arith, c.self.inside.left.ok.0))),
      omega arith,
      omega arith,
      omega arith,
    )

pub count-requires : goal.count-requires
count-requires c =
    let w = rw c.in-Some.ensures.items at c.walk.invariant.0 in
    (walking_frame _ _ _ _ _ _ w).0

pub at-target-requires-clause-block : goal.at-target-requires-clause-block
at-target-requires-clause-block c =
    let w = rw c.in-Some.ensures.items at c.walk.invariant.0 in
    (walking_frame _ _ _ _ _ _ w).0

pub index-requires-then-frame-count : goal.index-requires-then-frame-count
index-requires-then-frame-count c =
    let sized = c.walk.invariant.0.sized in
    let below = c.at-target.ensures.within in
    omega (arith, c.walk.self-inside.marks.ok.0)

pub index_mut-requires-then-not-index : goal.index_mut-requires-then-not-index
index_mut-requires-then-not-index c =
    let sized = c.walk.invariant.0.sized in
    let below = c.at-target.ensures.within in
    omega (arith, c.walk.self-inside.marks.ok.0)

pub push_reserved-requires-then-not-index : goal.push_reserved-requires-then-not-index
push_reserved-requires-then-not-index c =
    let sized = c.walk.invariant.0.sized in
    let room = c.walk.invariant.0.room in
    let marks = c.walk.self-inside.marks.ok.0 in
    let frames = c.walk.self-inside.frames.ok.0 in
    let below = c.at-target.ensures.within in
    let new = read_mark c.walk.self-inside.marks.items c.at-target.result c.index-then-frame-count.result.now false (omega arith) c.index-then-frame-count.ensures c.if-not-index.true in
    let fall = unseen-set c.walk.self-inside.marks.items c.at-target.result (omega arith) new in
    let front = c.in-Some.ensures.len in
    let capacity = c.in-Some.ensures.capacity in
    let pushed = c.push_reserved-then-frame-count.ensures.len in
    let kept = c.push_reserved-then-frame-count.ensures.capacity in
    omega arith

pub walk-smaller-then-not-index : goal.walk-smaller-then-not-index
walk-smaller-then-not-index c =
    let sized = c.walk.invariant.0.sized in
    let marks = c.walk.self-inside.marks.ok.0 in
    let below = c.at-target.ensures.within in
    let new = read_mark c.walk.self-inside.marks.items c.at-target.result c.index-then-frame-count.result.now false (omega arith) c.index-then-frame-count.ensures c.if-not-index.true in
    let fall = unseen-set c.walk.self-inside.marks.items c.at-target.result (omega arith) new in
    let G : Frame = record { block = c.in-Some.frame.block; slot = c.in-Some.frame.slot + 1 } in
    let T : Frame = record { block = c.at-target.result; slot = 0 } in
    let after : work c.push_reserved-then-not-index.new.self.items ≡ work (c.pop.new.self.items ++ G ∷ []) + 3 = ap work c.push_reserved-then-not-index.ensures.items ∙ ap (λ (l : List Frame). work (l ++ T ∷ [])) c.push_reserved-then-frame-count.ensures.items ∙ work-push (c.pop.new.self.items ++ G ∷ []) T in
    let between = work-push c.pop.new.self.items G in
    let before = ap work c.in-Some.ensures.items ∙ work-push c.pop.new.self.items c.in-Some.frame in
    let few = c.count.ensures.few in
    omega arith

pub walk-preserved-then-not-index : goal.walk-preserved-then-not-index
walk-preserved-then-not-index c =
    let sized = c.walk.invariant.0.sized in
    let marks = c.walk.self-inside.marks.ok.0 in
    let below = c.at-target.ensures.within in
    let few = c.count.ensures.few in
    let count = c.count.ensures.count in
    let w = rw c.in-Some.ensures.items at c.walk.invariant.0 in
    let new = read_mark c.walk.self-inside.marks.items c.at-target.result c.index-then-frame-count.result.now false (omega arith) c.index-then-frame-count.ensures c.if-not-index.true in
    let target : c.at-target.result ≡ get_or (next_of c.args.table.now c.in-Some.frame.block) c.in-Some.frame.slot 0 = c.at-target.ensures.target in
    let lt : c.in-Some.frame.slot < length (next_of c.args.table.now c.in-Some.frame.block) = omega arith in
    let lt' = subst (λ (t : ℕ). t < length c.args.table.now) target below in
    let new' = subst (λ (t : ℕ). get_or c.walk.self-inside.marks.items t false ≡ false) target new in
    let next = walking_new _ _ c.pop.new.self.items c.in-Some.frame.block c.in-Some.frame.slot _ _ w lt (omega arith) lt' new' in (
      rw (c.push_reserved-then-not-index.ensures.items, c.push_reserved-then-frame-count.ensures.items, target) next,
      omega arith,
      omega arith,
      omega arith,
    )

pub walk-smaller-else-not-index : goal.walk-smaller-else-not-index
walk-smaller-else-not-index c =
    let G : Frame = record { block = c.in-Some.frame.block; slot = c.in-Some.frame.slot + 1 } in
    let after = ap work c.push_reserved-then-frame-count.ensures.items ∙ work-push c.pop.new.self.items G in
    let before = ap work c.in-Some.ensures.items ∙ work-push c.pop.new.self.items c.in-Some.frame in
    let few = c.count.ensures.few in
    omega arith

pub walk-preserved-else-not-index : goal.walk-preserved-else-not-index
walk-preserved-else-not-index c =
    let sized = c.walk.invariant.0.sized in
    let marks = c.walk.self-inside.marks.ok.0 in
    let below = c.at-target.ensures.within in
    let few = c.count.ensures.few in
    let count = c.count.ensures.count in
    let w = rw c.in-Some.ensures.items at c.walk.invariant.0 in
    let seen = read_mark c.walk.self-inside.marks.items c.at-target.result c.index-then-frame-count.result.now true (omega arith) c.index-then-frame-count.ensures c.if-not-index.false in
    let lt : c.in-Some.frame.slot < length (next_of c.args.table.now c.in-Some.frame.block) = omega arith in
    let seen' = subst (λ (t : ℕ). get_or c.walk.self-inside.marks.items t false ≡ true) c.at-target.ensures.target seen in
    let next = walking_seen _ _ c.pop.new.self.items c.in-Some.frame.block c.in-Some.frame.slot _ _ w lt (omega arith) seen' in
    (rw c.push_reserved-then-frame-count.ensures.items next, omega arith, omega arith, omega arith)

pub push_reserved-requires-else-frame-count : goal.push_reserved-requires-else-frame-count
push_reserved-requires-else-frame-count c =
    let sized = c.walk.invariant.0.sized in
    let room = c.walk.invariant.0.room in
    let marks = c.walk.self-inside.marks.ok.0 in
    let frames = c.walk.self-inside.frames.ok.0 in
    let left = c.walk.self-inside.left.ok.0 in
    let front = c.in-Some.ensures.len in
    omega arith

pub walk-smaller : goal.walk-smaller
walk-smaller c =
    let w = rw c.in-Some.ensures.items at c.walk.invariant.0 in
    let in' = walking_frame _ _ _ _ _ _ w in
    let few = in'.1 in
    let before = ap work c.in-Some.ensures.items ∙ work-push c.pop.new.self.items c.in-Some.frame in
    omega arith

pub walk-preserved : goal.walk-preserved
walk-preserved c =
    let count = c.count.ensures.count in
    let w = rw c.in-Some.ensures.items at c.walk.invariant.0 in
    let next = walking_left _ _ c.pop.new.self.items c.in-Some.frame.block c.in-Some.frame.slot _ _ w (omega arith) in
    (rw c.push_reserved-else-frame-count.ensures.items next, omega arith, omega arith, omega arith)

pub invariant_of-self : goal.invariant_of-self
invariant_of-self c =
    let sized = c.walk.invariant.0.sized in
    let room = c.walk.invariant.0.room in
    let marks = c.walk.self-inside.marks.ok.0 in
    let left = c.walk.self-inside.left.ok.0 in
    let none = c.in_default.ensures.cases in
    let capacity = c.in_default.ensures.capacity in
    (omega arith, omega arith, omega arith, omega arith, omega arith)

pub returns-clause-walk : goal.returns-clause-walk
returns-clause-walk c =
    let cases = c.in_default.ensures.cases in
    let none : c.walk.self-inside.frames.items ≡ [] = empty c.walk.self-inside.frames.items (omega (arith, c.walk.self-inside.frames.ok.0)) in
    let w = rw none at c.walk.invariant.0 in
    sym (resume_none c.args.table.now (length c.args.table.now) _) ∙ w.same

pub returns-clause-blocks : goal.returns-clause-blocks
returns-clause-blocks c = c.walk.invariant.0.sized
