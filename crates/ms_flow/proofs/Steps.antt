-- The steps of a walk that keeps the blocks that it is in.
use Rattle.std.proofs.Common.{◌≡◌, ℕ, zero, suc, ◌+◌, ◌-◌, ◌<◌, ◌≤◌, Bool, true, false, List, [], ◌∷◌, ◌++◌, length, get_or, set, drop, reverse, refl, sym, ap, ◌∙◌, arith, length-append, length-set}
use Rattle.std.proofs.lemmas.List.{drop_more, get_or_default, reverse-append}
use Rattle.std.proofs.lemmas.Bool.{false≢true}
use Rattle.ms_paths.specs.Flow.{Block as Run}
use Rattle.ms_flow.specs.Table.{next_of}
use Rattle.ms_flow.specs.declared.walker.Frame.{Frame}
use Rattle.ms_flow.specs.Walk.{WalkState, is_seen, enter, leave, each, visit, unseen}

-- the rest of the walk in a block
abbrev pub run : List Run → ℕ → Frame → WalkState → WalkState
run g n f s = leave f.block (each (visit g n) (drop f.slot (next_of g f.block)) s)

-- the rest of the walk in each block that was entered and not left, the first one entered first
abbrev pub resume : List Run → ℕ → List Frame → WalkState → WalkState
resume g n [] s = s
resume g zero (f ∷ fs) s = s
resume g (suc n) (f ∷ fs) s = run g n f (resume g n fs s)

pub visit_seen : (g : List Run) (n b : ℕ) (s : WalkState) → is_seen s b ≡ true → visit g n b s ≡ s
visit_seen g zero b s h = refl
visit_seen g (suc n) b s h = rw h refl

pub visit_new : (g : List Run) (n b : ℕ) (s : WalkState) → is_seen s b ≡ false → visit g (suc n) b s ≡ run g n (record { block = b; slot = 0 }) (enter b s)
visit_new g n b s h = rw h refl

resume-push : (g : List Run) (n : ℕ) (fs : List Frame) (f : Frame) (s : WalkState) (m : ℕ) → length fs + suc m ≡ n → resume g n (fs ++ f ∷ []) s ≡ resume g n fs (run g m f s)
resume-push g zero fs f s m e = absurd (omega arith)
resume-push g (suc n) [] f s m e = let same : n ≡ m = omega arith in ap (λ k. run g k f s) same
resume-push g (suc n) (x ∷ fs) f s m e = ap (run g n x) (resume-push g n fs f s m (omega arith))

run_end : (g : List Run) (m b slot : ℕ) (s : WalkState) → length (next_of g b) ≤ slot → run g m (record { block = b; slot = slot }) s ≡ leave b s
run_end g m b slot s h = ap (λ l. leave b (each (visit g m) l s)) (drop_past (next_of g b) slot h)
  where
    drop_past : (xs : List ℕ) (k : ℕ) → length xs ≤ k → drop k xs ≡ []
    drop_past [] zero h = refl
    drop_past [] (suc k) h = refl
    drop_past (x ∷ xs) zero h = absurd (omega arith)
    drop_past (x ∷ xs) (suc k) h = drop_past xs k (omega arith)

run_slot : (g : List Run) (m b slot : ℕ) (s : WalkState) → slot < length (next_of g b) → run g m (record { block = b; slot = slot }) s ≡ run g m (record { block = b; slot = slot + 1 }) (visit g m (get_or (next_of g b) slot 0) s)
run_slot g m b slot s h = ap (λ l. leave b (each (visit g m) l s)) (drop_more (next_of g b) slot 0 h)

pub unseen-set : (marks : List Bool) (b : ℕ) → b < length marks → get_or marks b false ≡ false → suc (unseen (set marks b true)) ≡ unseen marks
unseen-set [] b h e = absurd (omega arith)
unseen-set (true ∷ marks) zero h e = absurd (false≢true (sym e))
unseen-set (false ∷ marks) zero h e = refl
unseen-set (true ∷ marks) (suc b) h e = unseen-set marks b (omega arith) e
unseen-set (false ∷ marks) (suc b) h e = ap suc (unseen-set marks b (omega arith) e)

pub unseen-set_le : (marks : List Bool) (b : ℕ) → unseen (set marks b true) ≤ unseen marks
unseen-set_le [] b = omega arith
unseen-set_le (true ∷ marks) zero = omega arith
unseen-set_le (false ∷ marks) zero = omega arith
unseen-set_le (true ∷ marks) (suc b) = unseen-set_le marks b
unseen-set_le (false ∷ marks) (suc b) = let r = unseen-set_le marks b in omega arith

pub unseen_le : (marks : List Bool) → unseen marks ≤ length marks
unseen_le [] = omega arith
unseen_le (true ∷ marks) = let r = unseen_le marks in omega arith
unseen_le (false ∷ marks) = let r = unseen_le marks in omega arith

-- each frame is of a block of the graph
abbrev pub AreFrames : ℕ → List Frame → Type 0
AreFrames n [] = Unit {0}
AreFrames n (f ∷ fs) = (f.block < n) × (f.slot ≤ 2) × AreFrames n fs

frames-push : (n : ℕ) (fs : List Frame) (f : Frame) → AreFrames n fs → f.block < n → f.slot ≤ 2 → AreFrames n (fs ++ f ∷ [])
frames-push n [] f a b s = (b, s, tt)
frames-push n (x ∷ fs) f a b s = (a.0, a.1, frames-push n fs f a.2 b s)

frames_front : (n : ℕ) (fs : List Frame) (f : Frame) → AreFrames n (fs ++ f ∷ []) → AreFrames n fs
frames_front n [] f a = tt
frames_front n (x ∷ fs) f a = (a.0, a.1, frames_front n fs f a.2)

frames_last : (n : ℕ) (fs : List Frame) (f : Frame) → AreFrames n (fs ++ f ∷ []) → (f.block < n) × (f.slot ≤ 2)
frames_last n [] f a = (a.0, a.1)
frames_last n (x ∷ fs) f a = frames_last n fs f a.2

-- how much the frames still have to do
abbrev pub work : List Frame → ℕ
work [] = 0
work (f ∷ fs) = (3 - f.slot) + work fs

pub work-push : (fs : List Frame) (f : Frame) → work (fs ++ f ∷ []) ≡ work fs + (3 - f.slot)
work-push [] f = omega arith
work-push (x ∷ fs) f = let r = work-push fs f in omega arith

-- a walk on its way to a goal
pub record IsWalking (g : List Run) (goal : WalkState) (frames : List Frame) (marks : List Bool) (left : List ℕ) : Type 0 where
  pub same : resume g (length g) frames (record { seen = marks; left = reverse left }) ≡ goal
  pub sized : length marks ≡ length g
  pub room : length frames + length left + unseen marks ≤ length g
  pub inside : AreFrames (length g) frames

pub walking_begun : (g : List Run) (b : ℕ) (marks : List Bool) (left : List ℕ) → length marks ≡ length g → b < length g → get_or marks b false ≡ false → length left + unseen marks ≤ length g →
    IsWalking g (visit g (length g) b (record { seen = marks; left = reverse left })) (record { block = b; slot = 0 } ∷ []) (set marks b true) left
walking_begun g b marks left sized lt new room =
    let fall = unseen-set marks b (omega arith) new in
    record { same = begun (length g) lt; sized = simp length-set sized; room = omega arith; inside = (lt, omega arith, tt) }
  where
    begun : (n : ℕ) → b < n → resume g n (record { block = b; slot = 0 } ∷ []) (record { seen = set marks b true; left = reverse left }) ≡ visit g n b (record { seen = marks; left = reverse left })
    begun zero h = absurd (omega arith)
    begun (suc n) h = sym (visit_new g n b (record { seen = marks; left = reverse left }) new)

pub walking_frame : (g : List Run) (goal : WalkState) (fs : List Frame) (f : Frame) (marks : List Bool) (left : List ℕ) → IsWalking g goal (fs ++ f ∷ []) marks left → (f.block < length g) × (f.slot ≤ 2)
walking_frame g goal fs f marks left w = frames_last (length g) fs f w.inside

-- a frame with no slot left is done
pub walking_left : (g : List Run) (goal : WalkState) (fs : List Frame) (b slot : ℕ) (marks : List Bool) (left : List ℕ) → IsWalking g goal (fs ++ record { block = b; slot = slot } ∷ []) marks left → length (next_of g b) ≤ slot →
    IsWalking g goal fs marks (left ++ b ∷ [])
walking_left g goal fs b slot marks left w past =
    let here = length-append fs (record { block = b; slot = slot } ∷ []) in
    let there = length-append left (b ∷ []) in
    let room = w.room in
    let m : length fs + suc (length g - suc (length fs)) ≡ length g = omega arith in
    record {
      same = ap (λ l. resume g (length g) fs (record { seen = marks; left = l })) (reverse-append left (b ∷ []))
          ∙ ap (resume g (length g) fs) (sym (run_end g (length g - suc (length fs)) b slot (record { seen = marks; left = reverse left }) past))
          ∙ sym (resume-push g (length g) fs (record { block = b; slot = slot }) (record { seen = marks; left = reverse left }) (length g - suc (length fs)) m) ∙ w.same;
      sized = w.sized;
      room = omega arith;
      inside = frames_front (length g) fs (record { block = b; slot = slot }) w.inside;
    }

-- a target that was seen is passed over
pub walking_seen : (g : List Run) (goal : WalkState) (fs : List Frame) (b slot : ℕ) (marks : List Bool) (left : List ℕ) → IsWalking g goal (fs ++ record { block = b; slot = slot } ∷ []) marks left → slot < length (next_of g b) → slot + 1 ≤ 2 →
    get_or marks (get_or (next_of g b) slot 0) false ≡ true → IsWalking g goal (fs ++ record { block = b; slot = slot + 1 } ∷ []) marks left
walking_seen g goal fs b slot marks left w lt few seen =
    let here = length-append fs (record { block = b; slot = slot } ∷ []) in
    let there = length-append fs (record { block = b; slot = slot + 1 } ∷ []) in
    let room = w.room in
    let k = length g - suc (length fs) in
    let s : WalkState = record { seen = marks; left = reverse left } in
    let m : length fs + suc k ≡ length g = omega arith in
    record {
      same = resume-push g (length g) fs (record { block = b; slot = slot + 1 }) s k m
          ∙ ap (λ r. resume g (length g) fs (run g k (record { block = b; slot = slot + 1 }) r)) (sym (visit_seen g k (get_or (next_of g b) slot 0) s seen))
          ∙ ap (resume g (length g) fs) (sym (run_slot g k b slot s lt))
          ∙ sym (resume-push g (length g) fs (record { block = b; slot = slot }) s k m) ∙ w.same;
      sized = w.sized;
      room = omega arith;
      inside = frames-push (length g) fs (record { block = b; slot = slot + 1 }) (frames_front (length g) fs (record { block = b; slot = slot }) w.inside) (frames_last (length g) fs (record { block = b; slot = slot }) w.inside).0 few;
    }

-- a target that was not seen is entered
pub walking_new : (g : List Run) (goal : WalkState) (fs : List Frame) (b slot : ℕ) (marks : List Bool) (left : List ℕ) → IsWalking g goal (fs ++ record { block = b; slot = slot } ∷ []) marks left → slot < length (next_of g b) → slot + 1 ≤ 2 →
    get_or (next_of g b) slot 0 < length g → get_or marks (get_or (next_of g b) slot 0) false ≡ false →
    IsWalking g goal ((fs ++ record { block = b; slot = slot + 1 } ∷ []) ++ record { block = get_or (next_of g b) slot 0; slot = 0 } ∷ []) (set marks (get_or (next_of g b) slot 0) true) left
walking_new g goal fs b slot marks left w lt few below new =
    let t = get_or (next_of g b) slot 0 in
    let F : Frame = record { block = b; slot = slot } in
    let G : Frame = record { block = b; slot = slot + 1 } in
    let T : Frame = record { block = t; slot = 0 } in
    let here = length-append fs (F ∷ []) in
    let there = length-append fs (G ∷ []) in
    let over = length-append (fs ++ G ∷ []) (T ∷ []) in
    let room = w.room in
    let sized = w.sized in
    let fall = unseen-set marks t (omega arith) new in
    let k = length g - suc (suc (length fs)) in
    let s : WalkState = record { seen = marks; left = reverse left } in
    let m : length fs + suc (suc k) ≡ length g = omega arith in
    let n : length (fs ++ G ∷ []) + suc k ≡ length g = omega arith in
    record {
      same = resume-push g (length g) (fs ++ G ∷ []) T (enter t s) k n
          ∙ resume-push g (length g) fs G (run g k T (enter t s)) (suc k) m
          ∙ ap (λ r. resume g (length g) fs (run g (suc k) G r)) (sym (visit_new g k t s new))
          ∙ ap (resume g (length g) fs) (sym (run_slot g (suc k) b slot s lt))
          ∙ sym (resume-push g (length g) fs F s (suc k) m) ∙ w.same;
      sized = simp length-set sized;
      room = omega arith;
      inside = frames-push (length g) (fs ++ G ∷ []) T (frames-push (length g) fs G (frames_front (length g) fs F w.inside) (frames_last (length g) fs F w.inside).0 few) below (omega arith);
    }

pub empty : {A : Type 0} → (xs : List A) → length xs ≡ 0 → xs ≡ []
empty [] h = refl
empty (x ∷ xs) h = absurd (omega arith)

-- what a read of the marks tells
pub read_mark : (marks : List Bool) (b : ℕ) (r v : Bool) → b < length marks → r ≡ get_or marks b r → r ≡ v → get_or marks b false ≡ v
read_mark marks b r v lt e is = get_or_default marks b false r lt ∙ sym e ∙ is

pub resume_none : (g : List Run) (n : ℕ) (s : WalkState) → resume g n [] s ≡ s
resume_none g zero s = refl
resume_none g (suc n) s = refl
