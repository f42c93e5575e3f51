-- Answers that stay behind a put, a take, a move, another source and a load that gave way.
use Rattle.std.proofs.Common.{◌≡◌, ◌<◌, ◌↔◌, ◌⊎◌, ℕ, zero, suc, true, false, List, [], ◌∷◌, Some, length, get_or, sym, ap, ◌∙◌, inl, inr, ⊎_elim, arith}
use Rattle.std.specs.Prelude.{◌≢◌, slice_get, insert}
use Rattle.std.proofs.lemmas.Bool.{cases_Bool}
use Rattle.ms_ir.specs.declared.names.Name.{Name}
use Rattle.ms_ir.specs.declared.inst.Val.{Val}
use Rattle.ms_ir.specs.declared.inst.Inst.{Inst}
use Rattle.ms_ir.specs.declared.inst.Inst.TheVariants.{Load}
use Rattle.ms_ir.specs.Inst.{kind_of_inst, result_type, result_for}
use Rattle.ms_ir.specs.Types.{types_stand}
use Rattle.ms_ir.specs.Graph.{is_def}
use Rattle.ms_ir.specs.Func.{Placed, Block, FuncState, IsAt, IsTaken, IsShifted, no_block, insts_at, with_insts, put_at, after_put}
use Rattle.ms_ir.specs.Changes.{with_replaced}
use Rattle.ms_ir.specs.Locals.{IsNumbered}
use Rattle.ms_ir.specs.SoundFunc.{IsSoundFunc}
use Rattle.ms_alias.specs.declared.loc.Loc.{Loc}
use Rattle.ms_alias.specs.Roots.{makes_pointer}
use Rattle.ms_alias.specs.Captured.{IsCaptured, Differ}
use Rattle.ms_alias.specs.Meeting.{MayWrite}
use Rattle.ms_alias.specs.Tables.{AliasState, IsAliasOf}
use Rattle.ms_alias.proofs.Edits as tables
use Rattle.ms_cache.specs.Edited.{MakesNone, GivesWay, IsLoadGone, SamePointers, SameWrites}
use Rattle.ms_cache.specs.Stays.{Kept}
use Rattle.ms_cache.proofs.Alike.{Alike, seen}
use Rattle.ms_cache.proofs.Insts.{Has, set_from}
use Rattle.ms_cache.proofs.Shifted.{shift_tables, shift_pointers, shift_writes}
use Rattle.ms_cache.proofs.Replaced.{replaced_pointers, replaced_writes}
use Rattle.ms_cache.proofs.Taken.{load_pointers, load_writes}
use Rattle.ms_cache.proofs.Told.{one_idle}
use Rattle.ms_steady.proofs.Fits.{stored_integer}
use Rattle.ms_kept.specs.Spared.{IsIdle, IsQuiet}
use Rattle.ms_kept.specs.Answers.{IsRight}
use Rattle.ms_kept.proofs.Edits.{put_same, taken_same, shifted_same}
use Rattle.ms_kept.proofs.Idle.{idle_writes_not, idle_turns_not}
use Rattle.ms_kept.proofs.Captures.{same_captured, taken_nowhere, taken_alike}
use Rattle.ms_kept.proofs.Between.{own_read, turned_kept, turns_none, absent_quiet, present_quiet, turn_quiet, other_pointers, others_same, right_between}
use Rattle.ms_kept.proofs.Renamed.{replaced_right, replaced_one_place}

-- one instruction has a number
one_inst : (f : FuncState) → IsNumbered f → (n b k c j : ℕ) (x y : Placed) → IsAt f.blocks n b k x → IsAt f.blocks n c j y → x ≡ y
one_inst f numbered n b k c j x y at other =
    let one = numbered.one_place b k c j x y at.found other.found (at.numbered ∙ sym other.numbered) in
    let both : Some x ≡ Some y = sym at.found ∙ ap (λ d. slice_get (insts_at f.blocks d) k) one.0 ∙ ap (slice_get (insts_at f.blocks c)) one.1 ∙ other.found in
    cc

-- what counts of the instruction that was put, taken or moved: it may write the location only if it is a Def
abbrev pub IsSparedBy : FuncState → ℕ → Inst → Loc → Type 0
IsSparedBy f n inst loc = is_def (kind_of_inst inst) ≡ true → MayWrite f n loc → ⊥

-- so it may not write the location at all
at_all : (f : FuncState) (n : ℕ) (inst : Inst) (loc : Loc) → ((b k : ℕ) (x : Placed) → IsAt f.blocks n b k x → x.inst ≡ inst) → IsSparedBy f n inst loc → MayWrite f n loc → ⊥
at_all f n inst loc is spared w =
    ⊎_elim
    (λ (t : is_def (kind_of_inst inst) ≡ true). spared t w)
    (λ (no : is_def (kind_of_inst inst) ≡ false). idle_writes_not f n loc (λ b k x at. ap (λ i. is_def (kind_of_inst i)) (is b k x at) ∙ no) w)
    (cases_Bool (is_def (kind_of_inst inst)))

-- ---- put

of_put : (xs : List Placed) (p : ℕ) (x : Placed) (k : ℕ) (y : Placed) → slice_get (insert xs p x) k ≡ Some y → (x ≡ y) ⊎ ((j : ℕ) × (slice_get xs j ≡ Some y))
of_put [] zero x zero y e = inl (cc)
of_put [] zero x (suc k) y e = cc
of_put [] (suc p) x zero y e = inl (cc)
of_put [] (suc p) x (suc k) y e = cc
of_put (z ∷ zs) zero x zero y e = inl (cc)
of_put (z ∷ zs) zero x (suc k) y e = inr (k, e)
of_put (z ∷ zs) (suc p) x zero y e = inr (zero, e)
of_put (z ∷ zs) (suc p) x (suc k) y e =
    ⊎_elim
    (λ (s : x ≡ y). inl s)
    (λ (r : (j : ℕ) × (slice_get zs j ≡ Some y)). inr (suc r.0, r.1))
    (of_put zs p x k y e)

put_from : (blocks : List Block) (b p : ℕ) (x y : Placed) → Has (put_at blocks b p x) y → (x ≡ y) ⊎ Has blocks y
put_from blocks b p x y h =
    ⊎_elim
    (λ (l : (j : ℕ) × (slice_get (insert (insts_at blocks b) p x) j ≡ Some y)).
    ⊎_elim
    (λ (s : x ≡ y). inl s)
    (λ (r : (j : ℕ) × (slice_get (insts_at blocks b) j ≡ Some y)). inr (b, r.0, r.1))
    (of_put (insts_at blocks b) p x l.0 y l.1))
    (λ (r : Has blocks y). inr r)
    (set_from blocks b (with_insts (get_or blocks b no_block) (insert (insts_at blocks b) p x)) h.0 h.1 y h.2)

module _ (f : FuncState) (b place : ℕ) (inst : Inst) (name : Name) (numbered : IsNumbered f) where
  new_absent : (c k : ℕ) (x : Placed) → IsAt f.blocks f.made c k x → ⊥
  new_absent c k x at = let below = numbered.below_made c k x at.found in let same : x.number ≡ f.made = at.numbered in omega arith

  new_there : (c k : ℕ) (x : Placed) → IsAt (after_put f b place inst name).blocks f.made c k x → x.inst ≡ inst
  new_there c k x at =
      let new : Placed = record { number = f.made; result = result_for inst f.locals; name = name; inst = inst } in
      ⊎_elim
      (λ (s : new ≡ x). ap (λ (z : Placed). z.inst) (sym s))
      (λ (r : Has f.blocks x). let below = numbered.below_made r.0 r.1 x r.2 in let same : x.number ≡ f.made = at.numbered in absurd (omega arith))
      (put_from f.blocks b place new x (c, k, at.found))

put_alike : (f : FuncState) (b place : ℕ) (inst : Inst) (name : Name) → makes_pointer inst ≡ false → Alike f (after_put f b place inst name)
put_alike f b place inst name idle = let s = tables.put_same f b place inst name idle in record { makers = λ l. ap seen (s.makers l); params = s.params; edges = s.edges }

pub put_right : (f : FuncState) (b place : ℕ) (inst : Inst) (name : Name) → makes_pointer inst ≡ false → IsNumbered f → IsNumbered (after_put f b place inst name) → IsSoundFunc (after_put f b place inst name)
    → (a d : AliasState) → IsAliasOf f a → IsAliasOf (after_put f b place inst name) d → (Differ (IsCaptured f) (IsCaptured (after_put f b place inst name)) → ⊥)
    → (x : Kept) → x.0.inst.0 ≢ f.made → IsSparedBy (after_put f b place inst name) f.made inst x.0.loc → IsRight f x → IsRight (after_put f b place inst name) x
put_right f b place inst name idle numbered numbered_g sound a d is is_g captures x ne spared right =
    let g : FuncState = after_put f b place inst name in
    let but = put_same f b place inst name in
    let alike = put_alike f b place inst name idle in
    let none : MakesNone f f.made = λ c k y at. absurd (new_absent f b place inst name numbered c k y at) in
    let there : MakesNone g f.made = λ c k y at. ap makes_pointer (new_there f b place inst name numbered c k y at) ∙ idle in
    let captured = same_captured f g a d is is_g captures in
    right_between f g f.made but (other_pointers f g f.made but alike none there captured) x ne
    (others_same f g f.made but alike none there captured x.0.loc (own_read f x.0.inst f.made x.0.loc right.asked ne))
    (absent_quiet f f.made x.0.loc (new_absent f b place inst name numbered))
    (present_quiet g numbered_g sound d is_g f.made x.0.loc there (at_all g f.made inst x.0.loc (new_there f b place inst name numbered) spared))
    right

-- ---- taken

pub taken_right : (f g : FuncState) (n : ℕ) (inst : Inst) → IsTaken f g n inst → makes_pointer inst ≡ false → IsNumbered f → IsSoundFunc f → (a d : AliasState) → IsAliasOf f a → IsAliasOf g d
    → (Differ (IsCaptured f) (IsCaptured g) → ⊥) → (x : Kept) → x.0.inst.0 ≢ n → IsSparedBy f n inst x.0.loc → IsRight f x → IsRight g x
taken_right f g n inst t idle numbered sound a d is is_g captures x ne spared right =
    let but = taken_same f g n inst t in
    let alike = taken_alike f g n inst t idle in
    let gone = taken_nowhere f g n inst numbered.one_place t in
    let one : (b k : ℕ) (y : Placed) → IsAt f.blocks n b k y → y.inst ≡ inst = λ b k y at. ap (λ (z : Placed). z.inst) (one_inst f numbered n b k t.b t.place y t.x at t.at) ∙ sym t.inst_is in
    let none : MakesNone f n = λ b k y at. ap makes_pointer (one b k y at) ∙ idle in
    let there : MakesNone g n = λ b k y at. absurd (gone b k y at) in
    let captured = same_captured f g a d is is_g captures in
    right_between f g n but (other_pointers f g n but alike none there captured) x ne
    (others_same f g n but alike none there captured x.0.loc (own_read f x.0.inst n x.0.loc right.asked ne))
    (present_quiet f numbered sound a is n x.0.loc none (at_all f n inst x.0.loc one spared))
    (absent_quiet g n x.0.loc gone)
    right

-- ---- moved

pub shifted_right : (f g : FuncState) (n b place : ℕ) (s : IsShifted f g n b place) → b < length f.blocks → makes_pointer s.x.inst ≡ false → IsNumbered f → IsSoundFunc f → IsNumbered g → IsSoundFunc g
    → (a : AliasState) → IsAliasOf f a → (x : Kept) → x.0.inst.0 ≢ n → IsSparedBy f n s.x.inst x.0.loc → IsRight f x → IsRight g x
shifted_right f g n b place s lt idle numbered sound numbered_g sound_g a is x ne spared right =
    let but = shifted_same f g n b place s in
    let none : MakesNone f n = one_idle f n s.b s.place s.x numbered s.at idle in
    let one : (c k : ℕ) (y : Placed) → IsAt f.blocks n c k y → y.inst ≡ s.x.inst = λ c k y at. ap (λ (z : Placed). z.inst) (one_inst f numbered n c k s.b s.place y s.x at s.at) in
    let pointers = shift_pointers f g n b place s lt none in
    let loc : Loc = x.0.loc in
    let same : (i : ℕ) → SameWrites f g i loc = λ i. shift_writes f g n b place s lt none i loc in
    let quiet : MayWrite f n loc → ⊥ = at_all f n s.x.inst loc one spared in
    right_between f g n but pointers x ne
    (record { at_all = λ j h. (same j).at_all; in_turn = λ j h. (same j).in_turn; turned = turned_kept f g pointers loc })
    (present_quiet f numbered sound a is n loc none quiet)
    (moved_quiet (shift_tables f g n b place s lt none a is) none pointers loc (λ w. quiet ((same n).at_all.1 w)))
    right
  where
    moved_quiet : IsAliasOf g a → MakesNone f n → SamePointers f g → (loc : Loc) → (MayWrite g n loc → ⊥) → IsQuiet g n loc
    moved_quiet is_g none pointers loc quiet = record {
      at_all = quiet;
      in_turn = turn_quiet g numbered_g sound_g a is_g n loc quiet;
      turns_not = λ t. turns_none f n loc none ((turned_kept f g pointers loc n).1 t);
    }

-- ---- a load that gave way

pub gone_right : (f g : FuncState) (n : ℕ) (by : Val) → IsNumbered f → IsSoundFunc f → IsLoadGone f g n by → (x : Kept) → x.0.inst.0 ≢ n → IsRight f x → IsRight g x
gone_right f g n by numbered sound gone x ne right =
    let h : FuncState = with_replaced f gone.l by in
    let but = taken_same h g n gone.inst gone.taken in
    let first = replaced_pointers f numbered gone.l by way sound in
    let last = load_pointers f g n by numbered sound gone in
    let writes : (i : ℕ) → SameWrites f h i loc = λ i. replaced_writes f numbered gone.l by way sound i loc in
    let writes_on : (i : ℕ) → i ≢ n → SameWrites f g i loc = λ i other. load_writes f g n by numbered sound gone i loc other (own_read f x.0.inst n loc right.asked ne) in
    right_between h g n but (pointers_on first last) x ne
    (record {
      at_all = λ j other. ((λ w. (writes_on j other).at_all.0 ((writes j).at_all.1 w)), (λ w. (writes j).at_all.0 ((writes_on j other).at_all.1 w)));
      in_turn = λ j other. ((λ w. (writes_on j other).in_turn.0 ((writes j).in_turn.1 w)), (λ w. (writes j).in_turn.0 ((writes_on j other).in_turn.1 w)));
      turned = turned_kept h g (pointers_on first last) loc;
    })
    (record {
      at_all = λ w. idle_writes_not f n loc idle ((writes n).at_all.1 w);
      in_turn = λ q b k r t w. idle_turns_not f n loc idle ((writes n).in_turn.1 w);
      turns_not = λ t. turns_none f n loc none ((turned_kept f h first loc n).1 t);
    })
    (absent_quiet g n loc (taken_nowhere h g n gone.inst (replaced_one_place f numbered gone.l by) gone.taken))
    (replaced_right f numbered sound gone.l by way x right)
  where
    loc : Loc
    loc = x.0.loc

    way : GivesWay f gone.l by
    way = record {
      ty = gone.ty;
      integer = stored_integer gone.ty (sym (ap types_stand gone.load) ∙ (sound.insts gone.b gone.place gone.x gone.at.found).types);
      local = inr (gone.b, gone.place, gone.x, record { found = gone.at.found; gives = gone.result }, ap result_type gone.load);
      value = gone.value;
    }

    one : (b k : ℕ) (y : Placed) → IsAt f.blocks n b k y → y.inst ≡ Load gone.ty gone.ptr gone.tail
    one b k y at = ap (λ (z : Placed). z.inst) (one_inst f numbered n b k gone.b gone.place y gone.x at gone.at) ∙ gone.load

    idle : IsIdle f n
    idle b k y at = ap (λ i. is_def (kind_of_inst i)) (one b k y at)

    none : MakesNone f n
    none b k y at = ap makes_pointer (one b k y at)

    both_ways : {A B C : Type 0} → A ↔ B → A ↔ C → B ↔ C
    both_ways s t = (λ b. t.0 (s.1 b), λ c. s.0 (t.1 c))

    pointers_on : SamePointers f (with_replaced f gone.l by) → SamePointers f g → SamePointers (with_replaced f gone.l by) g
    pointers_on s t = record {
      roots = λ p r o. both_ways (s.roots p r o) (t.roots p r o);
      bases = λ p b. both_ways (s.bases p b) (t.bases p b);
      turning = λ r. both_ways (s.turning r) (t.turning r);
      turned = λ r q. both_ways (s.turned r q) (t.turned r q);
      captured = λ l. both_ways (s.captured l) (t.captured l);
    }
