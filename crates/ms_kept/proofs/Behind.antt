-- What stays by a change is right, and is what stays behind the edit that the change tells of.
use Rattle.std.proofs.Common.{◌≡◌, ◌<◌, ◌↔◌, ℕ, Bool, true, false, List, [], ◌∷◌, Option, Some, filter, Contains, refl, sym, ap, ◌∙◌, subst, inl, inr, ⊎_elim, true≢false, arith}
use Rattle.std.specs.Prelude.{◌≢◌, ◌++◌, slice_get}
use Rattle.std.proofs.lemmas.Bool.{cond-false, false_from_ne_true}
use Rattle.std.proofs.lemmas.List.Elements.{All-contains, filter_passes, filter_agree, Contains-push_cases}
use Rattle.ms_ir.specs.declared.names.InstNo.{InstNo}
use Rattle.ms_ir.specs.declared.names.BlockNo.{BlockNo}
use Rattle.ms_ir.specs.declared.names.Name.{Name}
use Rattle.ms_ir.specs.declared.inst.Inst.{Inst}
use Rattle.ms_ir.specs.declared.inst.Kind.{Kind}
use Rattle.ms_ir.specs.declared.inst.Edit.{Edit}
use Rattle.ms_ir.specs.declared.inst.Edit.TheVariants.{Insert, Remove, Move, Unlink}
use Rattle.ms_ir.specs.declared.faults.EditFault.TheVariants as fault
use Rattle.ms_ir.specs.Inst.{kind_of_inst}
use Rattle.ms_ir.specs.Graph.{is_def}
use Rattle.ms_ir.specs.Func.{Placed, FuncState, IsTaken, IsShifted, insts_at, cut_at}
use Rattle.ms_ir.specs.Edits.{edited, put_again, IsFaultless}
use Rattle.ms_ir.specs.Locals.{IsNumbered}
use Rattle.ms_ir.specs.SoundFunc.{IsSoundFunc}
use Rattle.ms_alias.specs.Captured.{IsCaptured, Differ}
use Rattle.ms_alias.specs.Meeting.{MayWrite}
use Rattle.ms_alias.specs.Tables.{AliasState, IsAliasOf}
use Rattle.ms_edited.proofs.Faults.{there_is, block_in, place_in, movable_is, movable_at}
use Rattle.ms_cache.specs.declared.query.Query.{Query}
use Rattle.ms_cache.specs.declared.change.Change.{Change}
use Rattle.ms_cache.specs.Stays.{Kept, Stays, AreWhatStays}
use Rattle.ms_cache.proofs.Told.{movable_idle}
use Rattle.ms_cache.proofs.Filtered.{left_told}
use Rattle.ms_kept.specs.Answers.{IsRight, AreRight, IsChangeOf, IsOwnChange, IsCutChange, IsEditOf, IsUnlink, judged, StaysBehind, KeepsBehind, IsToldOf}
use Rattle.ms_kept.proofs.Others.{left_in}
use Rattle.ms_kept.proofs.Stayed.{put_right, taken_right, shifted_right}

-- ---- lists

-- what is left was there and passes
passed : (p : Kept → Bool) (xs : List Kept) (x : Kept) → Contains (filter p xs) x → Contains xs x × (p x ≡ true)
passed p xs x h = (left_in p xs x h, All-contains (λ y. p y ≡ true) (filter p xs) x (filter_passes p xs) h)

none_left : (p : Kept → Bool) → ((x : Kept) → p x ≡ true → ⊥) → (xs : List Kept) → filter p xs ≡ []
none_left p none [] = refl
none_left p none (x ∷ xs) = cond-false (p x) (x ∷ filter p xs) (filter p xs) (false_from_ne_true (p x) (none x)) ∙ none_left p none xs

pub none_right : (f : FuncState) → AreRight f []
none_right f x h = absurd (let below : h.0 < 0 = h.1 in omega arith)

pub more_right : (f : FuncState) (old : List Kept) (x : Kept) → AreRight f old → IsRight f x → AreRight f (old ++ x ∷ [])
more_right f old x are is y h =
    ⊎_elim
    (λ (was : Contains old y). are y was)
    (λ (same : x ≡ y). subst (IsRight f) same is)
    (Contains-push_cases old x y h)

-- ---- changes

number_is : (i : InstNo) (n : ℕ) → i.0 ≡ n → Some (record { 0 = n }) ≡ Some i
number_is i n e = let make : ℕ → Option InstNo = λ m. Some (record { 0 = m }) in ap make (sym e)

same_number : (i j : InstNo) → Some i ≡ Some j → j.0 ≡ i.0
same_number i j e = let same : i ≡ j = cc in ap (λ (k : InstNo). k.0) (sym same)

-- what a change of one instruction asks of an answer that stays
record Parts (f g judge : FuncState) (n : ℕ) (kind : Kind) (q : Query) : Type 0 where
  other : q.inst.0 ≢ n
  unwritten : is_def kind ≡ true → MayWrite judge n q.loc → ⊥
  captures : Differ (IsCaptured f) (IsCaptured g) → ⊥

change_parts : (f g judge : FuncState) (n : ℕ) (kind : Kind) (c : Change) → IsChangeOf f g n kind c → (q : Query) → Stays judge c q → Parts f g judge n kind q
change_parts f g judge n kind c is q s = record {
  other = λ e. s.other (is.inst ∙ number_is q.inst n e);
  unwritten = λ d w. s.unwritten is.own_only (is.def ∙ d, record { 0 = n }, is.inst, w);
  captures = λ d. true≢false (sym (is.captured.1 d) ∙ s.captures is.own_only);
}

pub own_other : (f : FuncState) (n : ℕ) (c : Change) → IsOwnChange n c → (q : Query) → Stays f c q → q.inst.0 ≢ n
own_other f n c is q s e = s.other (is.inst ∙ number_is q.inst n e)

-- a list of which each answer that stays is right
pub kept_right : (f g judge : FuncState) (c : Change) (old new : List Kept) → AreRight f old → AreWhatStays judge c old new → ((x : Kept) → Stays judge c x.0 → IsRight f x → IsRight g x) → AreRight g new
kept_right f g judge c old new are what on x h = let t = (left_told judge c old new what x).0 h in on x t.1 (are x t.0)

pub cut_left : (f : FuncState) (c : Change) → IsCutChange c → (old new : List Kept) → AreWhatStays f c old new → new ≡ []
cut_left f c is old new w = w.2 ∙ none_left w.0 (λ x t. let s = (w.1 x).0 t in true≢false (sym is.unlinked ∙ s.edges is.own_only)) old

module _ (f g judge : FuncState) (n : ℕ) (inst : Inst) (c : Change) (is : IsChangeOf f g n (kind_of_inst inst) c) (old new : List Kept) (are : AreRight f old) (what : AreWhatStays judge c old new)
    (on : (Differ (IsCaptured f) (IsCaptured g) → ⊥) → (x : Kept) → x.0.inst.0 ≢ n → (is_def (kind_of_inst inst) ≡ true → MayWrite judge n x.0.loc → ⊥) → IsRight f x → IsRight g x) where
  pub change_right : AreRight g new
  change_right = kept_right f g judge c old new are what (λ x s r. let p = change_parts f g judge n (kind_of_inst inst) c is x.0 s in on p.captures x p.other p.unwritten r)

-- ---- edits

-- the instruction of the edit, and no other one
module _ (f : FuncState) (e : Edit) (n : ℕ) (inst : Inst) (is : IsEditOf f e n inst) (one : (m : ℕ) (i : Inst) → IsEditOf f e m i → (m ≡ n) × (i ≡ inst)) (no_unlink : IsUnlink e → ⊥) (c : Change) (tells : IsChangeOf f (edited f e) n (kind_of_inst inst) c) (q : Query) where
  behind_to : Stays (judged f e) c q → StaysBehind f e q
  behind_to s =
      let p = change_parts f (edited f e) (judged f e) n (kind_of_inst inst) c tells q s in
      record {
        other = λ m i k own. p.other (own ∙ (one m i k).0);
        unwritten = λ m i k d w. p.unwritten (ap (λ j. is_def (kind_of_inst j)) (sym (one m i k).1) ∙ d) (subst (λ j. MayWrite (judged f e) j q.loc) (one m i k).0 w);
        captures = p.captures;
        edges = no_unlink;
      }

  behind_from : StaysBehind f e q → Stays (judged f e) c q
  behind_from s = record {
    other = λ own. s.other n inst is (same_number (record { 0 = n }) q.inst (sym tells.inst ∙ own));
    unwritten = λ only w. s.unwritten n inst is (sym tells.def ∙ w.0) (subst (λ j. MayWrite (judged f e) j q.loc) (same_number (record { 0 = n }) w.1 (sym tells.inst ∙ w.2)) w.3);
    captures = λ only. false_from_ne_true c.captured (λ t. s.captures (tells.captured.0 t));
    edges = λ only. tells.unlinked;
  }

-- the instruction at a place
one_there : (xs : List Placed) (k : ℕ) (x y : Placed) → slice_get xs k ≡ Some x → slice_get xs k ≡ Some y → y ≡ x
one_there xs k x y e h = let both : Some y ≡ Some x = sym h ∙ e in cc

behind_same : (f : FuncState) (e : Edit) (c : Change) → IsToldOf f e c → (q : Query) → Stays (judged f e) c q ↔ StaysBehind f e q
behind_same f (Insert block place inst name) c t q = (
  behind_to f (Insert block place inst name) f.made inst (refl, refl) (λ m i k. k) (λ u. u) c t q,
  behind_from f (Insert block place inst name) f.made inst (refl, refl) (λ m i k. k) (λ u. u) c t q,
)
behind_same f (Remove block place) c t q =
    let one : (m : ℕ) (i : Inst) → IsEditOf f (Remove block place) m i → (m ≡ t.0.number) × (i ≡ t.0.inst) = λ m i k.
    let same = one_there (insts_at f.blocks block.0) place t.0 k.0 t.1 k.1 in
    (k.2 ∙ ap (λ (z : Placed). z.number) same, k.3 ∙ ap (λ (z : Placed). z.inst) same) in (
      behind_to f (Remove block place) t.0.number t.0.inst (t.0, t.1, refl, refl) one (λ u. u) c t.2 q,
      behind_from f (Remove block place) t.0.number t.0.inst (t.0, t.1, refl, refl) one (λ u. u) c t.2 q,
    )
behind_same f (Move block place to_block to_place) c t q =
    let one : (m : ℕ) (i : Inst) → IsEditOf f (Move block place to_block to_place) m i → (m ≡ t.0.number) × (i ≡ t.0.inst) = λ m i k.
    let same = one_there (insts_at f.blocks block.0) place t.0 k.0 t.1 k.1 in
    (k.2 ∙ ap (λ (z : Placed). z.number) same, k.3 ∙ ap (λ (z : Placed). z.inst) same) in (
      behind_to f (Move block place to_block to_place) t.0.number t.0.inst (t.0, t.1, refl, refl) one (λ u. u) c t.2 q,
      behind_from f (Move block place to_block to_place) t.0.number t.0.inst (t.0, t.1, refl, refl) one (λ u. u) c t.2 q,
    )
behind_same f (Unlink block slot) c t q = ((λ s. absurd (true≢false (sym t.unlinked ∙ s.edges t.own_only))), (λ s. absurd (s.edges tt)))

pub keeps_told : (f : FuncState) (e : Edit) (c : Change) → IsToldOf f e c → (old new : List Kept) → AreWhatStays (judged f e) c old new → KeepsBehind f e old new
keeps_told f e c t old new w = (
  w.0,
  λ x. ((λ p. (behind_same f e c t x.0).0 ((w.1 x).0 p)), (λ s. (w.1 x).1 ((behind_same f e c t x.0).1 s))),
  w.2,
)

same_test : (s t : Bool) → (s ≡ true → t ≡ true) → (t ≡ true → s ≡ true) → s ≡ t
same_test true true h k = refl
same_test false false h k = refl
same_test true false h k = sym (h refl)
same_test false true h k = k refl

pub keeps_one : (f : FuncState) (e : Edit) (old a b : List Kept) → KeepsBehind f e old a → KeepsBehind f e old b → a ≡ b
keeps_one f e old a b s t =
    s.2 ∙ filter_agree s.0 t.0 (λ x. same_test (s.0 x) (t.0 x) (λ h. (t.1 x).1 ((s.1 x).0 h)) (λ h. (s.1 x).1 ((t.1 x).0 h))) old ∙ sym t.2

-- a list of which each answer that stays behind the edit is right
edit_right : (f g : FuncState) (e : Edit) (old new : List Kept) → AreRight f old → KeepsBehind f e old new → ((x : Kept) → StaysBehind f e x.0 → IsRight f x → IsRight g x) → AreRight g new
edit_right f g e old new are w on x h = let t = passed w.0 old x (subst (λ l. Contains l x) w.2 h) in on x ((w.1 x).0 t.1) (are x t.0)

module _ (f : FuncState) (numbered : IsNumbered f) (sound : IsSoundFunc f) (a d : AliasState) (is : IsAliasOf f a) where
  insert_right : (block : BlockNo) (place : ℕ) (inst : Inst) (name : Name) → IsFaultless f (Insert block place inst name) → IsNumbered (edited f (Insert block place inst name)) → IsSoundFunc (edited f (Insert block place inst name))
      → IsAliasOf (edited f (Insert block place inst name)) d → (x : Kept) → StaysBehind f (Insert block place inst name) x.0 → IsRight f x → IsRight (edited f (Insert block place inst name)) x
  insert_right block place inst name fine numbered_g sound_g is_g x s r =
      put_right f block.0 place inst name (movable_idle inst (movable_is inst (fine fault.Kind))) numbered numbered_g sound_g a d is is_g s.captures x (s.other f.made inst (refl, refl)) (s.unwritten f.made inst (refl, refl)) r

  remove_right : (block : BlockNo) (place : ℕ) → IsFaultless f (Remove block place) → IsAliasOf (edited f (Remove block place)) d → (x : Kept) → StaysBehind f (Remove block place) x.0 → IsRight f x
      → IsRight (edited f (Remove block place)) x
  remove_right block place fine is_g x s r =
      let y = there_is (insts_at f.blocks block.0) place (place_in (insts_at f.blocks block.0) place (fine fault.Place)) in
      let taken : IsTaken f (edited f (Remove block place)) y.0.number y.0.inst = record {
        b = block.0;
        place = place;
        x = y.0;
        at = record { block = block_in f block.0 (fine fault.Name); found = y.1; numbered = refl };
        inst_is = refl;
        rest = refl;
      } in
      taken_right f (edited f (Remove block place)) y.0.number y.0.inst taken (movable_idle y.0.inst (movable_at f block.0 place y.0 (fine fault.Kind) y.1)) numbered sound a d is is_g s.captures x
      (s.other y.0.number y.0.inst (y.0, y.1, refl, refl)) (s.unwritten y.0.number y.0.inst (y.0, y.1, refl, refl)) r

  move_right : (block : BlockNo) (place : ℕ) (to_block : BlockNo) (to_place : ℕ) → IsFaultless f (Move block place to_block to_place) → IsNumbered (edited f (Move block place to_block to_place))
      → IsSoundFunc (edited f (Move block place to_block to_place)) → (x : Kept) → StaysBehind f (Move block place to_block to_place) x.0 → IsRight f x → IsRight (edited f (Move block place to_block to_place)) x
  move_right block place to_block to_place fine numbered_g sound_g x s r =
      let y = there_is (insts_at f.blocks block.0) place (place_in (insts_at f.blocks block.0) place (λ h. fine fault.Place (inl h))) in
      let shifted : IsShifted f (edited f (Move block place to_block to_place)) y.0.number to_block.0 to_place = record {
        b = block.0;
        place = place;
        x = y.0;
        at = record { block = block_in f block.0 (λ h. fine fault.Name (inl h)); found = y.1; numbered = refl };
        rest = ap (λ (o : Option Placed). with_again o) y.1;
      } in
      shifted_right f (edited f (Move block place to_block to_place)) y.0.number to_block.0 to_place shifted (block_in f to_block.0 (λ h. fine fault.Name (inr h)))
      (movable_idle y.0.inst (movable_at f block.0 place y.0 (fine fault.Kind) y.1)) numbered sound numbered_g sound_g a is x
      (s.other y.0.number y.0.inst (y.0, y.1, refl, refl)) (s.unwritten y.0.number y.0.inst (y.0, y.1, refl, refl)) r
    where
      with_again : Option Placed → FuncState
      with_again o = record f { blocks = put_again (cut_at f.blocks block.0 place) to_block.0 to_place o }

  pub keeps_right : (e : Edit) → IsFaultless f e → IsNumbered (edited f e) → IsSoundFunc (edited f e) → IsAliasOf (edited f e) d → (x : Kept) → StaysBehind f e x.0 → IsRight f x → IsRight (edited f e) x
  keeps_right (Insert block place inst name) fine n s is_g x k r = insert_right block place inst name fine n s is_g x k r
  keeps_right (Remove block place) fine n s is_g x k r = remove_right block place fine is_g x k r
  keeps_right (Move block place to_block to_place) fine n s is_g x k r = move_right block place to_block to_place fine n s x k r
  keeps_right (Unlink block slot) fine n s is_g x k r = absurd (k.edges tt)

pub edits_right : (f : FuncState) (e : Edit) → IsFaultless f e → IsNumbered f → IsSoundFunc f → IsNumbered (edited f e) → IsSoundFunc (edited f e) → (a d : AliasState) → IsAliasOf f a → IsAliasOf (edited f e) d
    → (old new : List Kept) → AreRight f old → KeepsBehind f e old new → AreRight (edited f e) new
edits_right f e fine numbered sound numbered_g sound_g a d is is_g old new are w =
    edit_right f (edited f e) e old new are w (keeps_right f numbered sound a d is e fine numbered_g sound_g is_g)
