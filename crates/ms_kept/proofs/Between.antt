-- Two functions that differ in one instruction, which makes no pointer, and in which the same allocas are captured: pointers, and what all others write.
use Rattle.std.proofs.Common.{◌≡◌, ◌↔◌, ℕ, ℤ, sym, ap, ◌∙◌, subst, ⊎_elim, true≢false}
use Rattle.std.specs.Prelude.{◌≢◌}
use Rattle.std.proofs.lemmas.Bool.{cases_eq}
use Rattle.ms_ir.specs.declared.names.LocalNo.{LocalNo}
use Rattle.ms_ir.specs.declared.names.InstNo.{InstNo}
use Rattle.ms_ir.specs.Func.{Placed, FuncState, IsAt}
use Rattle.ms_ir.specs.Locals.{IsNumbered}
use Rattle.ms_ir.specs.SoundFunc.{IsSoundFunc}
use Rattle.ms_alias.specs.declared.loc.Root.{Root}
use Rattle.ms_alias.specs.declared.loc.Root.TheVariants.{Local, Global}
use Rattle.ms_alias.specs.declared.loc.Loc.{Loc}
use Rattle.ms_alias.specs.declared.loc.Loc.TheVariants.{Bytes, ReadBy}
use Rattle.ms_alias.specs.Bases.{Base, HasBase}
use Rattle.ms_alias.specs.Captured.{IsCaptured}
use Rattle.ms_alias.specs.Reaches.{Span, IsReachOf}
use Rattle.ms_alias.specs.Meeting.{MayWrite, MayWriteInTurn}
use Rattle.ms_alias.specs.Tables.{AliasState, IsAliasOf}
use Rattle.ms_alias.proofs.Makers.{pointer_from}
use Rattle.ms_alias.proofs.Asked.{written_at_all}
use Rattle.ms_paths.specs.Flow.{IsReached}
use Rattle.ms_ir.specs.Graph.{graph_of}
use Rattle.ms_build.specs.Accesses.{event_of}
use Rattle.ms_walk.specs.Clobber.{IsTurned, IsTurnedAt}
use Rattle.ms_cache.specs.Edited.{MakesNone, SamePointers, SameWrites}
use Rattle.ms_cache.specs.Stays.{Kept}
use Rattle.ms_cache.proofs.Alike.{Alike, alike_back}
use Rattle.ms_cache.proofs.Accesses.{Both, FindsMakers, Finds, FindsLoc, WritesAlike, writes_same, reads_same, writes_between, pointers_both}
use Rattle.ms_kept.specs.Spared.{SameBut, IsQuiet, WriteSame}
use Rattle.ms_kept.specs.Answers.{IsAskedLoc, IsRight}
use Rattle.ms_kept.proofs.Spared.{stands, but_back, clobber_kept}
use Rattle.ms_kept.proofs.Based.{turned_based}

-- ---- what is asked

pub asked_kept : (f g : FuncState) → SamePointers f g → (i : InstNo) (loc : Loc) → IsAskedLoc f i loc → IsAskedLoc g i loc
asked_kept f g s i (Bytes root from len) h = (h.0, h.1, (s.roots h.0 root h.1).0 h.2)
asked_kept f g s i (ReadBy j) h = h

-- what another instruction reads is not asked
pub own_read : (f : FuncState) (i : InstNo) (n : ℕ) (loc : Loc) → IsAskedLoc f i loc → i.0 ≢ n → loc ≢ ReadBy (record { 0 = n })
own_read f i n (Bytes root from len) h ne e = cc
own_read f i n (ReadBy j) h ne e = ne (ap (λ (k : InstNo). k.0) (sym h) ∙ read_number j (record { 0 = n }) e) where
  read_number : (j k : InstNo) → ReadBy j ≡ ReadBy k → j.0 ≡ k.0
  read_number j k e = let same : j ≡ k = cc in ap (λ (m : InstNo). m.0) same

pub turned_kept : (f g : FuncState) → SamePointers f g → (loc : Loc) (q : ℕ) → IsTurned f loc q ↔ IsTurned g loc q
turned_kept f g s (Bytes root from len) q = s.turned root q
turned_kept f g s (ReadBy j) q = (λ h. h, λ h. h)

-- ---- the one instruction

-- it makes no root
pub turns_none : (f : FuncState) (n : ℕ) (loc : Loc) → MakesNone f n → IsTurned f loc n → ⊥
turns_none f n (Bytes (Local l) from len) none t = true≢false (sym (pointer_from l t.3 t.5) ∙ none t.1 t.2 t.3 t.4)
turns_none f n (Bytes (Global g) from len) none t = t
turns_none f n (ReadBy j) none t = t

-- where it does not stand it has no say
pub absent_quiet : (f : FuncState) (n : ℕ) (loc : Loc) → ((b k : ℕ) (x : Placed) → IsAt f.blocks n b k x → ⊥) → IsQuiet f n loc
absent_quiet f n loc absent = record {
  at_all = λ w. absent w.0 w.1 w.2 w.3;
  in_turn = λ q b k r t w. absent w.0 w.1 w.2 w.3;
  turns_not = λ t. turns_none f n loc (λ b k x at. absurd (absent b k x at)) t;
}

-- a root that turns has a base, so what may not write the bytes at all may not write them in a turn
pub turn_quiet : (f : FuncState) → IsNumbered f → IsSoundFunc f → (a : AliasState) → IsAliasOf f a → (n : ℕ) (loc : Loc) → (MayWrite f n loc → ⊥) → (q b k : ℕ) → IsReached (graph_of f.blocks) b
    → IsTurnedAt f b k loc q → MayWriteInTurn f n loc → ⊥
turn_quiet f numbered sound a is n loc quiet q b k r t w = quiet (written_at_all f a is n loc (based loc t) w) where
  span_root : (s u : Root) (from at : ℤ) (len size : ℕ) → Span s from len ≡ Span u at size → u ≡ s
  span_root s u from at len size e = cc

  based : (loc : Loc) → IsTurnedAt f b k loc q → (s : Root) (from : ℤ) (len : ℕ) → IsReachOf f loc (Span s from len) → (c : Base) × HasBase f s c
  based (Bytes root at size) t s from len e =
      subst (λ u. (c : Base) × HasBase f u c) (span_root s root from at len size e) (turned_based f numbered sound root q b k r t.passed t.turned)
  based (ReadBy j) t s from len e = absurd t.turned

pub present_quiet : (f : FuncState) → IsNumbered f → IsSoundFunc f → (a : AliasState) → IsAliasOf f a → (n : ℕ) (loc : Loc) → MakesNone f n → (MayWrite f n loc → ⊥) → IsQuiet f n loc
present_quiet f numbered sound a is n loc none quiet = record {
  at_all = quiet;
  in_turn = turn_quiet f numbered sound a is n loc quiet;
  turns_not = turns_none f n loc none;
}

-- ---- all others

at_other : (f g : FuncState) (n : ℕ) → SameBut f g n → (i : ℕ) → i ≢ n → (b k : ℕ) (x : Placed) → IsAt f.blocks i b k x → (c : ℕ) × (j : ℕ) × IsAt g.blocks i c j x
at_other f g n but i ne b k x at = let r = stands f g n but i ne b k x at in (b, r.0, r.1)

makers_other : (f g : FuncState) (n : ℕ) → SameBut f g n → MakesNone f n → FindsMakers f g
makers_other f g n but none l q b k x at e =
    ⊎_elim
    (λ (is : q ≡ n). absurd (true≢false (sym (pointer_from l x e) ∙ none b k x (subst (λ m. IsAt f.blocks m b k x) is at))))
    (λ (ne : q ≡ n → ⊥). let r = at_other f g n but q ne b k x at in (r.0, r.1, x, r.2, e))
    (cases_eq q n)

writes_other : (f g : FuncState) (n : ℕ) → SameBut f g n → Alike f g → (i : ℕ) → i ≢ n → Finds f g (WritesAlike f g) i
writes_other f g n but alike i ne b k x at = let r = at_other f g n but i ne b k x at in (r.0, r.1, x, r.2, writes_same f g alike x.inst)

loc_other : (f g : FuncState) (n : ℕ) → SameBut f g n → Alike f g → (loc : Loc) → loc ≢ ReadBy (record { 0 = n }) → FindsLoc f g loc
loc_other f g n but alike (Bytes root from len) h = tt
loc_other f g n but alike (ReadBy i) h = λ b k x at.
    let r = at_other f g n but i.0 (λ e. h (ap (λ m. ReadBy (record { 0 = m })) e)) b k x at in
    (r.0, r.1, x, r.2, reads_same f g alike x.inst)

module _ (f g : FuncState) (n : ℕ) (but : SameBut f g n) (alike : Alike f g) (none : MakesNone f n) (there : MakesNone g n) (captured : (l : LocalNo) → IsCaptured f l ↔ IsCaptured g l) where
  back : SameBut g f n
  back = but_back f g n but

  both : Both f g
  both = record { alike = alike; captured = captured }

  pub other_pointers : SamePointers f g
  other_pointers = pointers_both f g both (makers_other f g n but none) (makers_other g f n back there)

  other_writes : (i : ℕ) (loc : Loc) → i ≢ n → loc ≢ ReadBy (record { 0 = n }) → SameWrites f g i loc
  other_writes i loc ne h =
      let alike_too = alike_back f g alike in
      writes_between f g both i loc (writes_other f g n but alike i ne) (loc_other f g n but alike loc h) (writes_other g f n back alike_too i ne) (loc_other g f n back alike_too loc h)

  pub others_same : (loc : Loc) → loc ≢ ReadBy (record { 0 = n }) → WriteSame f g n loc
  others_same loc h = record {
    at_all = λ j ne. (other_writes j loc ne h).at_all;
    in_turn = λ j ne. (other_writes j loc ne h).in_turn;
    turned = turned_kept f g other_pointers loc;
  }

-- an answer of another instruction stays right
pub right_between : (f g : FuncState) (n : ℕ) → SameBut f g n → SamePointers f g → (x : Kept) → x.0.inst.0 ≢ n → WriteSame f g n x.0.loc → IsQuiet f n x.0.loc → IsQuiet g n x.0.loc → IsRight f x → IsRight g x
right_between f g n but pointers x ne same before after right = record {
  asked = asked_kept f g pointers x.0.inst x.0.loc right.asked;
  clobber = clobber_kept f g n x.0.loc (record { same = but; before = before; after = after; writes = same }) x.0.inst.0 ne (event_of x.1) right.clobber;
}
