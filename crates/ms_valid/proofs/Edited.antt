-- Behind an insert, a remove or a move without a fault an accepted function is accepted.
use Rattle.std.proofs.Common.{◌≡◌, ◌∙◌, ◌<◌, ◌≤◌, ◌⊎◌, ℕ, zero, suc, Bool, true, false, List, [], ◌∷◌, ◌++◌, length, map, Option, Some, None, refl, sym, subst, inl, inr, arith}
use Rattle.std.specs.Prelude.{slice_get, if◌then◌else◌}
use Rattle.std.proofs.lemmas.Bool.{cases_Bool, cases_lt, true≢false}
use Rattle.ms_ir.specs.declared.names.BlockNo.{BlockNo}
use Rattle.ms_ir.specs.declared.names.LocalNo.{LocalNo}
use Rattle.ms_ir.specs.declared.names.Name.{Name}
use Rattle.ms_ir.specs.declared.names.Name.TheVariants.{Word, Absent}
use Rattle.ms_ir.specs.declared.inst.Inst.{Inst}
use Rattle.ms_ir.specs.declared.inst.Term.{Term}
use Rattle.ms_ir.specs.declared.inst.Term.TheVariants.{Br, CondBr, Ret, Unreachable}
use Rattle.ms_ir.specs.declared.inst.Edit.{Edit}
use Rattle.ms_ir.specs.declared.inst.Edit.TheVariants.{Insert, Remove, Move}
use Rattle.ms_ir.specs.declared.faults.EditFault.TheVariants as fault
use Rattle.ms_ir.specs.Inst.{has_result, result_for}
use Rattle.ms_ir.specs.Func.{Placed, Block, FuncState, insts_at, put_at, cut_at}
use Rattle.ms_ir.specs.Locals.{IsNumbered, HasName, IsBlockNamed}
use Rattle.ms_ir.specs.Module.{ModuleState}
use Rattle.ms_ir.specs.SoundFunc.{IsSoundFunc}
use Rattle.ms_ir.specs.Edits.{edited, put_again, term_at, IsNoTarget, IsFaultless, IsFittingEdit}
use Rattle.ms_resolve.specs.Faults.{IsIn}
use Rattle.ms_validity.specs.Faults.{CallsOtherwise, ReturnsOtherwise}
use Rattle.ms_validity.proofs.ListLemmas.{in_cons, in_append, get_map}
use Rattle.ms_edited.proofs.Places.{put_term, put_size, cut_term, cut_size}
use Rattle.ms_edited.proofs.Shape.{old_block}
use Rattle.ms_edited.proofs.Faults.{there_is, block_in, place_in}
use Rattle.ms_edited.proofs.Put.{from_put}
use Rattle.ms_edited.proofs.Cut.{from_cut}
use Rattle.ms_valid.specs.Func.{IsSaidInst, IsSaidTerm, IsAcceptedFunc, IsWordOrNone, AreApart, name_of_param, name_of_inst, names_of_block, names_in}
use Rattle.ms_valid.specs.Edits.{IsInstIn}
use Rattle.ms_valid.proofs.OneMore.{IsFreshIn, IsOneMore, among_more, among_less, one_among, apart_more, apart_less, fresh_less, more_behind, names_of, put_more, cut_less}
use Rattle.ms_valid.proofs.Fitting.{said_fits}

-- the law that a sound function stays sound
abbrev pub SoundStays : Type 0
SoundStays = (f : FuncState) (e : Edit) → IsNumbered f → IsSoundFunc f → IsFittingEdit e → IsFaultless f e → IsSoundFunc (edited f e)

-- what is asked of an instruction in its place
pub record IsFine (m : ModuleState) (x : Placed) : Type 0 where
  pub said : IsSaidInst m x.inst
  pub unnamed : x.result ≡ None → x.name ≡ Absent
  pub calls : CallsOtherwise m x.inst → ⊥

-- what is asked of a terminator
pub record IsFineTerm (m : ModuleState) (f : FuncState) (term : Term) : Type 0 where
  pub said : IsSaidTerm m term
  pub returns : ReturnsOtherwise f term → ⊥

pub fine_at : (m : ModuleState) (f : FuncState) → IsAcceptedFunc m f → (b k : ℕ) (x : Placed) → slice_get (insts_at f.blocks b) k ≡ Some x → IsFine m x
fine_at m f a b k x found = record { said = a.all_said.insts b k x found; unnamed = a.unnamed b k x found; calls = a.calls b k x found }

pub fine_term : (m : ModuleState) (f : FuncState) → IsAcceptedFunc m f → (b : ℕ) (x : Block) → slice_get f.blocks b ≡ Some x → IsFineTerm m f x.term
fine_term m f a b x found = record { said = a.all_said.terms b x found; returns = a.returns b x found }

-- the function with other blocks
abbrev pub with_blocks : FuncState → List Block → ℕ → ℕ → ℕ → FuncState
with_blocks f blocks made locals spare = record f { blocks = blocks; made = made; locals = locals; spare = spare }

returns_as : (f : FuncState) (blocks : List Block) (made locals spare : ℕ) (t : Term) → ReturnsOtherwise (with_blocks f blocks made locals spare) t → ReturnsOtherwise f t
returns_as f blocks made locals spare (Ret given tail) h = h
returns_as f blocks made locals spare (Br to tail) h = h
returns_as f blocks made locals spare (CondBr cond to other tail) h = h
returns_as f blocks made locals spare (Unreachable tail) h = h

pub accepted_with : (m : ModuleState) (f : FuncState) (blocks : List Block) (made locals spare : ℕ) → IsAcceptedFunc m f → IsSoundFunc (with_blocks f blocks made locals spare)
    → ((b k : ℕ) (x : Placed) → slice_get (insts_at blocks b) k ≡ Some x → IsFine m x)
    → ((b : ℕ) (x : Block) → slice_get blocks b ≡ Some x → IsFineTerm m f x.term)
    → ((name : Name) → IsIn (map name_of_param f.params ++ names_of blocks) name → IsWordOrNone name) → AreApart (map name_of_param f.params ++ names_of blocks)
    → IsAcceptedFunc m (with_blocks f blocks made locals spare)
accepted_with m f blocks made locals spare a sound insts terms words apart = record {
  sound = sound;
  all_said = record {
    head = a.all_said.head;
    said_head = record {
      bytes = a.all_said.said_head.bytes;
      says = a.all_said.said_head.says;
      name = a.all_said.said_head.name;
      attrs = a.all_said.said_head.attrs;
      ret = a.all_said.said_head.ret;
      post = a.all_said.said_head.post;
      params = a.all_said.said_head.params;
    };
    insts = λ b k x found. (insts b k x found).said;
    terms = λ b x found. (terms b x found).said;
  };
  words = words;
  apart = apart;
  unnamed = λ b k x found. (insts b k x found).unnamed;
  calls = λ b k x found. (insts b k x found).calls;
  returns = λ b x found other. (terms b x found).returns (returns_as f blocks made locals spare x.term other);
}

-- terminators that stay
pub terms_stay : (m : ModuleState) (f : FuncState) (blocks : List Block) → length blocks ≡ length f.blocks → ((c : ℕ) → term_at blocks c ≡ term_at f.blocks c) → IsAcceptedFunc m f
    → (b : ℕ) (x : Block) → slice_get blocks b ≡ Some x → IsFineTerm m f x.term
terms_stay m f blocks size same a b x found =
    let old = old_block f.blocks blocks size b x found (same b) in
    subst (λ (t : Term). IsFineTerm m f t) old.2 (fine_term m f a b old.0 old.1)

-- ---- an instruction is put into a function that is accepted but for its soundness

module _ (m : ModuleState) (f : FuncState) (blocks : List Block) (b p : ℕ) (y : Placed) (lt : b < length blocks) (room : IsNoTarget (insts_at blocks b) p → ⊥) where
  abbrev new : List Block
  new = put_at blocks b p y

  le : p ≤ length (insts_at blocks b)
  le = elim (cases_lt (length (insts_at blocks b)) p) [
    | inl past ↦ absurd (room (inr past))
    | inr within ↦ within
  ]

  abbrev before : List Name
  before = map name_of_param f.params ++ names_of blocks

  abbrev now : List Name
  now = map name_of_param f.params ++ names_of new

  one_more : IsOneMore before now y.name
  one_more = more_behind (map name_of_param f.params) (names_of blocks) (names_of new) y.name (put_more blocks b p y lt le)

  put_fine : ((c k : ℕ) (x : Placed) → slice_get (insts_at blocks c) k ≡ Some x → IsFine m x) → IsFine m y → (c k : ℕ) (x : Placed) → slice_get (insts_at new c) k ≡ Some x → IsFine m x
  put_fine each one c k x found = elim (from_put blocks b p y lt room c k x found) [
    | inl here ↦ subst (λ (z : Placed). IsFine m z) (sym here.2) one
    | inr old ↦ each c old.0 x old.2
  ]

  put_words : ((name : Name) → IsIn before name → IsWordOrNone name) → IsWordOrNone y.name → (name : Name) → IsIn now name → IsWordOrNone name
  put_words each one name among = elim (among_more before now y.name name one_more among) [
    | inl here ↦ subst (λ (n : Name). IsWordOrNone n) here one
    | inr old ↦ each name old
  ]

  put_apart : IsFreshIn y.name before → AreApart before → AreApart now
  put_apart fresh apart = apart_more before now y.name one_more fresh apart

-- ---- names that are taken

abbrev local_for : Bool → ℕ → Option LocalNo
local_for b next = if b then Some (record { 0 = next }) else None

gives_some : (b : Bool) (next : ℕ) → b ≡ true → local_for b next ≡ None → ⊥
gives_some true next t e = cc
gives_some false next t e = true≢false (sym t)

result_cases : (o : Option LocalNo) → (o ≡ None) ⊎ ((l : LocalNo) × (o ≡ Some l))
result_cases None = inl refl
result_cases (Some l) = inr (l, refl)

-- a name of blocks is that of a block or of an instruction
abbrev StandsIn : List Block → Name → Type 0
StandsIn blocks name = ((b : ℕ) × IsBlockNamed blocks name b) ⊎ ((b k : ℕ) × (x : Placed) × (slice_get (insts_at blocks b) k ≡ Some x) × (x.name ≡ name))

stands_in : (blocks : List Block) (name : Name) → IsIn (names_of blocks) name → StandsIn blocks name
stands_in [] name (k, e) = absurd (let none : None ≡ Some name = e in cc)
stands_in (x ∷ blocks) name among = elim (in_append (names_of_block x) (names_of blocks) name among) [
  | inl here ↦ elim (in_cons x.name (map name_of_inst x.insts) name here) [
    | inl is ↦ inl (zero, (x, refl, is))
    | inr inside ↦ let r = get_map name_of_inst x.insts inside.0 name inside.1 in inr (zero, inside.0, r.0, r.1, r.2)
  ]
  | inr rest ↦ elim (stands_in blocks name rest) [
    | inl block ↦ inl (suc block.0, block.1)
    | inr inst ↦ inr (suc inst.0, inst.1, inst.2, inst.3, inst.4)
  ]
]

no_absent : (text : List ℕ) → Word text ≡ Absent → ⊥
no_absent text e = cc

abbrev IsTaken : FuncState → Name → Type 0
IsTaken f w = ((l : LocalNo) × HasName f l w) ⊎ ((b : ℕ) × IsBlockNamed f.blocks w b)

-- a word among an accepted function's names is one of a local or a block
taken : (m : ModuleState) (f : FuncState) → IsAcceptedFunc m f → (text : List ℕ) → IsIn (names_in f) (Word text) → IsTaken f (Word text)
taken m f a text among = elim (in_append (map name_of_param f.params) (names_of f.blocks) (Word text) among) [
  | inl param ↦
      let r = get_map name_of_param f.params param.0 (Word text) param.1 in
      let l : LocalNo = record { 0 = param.0 } in
      inl (l, inl (r.0, r.1, r.2))
  | inr inside ↦ elim (stands_in f.blocks (Word text) inside) [
    | inl block ↦ inr block
    | inr (b, k, x, found, is) ↦ elim (result_cases x.result) [
      | inl none ↦ absurd (no_absent text (sym is ∙ a.unnamed b k x found none))
      | inr gives ↦ inl (gives.0, inr (b, k, x, record { found = found; gives = gives.1 }, is))
    ]
  ]
]

-- ---- the edits

module _ (stays : SoundStays) (m : ModuleState) (f : FuncState) (block : BlockNo) (place : ℕ) (inst : Inst) (name : Name) (n : IsNumbered f) (a : IsAcceptedFunc m f) (h : IsInstIn m inst name)
    (fine : IsFaultless f (Insert block place inst name)) where
  abbrev y : Placed
  y = record { number = f.made; result = result_for inst f.locals; name = name; inst = inst }

  lt : block.0 < length f.blocks
  lt = block_in f block.0 (λ no. fine fault.Name (inl no))

  room : IsNoTarget (insts_at f.blocks block.0) place → ⊥
  room = fine fault.Place

  no_result : result_for inst f.locals ≡ None → name ≡ Absent
  no_result none = elim (cases_Bool (has_result inst)) [
    | inl t ↦ absurd (gives_some (has_result inst) f.locals t none)
    | inr none_given ↦ h.unnamed none_given
  ]

  fresh : IsFreshIn name (names_in f)
  fresh text is among = elim (cases_Bool (has_result inst)) [
    | inl t ↦
        let there = subst (λ (w : Name). IsTaken f w) (sym is) (taken m f a text among) in
        fine fault.Name (inr (inr (inr (t, (λ e. no_absent text (sym is ∙ e), there)))))
    | inr none_given ↦ no_absent text (sym is ∙ h.unnamed none_given)
  ]

  pub insert_accepted : IsAcceptedFunc m (edited f (Insert block place inst name))
  insert_accepted =
      accepted_with m f (put_at f.blocks block.0 place y) _ _ _ a (stays f (Insert block place inst name) n a.sound (said_fits m block place inst name h.said) fine)
      (put_fine m f f.blocks block.0 place y lt room (fine_at m f a) (record { said = h.said; unnamed = no_result; calls = h.calls }))
      (terms_stay m f (put_at f.blocks block.0 place y) (put_size f.blocks block.0 place y) (put_term f.blocks block.0 place y) a)
      (put_words m f f.blocks block.0 place y lt room a.words h.word)
      (put_apart m f f.blocks block.0 place y lt room fresh a.apart)

-- what is left of the names where one instruction is taken
left_less : (f : FuncState) (b p : ℕ) (x : Placed) → slice_get (insts_at f.blocks b) p ≡ Some x → IsOneMore (map name_of_param f.params ++ names_of (cut_at f.blocks b p)) (names_in f) x.name
left_less f b p x found = more_behind (map name_of_param f.params) (names_of (cut_at f.blocks b p)) (names_of f.blocks) x.name (cut_less f.blocks b p x found)

module _ (stays : SoundStays) (m : ModuleState) (f : FuncState) (block : BlockNo) (place : ℕ) (n : IsNumbered f) (a : IsAcceptedFunc m f) (fine : IsFaultless f (Remove block place)) where
  taken_at : (x : Placed) × (slice_get (insts_at f.blocks block.0) place ≡ Some x)
  taken_at = there_is (insts_at f.blocks block.0) place (place_in (insts_at f.blocks block.0) place (λ past. fine fault.Place past))

  abbrev rest : List Name
  rest = map name_of_param f.params ++ names_of (cut_at f.blocks block.0 place)

  without_one : IsOneMore rest (names_in f) taken_at.0.name
  without_one = left_less f block.0 place taken_at.0 taken_at.1

  pub remove_accepted : IsAcceptedFunc m (edited f (Remove block place))
  remove_accepted =
      accepted_with m f (cut_at f.blocks block.0 place) _ _ _ a (stays f (Remove block place) n a.sound tt fine)
      (λ c k x found. fine_at m f a c _ x (from_cut f.blocks block.0 place c k x found))
      (terms_stay m f (cut_at f.blocks block.0 place) (cut_size f.blocks block.0 place) (cut_term f.blocks block.0 place) a)
      (λ name among. a.words name (among_less rest (names_in f) taken_at.0.name name without_one among))
      (apart_less rest (names_in f) taken_at.0.name without_one a.apart)

module _ (stays : SoundStays) (m : ModuleState) (f : FuncState) (block : BlockNo) (place : ℕ) (to_block : BlockNo) (to_place : ℕ) (n : IsNumbered f) (a : IsAcceptedFunc m f)
    (fine : IsFaultless f (Move block place to_block to_place)) where
  abbrev left : List Block
  left = cut_at f.blocks block.0 place

  abbrev again : Option Placed → FuncState
  again o = record f { blocks = put_again left to_block.0 to_place o }

  out : (x : Placed) × (slice_get (insts_at f.blocks block.0) place ≡ Some x)
  out = there_is (insts_at f.blocks block.0) place (place_in (insts_at f.blocks block.0) place (λ past. fine fault.Place (inl past)))

  abbrev x : Placed
  x = out.0

  abbrev new_blocks : List Block
  new_blocks = put_at left to_block.0 to_place x

  abbrev between : List Name
  between = map name_of_param f.params ++ names_of left

  less : IsOneMore between (names_in f) x.name
  less = left_less f block.0 place x out.1

  to_there : to_block.0 < length left
  to_there = (let lt = block_in f to_block.0 (λ no. fine fault.Name (inr no)) in let same = cut_size f.blocks block.0 place in omega (arith, lt, same))

  room_there : IsNoTarget (insts_at left to_block.0) to_place → ⊥
  room_there bad = fine fault.Place (inr bad)

  own_word : IsWordOrNone x.name
  own_word = a.words x.name (one_among between (names_in f) x.name less)

  sound_again : IsSoundFunc (again (Some x))
  sound_again = subst (λ (o : Option Placed). IsSoundFunc (again o)) out.1 (stays f (Move block place to_block to_place) n a.sound tt fine)

  accepted_again : IsAcceptedFunc m (again (Some x))
  accepted_again =
      accepted_with m f new_blocks _ _ _ a sound_again
      (put_fine m f left to_block.0 to_place x to_there room_there (λ c k z found. fine_at m f a c _ z (from_cut f.blocks block.0 place c k z found)) (fine_at m f a block.0 place x out.1))
      (terms_stay m f new_blocks (put_size left to_block.0 to_place x ∙ cut_size f.blocks block.0 place)
      (λ c. put_term left to_block.0 to_place x c ∙ cut_term f.blocks block.0 place c) a)
      (put_words m f left to_block.0 to_place x to_there room_there (λ name among. a.words name (among_less between (names_in f) x.name name less among)) own_word)
      (put_apart m f left to_block.0 to_place x to_there room_there (fresh_less between (names_in f) x.name less a.apart) (apart_less between (names_in f) x.name less a.apart))

  pub move_accepted : IsAcceptedFunc m (edited f (Move block place to_block to_place))
  move_accepted = subst (λ (o : Option Placed). IsAcceptedFunc m (again o)) (sym out.1) accepted_again
