-- A getelementptr whose numbers among its indices are summed up: it is the same under other values, and one that has no numbers is itself.
use Rattle.std.proofs.Common.{◌≡◌, ◌∙◌, ◌==◌, ◌+ℤ◌, ℕ, ℤ, pos, Bool, true, false, cond, if◌then◌else◌, List, [], ◌∷◌, ◌++◌, filter, map, refl, sym, ap, arith}
use Rattle.std.proofs.lemmas.Bool.{eqb-true}
use Rattle.std.proofs.lemmas.Int.{ints}
use Rattle.ms_ir.specs.declared.names.Ty.{Ty}
use Rattle.ms_ir.specs.declared.inst.Val.{Val}
use Rattle.ms_ir.specs.declared.inst.Val.TheVariants.{Num, Local, Global}
use Rattle.ms_ir.specs.declared.inst.IndexTerm.{IndexTerm}
use Rattle.ms_ir.specs.declared.inst.Inst.{Inst}
use Rattle.ms_ir.specs.declared.inst.Inst.TheVariants.{Alloca, Gep, Step, Load, Store, Copy, Call, Bin, Cmp, Select, Cast, Phi}
use Rattle.ms_ir.specs.Func.{FuncState}
use Rattle.ms_grammar.specs.Kept.{Each}
use Rattle.ms_grammar.specs.Parts.{filled}
use Rattle.ms_again.specs.Ordered.{added_by, added_in, is_number, is_open, step_of, kept_value, kept_term, joined, index_by, inst_by, ordered_val}

-- ---- indices that are no numbers

abbrev pub IsOpen : IndexTerm → Type 0
IsOpen t = is_number t.val ≡ false

open_adds : (x : Val) (scale : ℕ) → is_number x ≡ false → added_by x scale ≡ pos 0
open_adds (Num ty n) scale e = absurd (cc)
open_adds (Local l) scale e = refl
open_adds (Global g) scale e = refl

open_kept : (x : Val) → is_number x ≡ false → kept_value x ≡ 37 ∷ []
open_kept (Num ty n) e = absurd (cc)
open_kept (Local l) e = refl
open_kept (Global g) e = refl

none_and : (z : ℤ) → pos 0 +ℤ z ≡ z
none_and z = omega (arith, ints)

none_added : (o : ℤ) → o +ℤ pos 0 ≡ o
none_added o = omega (arith, ints)

nothing_added : (ts : List IndexTerm) → Each IsOpen ts → added_in ts ≡ pos 0
nothing_added [] h = refl
nothing_added (t ∷ ts) h = ap (λ (z : ℤ). z +ℤ added_in ts) (open_adds t.val t.scale h.0) ∙ none_and (added_in ts) ∙ nothing_added ts h.1

all_stay : (ts : List IndexTerm) → Each IsOpen ts → filter is_open ts ≡ ts
all_stay [] h = refl
all_stay (t ∷ ts) h =
    ap (λ (b : Bool). cond (if b then false else true) (t ∷ filter is_open ts) (filter is_open ts)) h.0 ∙ ap (λ (us : List IndexTerm). t ∷ us) (all_stay ts h.1)

-- percent signs in the places of percent signs
filled_marks : (ts : List IndexTerm) (text : List ℕ) → Each IsOpen ts → filled (map kept_term ts) text ≡ text
filled_marks [] text h = refl
filled_marks (t ∷ ts) [] h = refl
filled_marks (t ∷ ts) (b ∷ bs) h = by (b == 37) refl (filled_marks ts bs h.1) (filled_marks (t ∷ ts) bs h)
  where
    by : (m : Bool) → (b == 37) ≡ m → filled (map kept_term ts) bs ≡ bs → filled (map kept_term (t ∷ ts)) bs ≡ bs →
        (if m then kept_term t ++ filled (map kept_term ts) bs else b ∷ filled (map kept_term (t ∷ ts)) bs) ≡ b ∷ bs
    by true e rest all =
        ap (λ (s : List ℕ). s ++ filled (map kept_term ts) bs) (open_kept t.val h.0) ∙ ap (λ (s : List ℕ). 37 ∷ s) rest ∙ ap (λ (c : ℕ). c ∷ bs) (sym (eqb-true b 37 e))
    by false e rest all = ap (λ (s : List ℕ). b ∷ s) all

-- without numbers nothing is summed up
pub joined_open : (base : Val) (offset : ℤ) (ts : List IndexTerm) (head index tail : List ℕ) → Each IsOpen ts → joined base offset ts head index tail ≡ step_of base offset ts head index tail
joined_open base offset ts head index tail h =
    ap (λ (z : ℤ). step_of base (offset +ℤ z) (filter is_open ts) head (filled (map kept_term ts) index) tail) (nothing_added ts h)
    ∙ ap (λ (z : ℤ). step_of base z (filter is_open ts) head (filled (map kept_term ts) index) tail) (none_added offset)
    ∙ ap (λ (us : List IndexTerm). step_of base offset us head (filled (map kept_term ts) index) tail) (all_stay ts h)
    ∙ ap (λ (x : List ℕ). step_of base offset ts head x tail) (filled_marks ts index h)

-- ---- other values

-- numbers stay, and what is none becomes none
pub record IsKeeping (w : Val → Val) : Type 0 where
  pub number : (ty : Ty) (n : ℕ) → w (Num ty n) ≡ Num ty n
  pub other : (x : Val) → is_number (w x) ≡ is_number x

pub ordered_keeps : (f : FuncState) → IsKeeping (ordered_val f)
ordered_keeps f = record { number = λ ty n. refl; other = others }
  where
    others : (x : Val) → is_number (ordered_val f x) ≡ is_number x
    others (Num ty n) = refl
    others (Local l) = refl
    others (Global g) = refl

module _ (w : Val → Val) (keeps : IsKeeping w) where
  same_added : (x : Val) (scale : ℕ) → added_by (w x) scale ≡ added_by x scale
  same_added (Num ty n) scale = ap (λ (y : Val). added_by y scale) (keeps.number ty n)
  same_added (Local l) scale = open_adds (w (Local l)) scale (keeps.other (Local l))
  same_added (Global g) scale = open_adds (w (Global g)) scale (keeps.other (Global g))

  all_added : (ts : List IndexTerm) → added_in (map (index_by w) ts) ≡ added_in ts
  all_added [] = refl
  all_added (t ∷ ts) = ap (λ (z : ℤ). z +ℤ added_in (map (index_by w) ts)) (same_added t.val t.scale) ∙ ap (λ (z : ℤ). added_by t.val t.scale +ℤ z) (all_added ts)

  same_kept : (x : Val) → kept_value (w x) ≡ kept_value x
  same_kept (Num ty n) = ap kept_value (keeps.number ty n)
  same_kept (Local l) = open_kept (w (Local l)) (keeps.other (Local l))
  same_kept (Global g) = open_kept (w (Global g)) (keeps.other (Global g))

  all_kept : (ts : List IndexTerm) → map kept_term (map (index_by w) ts) ≡ map kept_term ts
  all_kept [] = refl
  all_kept (t ∷ ts) = ap (λ (s : List ℕ). s ∷ map kept_term (map (index_by w) ts)) (same_kept t.val) ∙ ap (λ (ss : List (List ℕ)). kept_term t ∷ ss) (all_kept ts)

  open_after : (ts : List IndexTerm) → filter is_open (map (index_by w) ts) ≡ map (index_by w) (filter is_open ts)
  open_after [] = refl
  open_after (t ∷ ts) =
      ap (λ (b : Bool). cond (if b then false else true) (index_by w t ∷ filter is_open (map (index_by w) ts)) (filter is_open (map (index_by w) ts))) (keeps.other t.val)
      ∙ by (is_number t.val) (open_after ts)
    where
      by : (b : Bool) → filter is_open (map (index_by w) ts) ≡ map (index_by w) (filter is_open ts) →
          cond (if b then false else true) (index_by w t ∷ filter is_open (map (index_by w) ts)) (filter is_open (map (index_by w) ts))
          ≡ map (index_by w) (cond (if b then false else true) (t ∷ filter is_open ts) (filter is_open ts))
      by true e = e
      by false e = ap (λ (us : List IndexTerm). index_by w t ∷ us) e

  all_open : (ts : List IndexTerm) → Each IsOpen (map (index_by w) (filter is_open ts))
  all_open [] = tt
  all_open (t ∷ ts) = by (is_number t.val) refl (all_open ts)
    where
      by : (b : Bool) → is_number t.val ≡ b → Each IsOpen (map (index_by w) (filter is_open ts)) → Each IsOpen (map (index_by w) (cond (if b then false else true) (t ∷ filter is_open ts) (filter is_open ts)))
      by true e h = h
      by false e h = (keeps.other t.val ∙ e, h)

  step_by : (b : Val) (o : ℤ) (ts : List IndexTerm) (head index tail : List ℕ) → inst_by w (step_of b o ts head index tail) ≡ joined (w b) o (map (index_by w) ts) head index tail
  step_by b o [] head index tail = ap (λ (z : ℤ). Gep (w b) z head index tail) (sym (none_added o))
  step_by b o (t ∷ ts) head index tail = refl

  -- numbers may be summed up before the values change
  pub joined_by : (b : Val) (o : ℤ) (ts : List IndexTerm) (head index tail : List ℕ) → inst_by w (joined b o ts head index tail) ≡ joined (w b) o (map (index_by w) ts) head index tail
  joined_by b o ts head index tail =
      let left = filter is_open ts in
      let text = filled (map kept_term ts) index in
      step_by b (o +ℤ added_in ts) left head text tail
      ∙ joined_open (w b) (o +ℤ added_in ts) (map (index_by w) left) head text tail (all_open ts)
      ∙ ap (λ (z : ℤ). step_of (w b) (o +ℤ z) (map (index_by w) left) head text tail) (sym (all_added ts))
      ∙ ap (λ (us : List IndexTerm). step_of (w b) (o +ℤ added_in (map (index_by w) ts)) us head text tail) (sym (open_after ts))
      ∙ ap (λ (ss : List (List ℕ)). step_of (w b) (o +ℤ added_in (map (index_by w) ts)) (filter is_open (map (index_by w) ts)) head (filled ss index) tail) (sym (all_kept ts))

-- ---- an instruction with its numbers summed up

abbrev pub settled : Inst → Inst
settled (Alloca size head tail) = Alloca size head tail
settled (Gep base offset head index tail) = Gep base offset head index tail
settled (Step base offset terms head index tail) = joined base offset terms head index tail
settled (Load ty ptr tail) = Load ty ptr tail
settled (Store ty val ptr tail) = Store ty val ptr tail
settled (Copy to from len head tail) = Copy to from len head tail
settled (Call callee ret args effects head tail) = Call callee ret args effects head tail
settled (Bin op flags ty a b tail) = Bin op flags ty a b tail
settled (Cmp pred flags ty a b tail) = Cmp pred flags ty a b tail
settled (Select cond ty a b tail) = Select cond ty a b tail
settled (Cast op flags from a to tail) = Cast op flags from a to tail
settled (Phi ty entries tail) = Phi ty entries tail

pub settled_by : (w : Val → Val) → IsKeeping w → (i : Inst) → inst_by w (settled i) ≡ inst_by w i
settled_by w keeps (Step base offset terms head index tail) = joined_by w keeps base offset terms head index tail
settled_by w keeps (Alloca size head tail) = refl
settled_by w keeps (Gep base offset head index tail) = refl
settled_by w keeps (Load ty ptr tail) = refl
settled_by w keeps (Store ty val ptr tail) = refl
settled_by w keeps (Copy to from len head tail) = refl
settled_by w keeps (Call callee ret args effects head tail) = refl
settled_by w keeps (Bin op flags ty a b tail) = refl
settled_by w keeps (Cmp pred flags ty a b tail) = refl
settled_by w keeps (Select cond ty a b tail) = refl
settled_by w keeps (Cast op flags from a to tail) = refl
settled_by w keeps (Phi ty entries tail) = refl
