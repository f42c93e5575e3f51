-- A phi is replaced, user by user.
use Rattle.std.proofs.Common.{◌≡◌, ◌≢◌, ◌⊎◌, inl, inr, ℕ, List, [], ◌∷◌, length, Some, None, refl, ap, sym, ◌∙◌, subst, ⊎_elim}
use Rattle.std.specs.Prelude.{slice_get}
use Rattle.ms_ir.specs.declared.names.BlockNo.{BlockNo}
use Rattle.ms_form.specs.declared.access.Access.{Access}
use Rattle.ms_form.specs.declared.access.Access.TheVariants.{Entry, Of, Phi}
use Rattle.ms_form.specs.declared.access.User.{User}
use Rattle.ms_form.specs.declared.access.User.TheVariants.{Operand}
use Rattle.ms_form.specs.Form.{FormState, entry_of, users_of, KeepsPlaces, AreUsers, HasList}
use Rattle.ms_form.specs.Lists.{IsIn}
use Rattle.ms_build.specs.Settled.{slot_count}
use Rattle.ms_build.specs.Changes.{IsChanged, IsAwaited, Waits, one_set, all_replaced, waiting_for}
use Rattle.ms_form.proofs.UserLemmas.{same_user_tells}
use Rattle.ms_build.proofs.Entries.{entry-waiting}
use Rattle.ms_build.proofs.Waits.{waits_itself, waits_for_on}
use Rattle.ms_build.proofs.Rules.{replaced_other, replaced_phi}

-- Some of what named the phi of a block names another access, and the blocks of its operands wait.
pub record IsReplacing (b : BlockNo) (a : Access) (old new : FormState) : Type 0 where
  pub entries : (u : User) → (entry_of new u ≡ entry_of old u) ⊎ ((entry_of old u ≡ Some (Phi b)) × (entry_of new u ≡ Some a))
  pub phis : new.phis ≡ old.phis
  pub lasts : new.lasts ≡ old.lasts
  pub numbers : length new.defs ≡ length old.defs
  pub slots : (c : ℕ) → slot_count new c ≡ slot_count old c
  pub spare : new.spare ≡ old.spare
  pub places : KeepsPlaces old new
  pub on : (c : ℕ) → Waits old c → Waits new c
  pub named : (c : BlockNo) (slot : ℕ) → entry_of old (Operand c slot) ≡ Some (Phi b) → (entry_of new (Operand c slot) ≡ Some (Phi b)) ⊎ Waits new c.0

pub replacing_begun : (b : BlockNo) (a : Access) (f : FormState) → IsReplacing b a f f
replacing_begun b a f = record {
  entries = λ u. inl refl;
  phis = refl;
  lasts = refl;
  numbers = refl;
  slots = λ c. refl;
  spare = refl;
  places = λ counts insts h. h;
  on = λ c h. h;
  named = λ c slot e. inl e;
}

in_first : (u : User) (us : List User) → slice_get us 0 ≡ Some u → IsIn u us
in_first u [] e = cc
in_first u (v ∷ us) e = inl (cc)

pub first_names : (b : BlockNo) (f : FormState) (u : User) → AreUsers f → Some u ≡ slice_get (users_of f (Phi b)) 0 → entry_of f u ≡ Some (Phi b)
first_names b f u all e = ((all (Phi b)).1 u).0 (in_first u (users_of f (Phi b)) (sym e))

-- the form in between, in which more blocks wait
abbrev pub awaiting : User → FormState → FormState
awaiting u f = record f { waiting = waiting_for u f.waiting }

pub replacing_next : (b : BlockNo) (a : Access) (f g h : FormState) (u : User) → IsReplacing b a f g → a ≢ Phi b → entry_of g u ≡ Some (Phi b)
    → IsChanged (one_set u (Some a)) (awaiting u g) h → h.waiting ≡ waiting_for u g.waiting → IsReplacing b a f h
replacing_next b a f g h u r ne is c w = record {
  entries = λ v. elim (same_user_tells u v) [
    | inl same ↦
        let now : entry_of h v ≡ Some a = c.entries v ∙ (rw same.0 refl) in
        let was : entry_of g v ≡ Some (Phi b) = subst (λ (x : User). entry_of g x ≡ Some (Phi b)) same.1 is in
        ⊎_elim (λ (l : entry_of g v ≡ entry_of f v). inr (sym l ∙ was, now)) (λ (k : (entry_of f v ≡ Some (Phi b)) × (entry_of g v ≡ Some a)). inr (k.0, now)) (r.entries v)
    | inr other ↦
        let now : entry_of h v ≡ entry_of g v = c.entries v ∙ (rw other.0 (entry-waiting g (waiting_for u g.waiting) v)) in
        ⊎_elim (λ (l : entry_of g v ≡ entry_of f v). inl (now ∙ l)) (λ (k : (entry_of f v ≡ Some (Phi b)) × (entry_of g v ≡ Some a)). inr (k.0, now ∙ k.1)) (r.entries v)
  ];
  phis = c.phis ∙ r.phis;
  lasts = c.lasts ∙ r.lasts;
  numbers = c.numbers ∙ r.numbers;
  slots = λ x. c.slots x ∙ r.slots x;
  spare = c.spare ∙ r.spare;
  places = λ counts insts p. c.places counts insts (let q = r.places counts insts p in record { blocks = q.blocks; slots = q.slots; numbers = q.numbers });
  on = λ x t. rw w (waits_for_on x u g.waiting (r.on x t));
  named = λ x slot e.
      ⊎_elim
      (λ (l : entry_of g (Operand x slot) ≡ Some (Phi b)). elim (same_user_tells u (Operand x slot)) [
        | inl same ↦ inr (rw (w, same.1) (waits_itself x.0 g.waiting))
        | inr other ↦ inl (c.entries (Operand x slot) ∙ (rw other.0 (entry-waiting g (waiting_for u g.waiting) (Operand x slot))) ∙ l)
      ])
      (λ (t : Waits g x.0). inr (rw w (waits_for_on x.0 u g.waiting t)))
      (r.named x slot e);
}

none_left : (b : BlockNo) (f : FormState) (u : User) → AreUsers f → None ≡ slice_get (users_of f (Phi b)) 0 → entry_of f u ≢ Some (Phi b)
none_left b f u all e is = empty (users_of f (Phi b)) e (((all (Phi b)).1 u).1 is)
  where
    empty : (us : List User) → None ≡ slice_get us 0 → IsIn u us → ⊥
    empty [] e' h = h
    empty (v ∷ us) e' h = cc

pub replaced_all : (b : BlockNo) (a : Access) (f g : FormState) → IsReplacing b a f g → AreUsers g → None ≡ slice_get (users_of g (Phi b)) 0 → IsChanged (all_replaced b a) f g
replaced_all b a f g r all e = record {
  entries = λ u.
      ⊎_elim
      (λ (l : entry_of g u ≡ entry_of f u). l ∙ sym (replaced_other b a (entry_of f u) (λ is. none_left b g u all e (l ∙ is))))
      (λ (k : (entry_of f u ≡ Some (Phi b)) × (entry_of g u ≡ Some a)). k.1 ∙ sym (ap (all_replaced b a u) k.0 ∙ replaced_phi b a))
      (r.entries u);
  phis = r.phis;
  lasts = r.lasts;
  numbers = r.numbers;
  slots = r.slots;
  spare = r.spare;
  places = r.places;
}

pub all_awaited : (b : BlockNo) (a : Access) (f g : FormState) → IsReplacing b a f g → AreUsers g → None ≡ slice_get (users_of g (Phi b)) 0 → IsAwaited b f g
all_awaited b a f g r all e = record {
  on = r.on;
  named = λ c slot is. ⊎_elim (λ (l : entry_of g (Operand c slot) ≡ Some (Phi b)). absurd (none_left b g (Operand c slot) all e l)) (λ (t : Waits g c.0). t) (r.named c slot is);
}

pub replacing_list : (b : BlockNo) (a : Access) (f g : FormState) (x : Access) → IsReplacing b a f g → HasList f x → HasList g x
replacing_list b a f g Entry r h = tt
replacing_list b a f g (Phi c) r h = rw r.phis h
replacing_list b a f g (Of i) r h = rw r.numbers h
