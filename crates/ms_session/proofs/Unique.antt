-- A function has one annotated text.
use Rattle.std.proofs.Common.{◌≡◌, ◌<◌, ◌+◌, ℕ, suc, Bool, true, false, List, [], ◌∷◌, length, Some, refl, sym, ap, ◌∙◌, subst, arith, inl, inr, ⊎_elim}
use Rattle.std.specs.Prelude.{slice_get}
use Rattle.std.proofs.lemmas.Bool.{cases_Bool}
use mathlib.Core.Path.{fun_ext}
use Rattle.ms_paths.specs.Flow.{Block as Run, Event, IsReached, IsAnswer}
use Rattle.ms_ir.specs.Func.{Placed, Block, FuncState, insts_at}
use Rattle.ms_ir.specs.Graph.{graph_of, defs_of}
use Rattle.ms_ir.specs.Lasts.{IsLasts}
use Rattle.ms_ir.specs.Symbols.{NamesState}
use Rattle.ms_print.specs.declared.notes.Note.{Note}
use Rattle.ms_print.specs.declared.notes.Notes.{Notes}
use Rattle.ms_print.specs.Lines.{Shown, shown_in}
use Rattle.ms_print.specs.Text.{note_at, insts_text, blocks_text, func_text}
use Rattle.ms_session.specs.Annotated.{IsAnnotated, IsUse, IsInstLine, numbered_from, note_of, phi_note}
use Rattle.ms_alias.specs.declared.loc.Loc.{Loc}
use Rattle.ms_walk.specs.Clobber.{IsClobberAt}
use Rattle.ms_alias.proofs.Locations.{read_once}
use Rattle.ms_walk.proofs.Once.{clobber_once}
use Rattle.ms_ir.specs.declared.inst.Kind.{Kind}
use Rattle.ms_ir.specs.declared.inst.Kind.TheVariants.{Def, Reads, Neither}
use Rattle.ms_ir.specs.Inst.{kind_of_inst}

abbrev pub OneAnswer : Type 0
OneAnswer =
    (g : List Run) (E : ℕ → Bool) (b k : ℕ) (d e : Event) → IsReached g b → IsAnswer g E b k d → IsAnswer g E b k e → d ≡ e

pub true_alike : (a b : Bool) → (a ≡ true → b ≡ true) → (b ≡ true → a ≡ true) → a ≡ b
true_alike true b there back = sym (there refl)
true_alike false true there back = back refl
true_alike false false there back = refl

same_reached : (blocks : List Block) (r p s q : ℕ → Bool) (l m : ℕ → ℕ → Event) → IsLasts blocks r p l → IsLasts blocks s q m → r ≡ s
same_reached blocks r p s q l m a c =
    fun_ext (λ b. true_alike (r b) (s b) (λ t. (c.reached_are b).1 ((a.reached_are b).0 t)) (λ t. (a.reached_are b).1 ((c.reached_are b).0 t)))

same_phis : (blocks : List Block) (r p s q : ℕ → Bool) (l m : ℕ → ℕ → Event) → IsLasts blocks r p l → IsLasts blocks s q m → p ≡ q
same_phis blocks r p s q l m a c =
    fun_ext (λ b. true_alike (p b) (q b) (λ t. (c.phis_are b).1 ((a.phis_are b).0 t)) (λ t. (a.phis_are b).1 ((c.phis_are b).0 t)))

same_last : OneAnswer → (blocks : List Block) (r p s q : ℕ → Bool) (l m : ℕ → ℕ → Event) → IsLasts blocks r p l → IsLasts blocks s q m → l ≡ m
same_last law blocks r p s q l m a c =
    let same : r ≡ s = same_reached blocks r p s q l m a c in
    fun_ext (λ b. fun_ext (λ k. ⊎_elim
    (λ (t : r b ≡ true).
    let at : IsReached (graph_of blocks) b = (a.reached_are b).0 t in
    law (graph_of blocks) (defs_of blocks) b k (l b k) (m b k) at (a.last_is b k at) (c.last_is b k at))
    (λ (f : r b ≡ false). a.elsewhere b k f ∙ sym (c.elsewhere b k (sym (ap (λ (h : ℕ → Bool). h b) same) ∙ f)))
    (cases_Bool (r b))))

-- a use names one access
use_once : OneAnswer → (f : FuncState) (b k : ℕ) (x : Placed) (d e : Event) → IsReached (graph_of f.blocks) b → IsUse f b k x d → IsUse f b k x e → d ≡ e
use_once law f b k x d e r (inl u) (inl v) =
    let same : u.0 ≡ v.0 = read_once f (record { 0 = x.number }) x.inst u.0 v.0 u.1 v.1 in
    clobber_once law f b k v.0 d e r (subst (λ (l : Loc). IsClobberAt f b k l d) same u.2) v.2
use_once law f b k x d e r (inl u) (inr v) = absurd (v.0 u.0 u.1)
use_once law f b k x d e r (inr u) (inl v) = absurd (u.0 v.0 v.1)
use_once law f b k x d e r (inr u) (inr v) = u.1 ∙ sym v.1

line_once : OneAnswer → (f : FuncState) (last : ℕ → ℕ → Event) (all : List Event) (b k : ℕ) (x : Placed) (kind : Kind) (l m : List ℕ) → IsReached (graph_of f.blocks) b
    → IsInstLine f last all b k x kind l → IsInstLine f last all b k x kind m → l ≡ m
line_once law f last all b k x Def l m r p q = p ∙ sym q
line_once law f last all b k x Reads l m r p q =
    p.2 ∙ ap (λ (e : Event). note_of all e x.number Reads) (use_once law f b k x p.0 q.0 r p.1 q.1) ∙ sym q.2
line_once law f last all b k x Neither l m r p q = p ∙ sym q

-- notes with the same lines at the instructions give the same text
insts_same : (s : Shown) (n m : List Note) (xs : List Placed) → ((k : ℕ) (x : Placed) → slice_get xs k ≡ Some x → note_at n x.number ≡ note_at m x.number)
    → insts_text s n xs ≡ insts_text s m xs
insts_same s n m [] h = refl
insts_same s n m (x ∷ xs) h = rw (h 0 x refl, insts_same s n m xs (λ k y e. h (suc k) y e)) refl

blocks_same : (s : Shown) (n m : Notes) (b : ℕ) (xs : List Block) → ((k c : ℕ) → k < length xs → c ≡ b + k → note_at n.phis c ≡ note_at m.phis c)
    → ((k j : ℕ) (x : Placed) → slice_get (insts_at xs k) j ≡ Some x → note_at n.insts x.number ≡ note_at m.insts x.number)
    → blocks_text s n b xs ≡ blocks_text s m b xs
blocks_same s n m b [] phis insts = refl
blocks_same s n m b (x ∷ xs) phis insts =
    rw (
      phis 0 b (omega arith) (omega arith),
      insts_same s n.insts m.insts x.insts (λ j y e. insts 0 j y e),
      blocks_same s n m (suc b) xs (λ k c lt e. phis (suc k) c (omega arith) (omega arith)) (λ k j y e. insts (suc k) j y e),
    ) refl

pub annotated_once : OneAnswer → (names : NamesState) (f : FuncState) (t u : List ℕ) → IsAnnotated names f t → IsAnnotated names f u → t ≡ u
annotated_once law names f t u a c =
    let reached : a.reached ≡ c.reached = same_reached f.blocks a.reached a.phis c.reached c.phis a.last c.last a.lasts c.lasts in
    let phis : a.phis ≡ c.phis = same_phis f.blocks a.reached a.phis c.reached c.phis a.last c.last a.lasts c.lasts in
    let last : a.last ≡ c.last = same_last law f.blocks a.reached a.phis c.reached c.phis a.last c.last a.lasts c.lasts in
    let P : (ℕ → Bool) → (ℕ → Bool) → (ℕ → ℕ → Event) → ℕ → List ℕ = λ r p l b. phi_note f r p l (numbered_from r p 0 f.blocks) b in
    let L : (ℕ → Bool) → (ℕ → Bool) → (ℕ → ℕ → Event) → ℕ → ℕ → Placed → List ℕ → Type 0 =
    λ r p l b k x line. IsInstLine f l (numbered_from r p 0 f.blocks) b k x (kind_of_inst x.inst) line in
    let at_phi : (b : ℕ) → P a.reached a.phis a.last b ≡ P c.reached c.phis c.last b =
    λ b. ap (λ r. P r a.phis a.last b) reached ∙ ap (λ p. P c.reached p a.last b) phis ∙ ap (λ l. P c.reached c.phis l b) last in
    let moved : (b k : ℕ) (x : Placed) (line : List ℕ) → L a.reached a.phis a.last b k x line → L c.reached c.phis c.last b k x line =
    λ b k x line h. subst (λ l. L c.reached c.phis l b k x line) last (subst (λ p. L c.reached p a.last b k x line) phis (subst (λ r. L r a.phis a.last b k x line) reached h)) in
    let at_inst : (b k : ℕ) (x : Placed) → slice_get (insts_at f.blocks b) k ≡ Some x → note_at a.notes.insts x.number ≡ note_at c.notes.insts x.number =
    λ b k x e. ⊎_elim
    (λ (t : c.reached b ≡ true).
    let there : a.reached b ≡ true = ap (λ (h : ℕ → Bool). h b) reached ∙ t in
    line_once law f c.last (numbered_from c.reached c.phis 0 f.blocks) b k x (kind_of_inst x.inst) (note_at a.notes.insts x.number) (note_at c.notes.insts x.number)
    ((c.lasts.reached_are b).0 t) (moved b k x (note_at a.notes.insts x.number) (a.at_insts b k x there e)) (c.at_insts b k x t e))
    (λ (n : c.reached b ≡ false).
    let none : a.reached b ≡ false = ap (λ (h : ℕ → Bool). h b) reached ∙ n in
    a.elsewhere b k x none e ∙ sym (c.elsewhere b k x n e))
    (cases_Bool (c.reached b)) in
    let blocks = blocks_same (shown_in names f) a.notes c.notes 0 f.blocks
    (λ k b lt e. let within : b < length f.blocks = omega arith in a.at_blocks b within ∙ at_phi b ∙ sym (c.at_blocks b within))
    at_inst in
    let same : func_text names f a.notes ≡ func_text names f c.notes = rw blocks refl in
    a.text_is ∙ same ∙ sym c.text_is
