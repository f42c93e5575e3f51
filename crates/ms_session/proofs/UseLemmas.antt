-- What a use names.
use Rattle.std.proofs.Common.{◌≡◌, ◌↔◌, inl, inr, ℕ, true, false, List, [], Option, Some, None, refl, sym, ap, ◌∙◌, subst, ⊎_elim}
use Rattle.std.specs.Prelude.{slice_get}
use Rattle.std.proofs.lemmas.Bool.{cases_Bool, both_ways}
use Rattle.ms_paths.specs.Flow.{Event, Entry, IsReached}
use Rattle.ms_ir.specs.declared.names.InstNo.{InstNo}
use Rattle.ms_ir.specs.declared.inst.Kind.{Kind}
use Rattle.ms_ir.specs.declared.inst.Kind.TheVariants.{Def, Reads, Neither}
use Rattle.ms_ir.specs.Inst.{kind_of_inst}
use Rattle.ms_ir.specs.Func.{Placed, FuncState, IsAt, insts_at}
use Rattle.ms_ir.specs.Graph.{graph_of}
use Rattle.ms_flow.specs.Table.{edges_of}
use Rattle.ms_form.specs.declared.access.Access.{Access}
use Rattle.ms_build.specs.Accesses.{event_of, defining_at}
use Rattle.ms_build.specs.Built.{IsFormOf}
use Rattle.ms_form.specs.Form.{FormState}
use Rattle.ms_alias.specs.declared.loc.Loc.{Loc}
use Rattle.ms_alias.specs.Reaches.{IsLocRead, ReadsLoc}
use Rattle.ms_walk.specs.Clobber.{IsClobberAt, IsClobber}
use Rattle.ms_session.specs.Annotated.{IsUse, note_of}
use Rattle.ms_session.specs.Shown.{reached_in, IsShownLine}
use Rattle.ms_build.proofs.Define.{OnePlaced}
use Rattle.ms_session.proofs.Annotates.{ReachedTold}

-- one number stands for one instruction at one place
record IsSamePlace (b k c j : ℕ) (x y : Placed) : Type 0 where
  block : b ≡ c
  place : k ≡ j
  inst : x ≡ y

same_place : (f : FuncState) → OnePlaced f.blocks → (i b k c j : ℕ) (x y : Placed) → IsAt f.blocks i b k x → IsAt f.blocks i c j y → IsSamePlace b k c j x y
same_place f one i b k c j x y p q =
    let at = one b k c j x y p.found q.found (p.numbered ∙ sym q.numbered) in
    let here : slice_get (insts_at f.blocks c) j ≡ Some x =
    subst (λ (m : ℕ). slice_get (insts_at f.blocks c) m ≡ Some x) at.1 (subst (λ (m : ℕ). slice_get (insts_at f.blocks m) k ≡ Some x) at.0 p.found) in
    let both : Some x ≡ Some y = sym here ∙ q.found in
    record { block = at.0; place = at.1; inst = cc }

-- the clobber of what the instruction of a number reads is what it names
pub use_named : (f : FuncState) → OnePlaced f.blocks → (i : InstNo) (loc : Loc) (e : Event) → ReadsLoc f i loc → IsClobber f i.0 loc e
    → (b k : ℕ) (x : Placed) → IsAt f.blocks i.0 b k x → IsUse f b k x e
use_named f one i loc e read clobber b k x at =
    let s = same_place f one i.0 read.0 read.1 b k read.2 x read.3 at in
    let t = same_place f one i.0 clobber.block clobber.place b k clobber.inst x clobber.at at in
    let reads : IsLocRead f i x.inst loc = subst (λ (y : Placed). IsLocRead f i y.inst loc) s.inst read.4 in
    let named : IsLocRead f (record { 0 = x.number }) x.inst loc = subst (λ (n : ℕ). IsLocRead f (record { 0 = n }) x.inst loc) (sym at.numbered) reads in
    inl (loc, named, subst (λ (m : ℕ). IsClobberAt f b m loc e) t.place (subst (λ (m : ℕ). IsClobberAt f m clobber.place loc e) t.block clobber.clobber))

pub none_read : (f : FuncState) (i : InstNo) → ((loc : Loc) → ReadsLoc f i loc → ⊥) → (b k : ℕ) (x : Placed) → IsAt f.blocks i.0 b k x → IsUse f b k x Entry
none_read f i none b k x at =
    inr ((λ loc read. none loc (b, k, x, at, subst (λ (n : ℕ). IsLocRead f (record { 0 = n }) x.inst loc) at.numbered read)), refl)

-- an instruction for which the form has an access stands in a reached block
pub access_reached : (f : FuncState) (form : FormState) → IsFormOf f form → OnePlaced f.blocks → ReachedTold (edges_of f.blocks)
    → ((b : ℕ) → IsReached (edges_of f.blocks) b ↔ IsReached (graph_of f.blocks) b) → (i : ℕ) (a : Access) → defining_at form i ≡ Some a
    → (b k : ℕ) (x : Placed) → IsAt f.blocks i b k x → IsReached (graph_of f.blocks) b
access_reached f form h one told paths i a e b k x at =
    ⊎_elim
    (λ (t : reached_in (edges_of f.blocks) b ≡ true). (paths b).0 ((told b).0 t))
    (λ (off : reached_in (edges_of f.blocks) b ≡ false).
    let none : defining_at form i ≡ None = h.no_defining i (λ c j y path there same.
    let place = one c j b k y x there.found at.found (same ∙ sym at.numbered) in
    both_ways (reached_in (edges_of f.blocks) b) off ((told b).1 ((paths b).1 (subst (IsReached (graph_of f.blocks)) place.0 path)))) in
    let clash : Some a ≡ None = sym e ∙ none in
    absurd (cc))
    (cases_Bool (reached_in (edges_of f.blocks) b))

-- the line of an instruction, where the form names an access before it
pub shown_def : (f : FuncState) (all : List Event) (i : ℕ) (a : Access) (o : Option Access) (kind : Kind) (line : List ℕ) → o ≡ Some a → kind ≡ Def → line ≡ note_of all (event_of a) i Def
    → (b k : ℕ) (x : Placed) → IsAt f.blocks i b k x → kind_of_inst x.inst ≡ kind → IsShownLine f all b k x o (kind_of_inst x.inst) line
shown_def f all i a o kind line named def said b k x at is =
    subst (λ (p : Option Access). IsShownLine f all b k x p (kind_of_inst x.inst) line) (sym named)
    (subst (λ (t : Kind). IsShownLine f all b k x (Some a) t line) (sym (is ∙ def)) (said ∙ ap (λ (n : ℕ). note_of all (event_of a) n Def) (sym at.numbered)))

pub shown_use : (f : FuncState) (all : List Event) (i : ℕ) (a : Access) (o : Option Access) (e : Event) (kind : Kind) (line : List ℕ) → o ≡ Some a → kind ≡ Reads → line ≡ note_of all e i Reads
    → (b k : ℕ) (x : Placed) → IsAt f.blocks i b k x → kind_of_inst x.inst ≡ kind → IsUse f b k x e → IsShownLine f all b k x o (kind_of_inst x.inst) line
shown_use f all i a o e kind line named reads said b k x at is clobber =
    subst (λ (p : Option Access). IsShownLine f all b k x p (kind_of_inst x.inst) line) (sym named)
    (subst (λ (t : Kind). IsShownLine f all b k x (Some a) t line) (sym (is ∙ reads)) (e, clobber, said ∙ ap (λ (n : ℕ). note_of all e n Reads) (sym at.numbered)))

pub shown_neither : (f : FuncState) (all : List Event) (i : ℕ) (a : Access) (o : Option Access) (kind : Kind) → o ≡ Some a → kind ≡ Neither
    → (b k : ℕ) (x : Placed) → IsAt f.blocks i b k x → kind_of_inst x.inst ≡ kind → IsShownLine f all b k x o (kind_of_inst x.inst) []
shown_neither f all i a o kind named neither b k x at is =
    subst (λ (p : Option Access). IsShownLine f all b k x p (kind_of_inst x.inst) []) (sym named)
    (subst (λ (t : Kind). IsShownLine f all b k x (Some a) t []) (sym (is ∙ neither)) refl)
