-- The text that a form shows is the annotated text.
use Rattle.std.proofs.Common.{◌≡◌, ◌<◌, ◌+◌, ◌↔◌, ℕ, suc, zero, Bool, true, false, eqb, List, [], ◌∷◌, length, map, Option, Some, None, if◌then◌else◌, refl, sym, ap, ◌∙◌, subst, arith, add-one, ⊎_elim}
use Rattle.std.specs.Prelude.{slice_get, slice_index, IsSome, Contains}
use Rattle.std.proofs.lemmas.Bool.{cases_Bool, both_ways}
use Rattle.std.proofs.lemmas.List.{map-append}
use Rattle.ms_paths.specs.Flow.{Block as Run, Event, IsReached}
use Rattle.ms_ir.specs.declared.names.Name.{Name}
use Rattle.ms_ir.specs.declared.inst.Kind.{Kind}
use Rattle.ms_ir.specs.declared.inst.Kind.TheVariants.{Def, Reads, Neither}
use Rattle.ms_ir.specs.Inst.{kind_of_inst}
use Rattle.ms_ir.specs.Func.{Placed, Block, FuncState, insts_at}
use Rattle.ms_ir.specs.Graph.{graph_of, defs_of, successors}
use Rattle.ms_ir.specs.Lasts.{IsLasts}
use Rattle.ms_ir.specs.Symbols.{NamesState}
use Rattle.ms_flow.specs.declared.sources.Source.{Source}
use Rattle.ms_flow.specs.Table.{edges_of, next_of}
use Rattle.ms_flow.specs.Flow.{has_reached, order_of, slots_to, edges_to, sources_of}
use Rattle.ms_form.specs.declared.access.Access.{Access}
use Rattle.ms_form.specs.Form.{FormState}
use Rattle.ms_build.specs.Accesses.{event_of, has_phi, operand_at, defining_at}
use Rattle.ms_build.specs.Built.{IsFormOf, IsAnswered}
use Rattle.ms_build.specs.Filled.{names_access}
use Rattle.ms_print.specs.declared.notes.Notes.{Notes}
use Rattle.ms_print.specs.Numbering.{labels_of}
use Rattle.ms_print.specs.Text.{note_at, func_text}
use Rattle.ms_session.specs.Annotated.{IsAnnotated, IsInstLine, numbered_from, note_of, phi_note, entries_by_slot, entries_from}
use Rattle.ms_session.specs.Shown.{reached_in, IsShownLine, entry_text, operand_text, operand_texts, shown_phi}
use Rattle.ms_session.proofs.Unique.{OneAnswer, true_alike}
use Rattle.ms_session.proofs.Sources.{edge, edges_hold, edges_have}
use Rattle.ms_build.proofs.Define.{OnePlaced}
use Rattle.ms_session.proofs.Lasts.{last_by, lasts_are}

abbrev pub ReachedTold : List Run → Type 0
ReachedTold g = (b : ℕ) → IsSome (order_of g b) ↔ IsReached g b

abbrev pub EdgesTold : List Run → Type 0
EdgesTold g = (b : ℕ) (e : Source) → Contains (sources_of g b) e → IsReached g e.from × (e.slot < length (next_of g e.from)) × (slice_index (next_of g e.from) e.slot ≡ b)

abbrev pub AllTold : List Run → Type 0
AllTold g = (a slot : ℕ) → IsReached g a → slot < length (next_of g a) → Contains (sources_of g (slice_index (next_of g a) slot)) (record { from = a; slot = slot })

-- the text of an operand, which is the answer at the end of its block
operand_named : OneAnswer → (blocks : List Block) (reached phis : ℕ → Bool) (last : ℕ → ℕ → Event) (labels : List Name) (all : List Event) (c k : ℕ) (a : Option Access)
    → IsLasts blocks reached phis last → IsReached (graph_of blocks) c → IsAnswered blocks c k a → operand_text labels all c a ≡ entry_text labels all c (last c k)
operand_named law blocks reached phis last labels all c k None lasts r h = absurd h
operand_named law blocks reached phis last labels all c k (Some x) lasts r h =
    ap (entry_text labels all c) (law (graph_of blocks) (defs_of blocks) c k (event_of x) (last c k) r h (lasts.last_is c k r))

texts_map : (labels : List Name) (all : List Event) (form : FormState) (b slot : ℕ) (ss : List Source) (g : Source → List ℕ)
    → ((j m : ℕ) (e : Source) → slice_get ss j ≡ Some e → m ≡ slot + j → operand_text labels all e.from (operand_at form b m) ≡ g e)
    → operand_texts labels all form b slot ss ≡ map g ss
texts_map labels all form b slot [] g h = refl
texts_map labels all form b slot (e ∷ ss) g h =
    rw (h 0 slot e refl (omega arith), texts_map labels all form b (suc slot) ss g (λ j m x at is. h (suc j) m x at (omega arith))) refl

slots_map : (g : Source → List ℕ) (a b j : ℕ) (ts : List ℕ) (entry : List ℕ) → ((k : ℕ) → g (edge a k) ≡ entry) → map g (slots_to a b j ts) ≡ entries_by_slot b ts entry
slots_map g a b j [] entry h = refl
slots_map g a b j (t ∷ ts) entry h =
    ⊎_elim
    (λ (y : eqb t b ≡ true). rw (y, h j, slots_map g a b (j + 1) ts entry h) refl)
    (λ (n : eqb t b ≡ false). rw n (slots_map g a b (j + 1) ts entry h))
    (cases_Bool (eqb t b))

-- the entries for the edges from one block
block_map : (g : Source → List ℕ) (u v : Bool) (a b : ℕ) (ts : List ℕ) (entry : List ℕ) → ((k : ℕ) → g (edge a k) ≡ entry)
    → ((t : ℕ) (rest : List ℕ) → ts ≡ t ∷ rest → u ≡ v) → map g (if v then slots_to a b 0 ts else []) ≡ (if u then entries_by_slot b ts entry else [])
block_map g true true a b [] entry h same = refl
block_map g true false a b [] entry h same = refl
block_map g false true a b [] entry h same = refl
block_map g false false a b [] entry h same = refl
block_map g u v a b (t ∷ ts) entry h same =
    rw (same t ts refl)
    (⊎_elim
    (λ (y : v ≡ true). rw y (slots_map g a b 0 (t ∷ ts) entry h))
    (λ (n : v ≡ false). rw n refl)
    (cases_Bool v))

entries_map : (g : Source → List ℕ) (reached R : ℕ → Bool) (labels : List Name) (all : List Event) (last : ℕ → ℕ → Event) (b a : ℕ) (xs : List Block)
    → ((k c slot : ℕ) (x : Block) → slice_get xs k ≡ Some x → c ≡ a + k → g (edge c slot) ≡ entry_text labels all c (last c (length x.insts)))
    → ((k c t : ℕ) (ts : List ℕ) (x : Block) → slice_get xs k ≡ Some x → c ≡ a + k → successors x.term ≡ t ∷ ts → reached c ≡ R c)
    → map g (edges_to R b a (edges_of xs)) ≡ entries_from labels reached last all b a xs
entries_map g reached R labels all last b a [] texts same = refl
entries_map g reached R labels all last b a (x ∷ xs) texts same =
    map-append g (if R a then slots_to a b 0 (successors x.term) else []) (edges_to R b (a + 1) (edges_of xs))
    ∙ rw (
      block_map g (reached a) (R a) a b (successors x.term) (entry_text labels all a (last a (length x.insts))) (λ k. texts 0 a k x refl (omega arith)) (λ t ts is. same 0 a t ts x refl (omega arith) is),
      entries_map g reached R labels all last b (a + 1) xs (λ k c slot y at is. texts (suc k) c slot y at (omega arith)) (λ k c t ts y at is. same (suc k) c t ts y at (omega arith)),
      add-one,
    ) refl

next_is : (xs : List Block) (k : ℕ) (x : Block) → slice_get xs k ≡ Some x → next_of (edges_of xs) k ≡ successors x.term
next_is [] k x e = cc
next_is (y ∷ xs) zero x e = let same : y ≡ x = cc in ap (λ (z : Block). successors z.term) same
next_is (y ∷ xs) (suc k) x e = next_is xs k x e

edges_within : (xs : List Block) (k : ℕ) (x : Block) → slice_get xs k ≡ Some x → k < length (edges_of xs)
edges_within [] k x e = cc
edges_within (y ∷ xs) zero x e = omega arith
edges_within (y ∷ xs) (suc k) x e = let r = edges_within xs k x e in omega arith

insts_is : (xs : List Block) (k : ℕ) (x : Block) → slice_get xs k ≡ Some x → length (insts_at xs k) ≡ length x.insts
insts_is [] k x e = cc
insts_is (y ∷ xs) zero x e = let same : y ≡ x = cc in ap (λ (z : Block). length z.insts) same
insts_is (y ∷ xs) (suc k) x e = insts_is xs k x e

-- both ways to say that a block is reached agree where it has a target
alike : (g : List Run) → ReachedTold g → EdgesTold g → AllTold g → (c t : ℕ) (ts : List ℕ) → c < length g → next_of g c ≡ t ∷ ts → reached_in g c ≡ has_reached g c
alike g told edges all c t ts lt is =
    let some : 0 < length (next_of g c) = rw is (omega arith) in
    true_alike (reached_in g c) (has_reached g c)
    (λ r. edges_hold (has_reached g) (slice_index (next_of g c) 0) 0 g (edge c 0) (all c 0 ((told c).0 r) some))
    (λ on. (told c).1 (edges t (edge c 0) (edges_have (has_reached g) 0 g c c t ts lt (omega arith) on is)).0)

abbrev all_of : FuncState → FormState → List Event
all_of f form = numbered_from (reached_in (edges_of f.blocks)) (has_phi form) 0 f.blocks

abbrev last_of : FuncState → FormState → ℕ → ℕ → Event
last_of f form = last_by (reached_in (edges_of f.blocks)) f.blocks form

-- the line at a block
phi_same : OneAnswer → (f : FuncState) (form : FormState) → ReachedTold (edges_of f.blocks) → EdgesTold (edges_of f.blocks) → AllTold (edges_of f.blocks)
    → ((b : ℕ) → IsReached (edges_of f.blocks) b ↔ IsReached (graph_of f.blocks) b) → IsFormOf f form
    → IsLasts f.blocks (reached_in (edges_of f.blocks)) (has_phi form) (last_of f form) → (b : ℕ)
    → shown_phi (labels_of f) (all_of f form) (edges_of f.blocks) form b ≡ phi_note f (reached_in (edges_of f.blocks)) (has_phi form) (last_of f form) (all_of f form) b
phi_same law f form told edges every paths h lasts b =
    let g : List Run = edges_of f.blocks in
    let labels : List Name = labels_of f in
    let all : List Event = all_of f form in
    let last : ℕ → ℕ → Event = last_of f form in
    let text : Source → List ℕ = λ e. entry_text labels all e.from (last e.from (length (insts_at f.blocks e.from))) in
    let mapped : map text (sources_of g b) ≡ entries_from labels (reached_in g) last all b 0 f.blocks =
    entries_map text (reached_in g) (has_reached g) labels all last b 0 f.blocks
    (λ k c slot x at is. let same : c ≡ k = omega arith in ap (λ n. entry_text labels all c (last c n)) (ap (λ m. length (insts_at f.blocks m)) same ∙ insts_is f.blocks k x at))
    (λ k c t ts x at is next.
    let same : c ≡ k = omega arith in
    ap (reached_in g) same ∙ alike g told edges every k t ts (edges_within f.blocks k x at) (next_is f.blocks k x at ∙ next) ∙ sym (ap (has_reached g) same)) in
    ⊎_elim
    (λ (r : reached_in g b ≡ true).
    ⊎_elim
    (λ (p : has_phi form b ≡ true).
    let texts : operand_texts labels all form b 0 (sources_of g b) ≡ map text (sources_of g b) =
    texts_map labels all form b 0 (sources_of g b) text (λ j m e at is.
    let same : m ≡ j = omega arith in
    let over : slice_get (sources_of g b) m ≡ Some e = ap (slice_get (sources_of g b)) same ∙ at in
    let from : IsReached (graph_of f.blocks) e.from = (paths e.from).0 (edges b e (held (sources_of g b) j e at)).0 in
    operand_named law f.blocks (reached_in g) (has_phi form) last labels all e.from (length (insts_at f.blocks e.from)) (operand_at form b m) lasts from (h.operands b m e p over)) in
    rw (r, p, texts, mapped) refl)
    (λ (n : has_phi form b ≡ false). rw (r, n) refl)
    (cases_Bool (has_phi form b)))
    (λ (n : reached_in g b ≡ false). rw n refl)
    (cases_Bool (reached_in g b))
  where
    held : (xs : List Source) (j : ℕ) (e : Source) → slice_get xs j ≡ Some e → Contains xs e
    held [] j e at = cc
    held (x ∷ xs) zero e at = let same : x ≡ e = cc in (0, omega arith, same)
    held (x ∷ xs) (suc j) e at = let r = held xs j e at in (suc r.0, omega (arith, r.1), r.2)

-- where a block is reached, the line that the form shows is the one that it should be
line_is : OneAnswer → (f : FuncState) (reached phis : ℕ → Bool) (last : ℕ → ℕ → Event) (all : List Event) (b k : ℕ) (x : Placed) (a : Option Access) (kind : Kind) (line : List ℕ)
    → IsLasts f.blocks reached phis last → IsReached (graph_of f.blocks) b → (names_access kind ≡ true → IsAnswered f.blocks b k a)
    → IsShownLine f all b k x a kind line → IsInstLine f last all b k x kind line
line_is law f reached phis last all b k x None Def line lasts r h s = absurd (h refl)
line_is law f reached phis last all b k x None Reads line lasts r h s = absurd (h refl)
line_is law f reached phis last all b k x None Neither line lasts r h s = s
line_is law f reached phis last all b k x (Some a) Def line lasts r h s =
    s ∙ ap (λ e. note_of all e x.number Def) (law (graph_of f.blocks) (defs_of f.blocks) b k (event_of a) (last b k) r (h refl) (lasts.last_is b k r))
line_is law f reached phis last all b k x (Some a) Reads line lasts r h s = s
line_is law f reached phis last all b k x (Some a) Neither line lasts r h s = s

none_shown : (f : FuncState) (all : List Event) (b k : ℕ) (x : Placed) (a : Option Access) (kind : Kind) (line : List ℕ) → a ≡ None → IsShownLine f all b k x a kind line → line ≡ []
none_shown f all b k x None kind line e s = s
none_shown f all b k x (Some a) kind line e s = cc

of_edges : OneAnswer → (names : NamesState) (f : FuncState) (form : FormState) (all : List Event) (labels : List Name) (notes : Notes) (text : List ℕ)
    → ReachedTold (edges_of f.blocks) → EdgesTold (edges_of f.blocks) → AllTold (edges_of f.blocks) → ((b : ℕ) → IsReached (edges_of f.blocks) b ↔ IsReached (graph_of f.blocks) b)
    → OnePlaced f.blocks → IsFormOf f form → all ≡ all_of f form → labels ≡ labels_of f
    → ((b : ℕ) → b < length (edges_of f.blocks) → note_at notes.phis b ≡ shown_phi labels all (edges_of f.blocks) form b)
    → ((b k : ℕ) (x : Placed) → slice_get (insts_at f.blocks b) k ≡ Some x → IsShownLine f all b k x (defining_at form x.number) (kind_of_inst x.inst) (note_at notes.insts x.number))
    → length (edges_of f.blocks) ≡ length f.blocks → text ≡ func_text names f notes → IsAnnotated names f text
of_edges law names f form all labels notes text told edges every paths one h numbered labelled phis insts size is =
    let g : List Run = edges_of f.blocks in
    let lasts = lasts_are f form (reached_in g) h one (λ b. (λ t. (paths b).0 ((told b).0 t), λ r. (told b).1 ((paths b).1 r))) in
    record {
      reached = reached_in g;
      phis = has_phi form;
      last = last_of f form;
      lasts = lasts;
      notes = notes;
      at_blocks = λ b lt. phis b (omega arith) ∙ ap (λ ls. shown_phi ls all g form b) labelled ∙ ap (λ es. shown_phi (labels_of f) es g form b) numbered ∙ phi_same law f form told edges every paths h lasts b;
      at_insts = λ b k x on at.
          let path = (lasts.reached_are b).0 on in
          let line : List ℕ = note_at notes.insts x.number in
          line_is law f (reached_in g) (has_phi form) (last_of f form) (all_of f form) b k x (defining_at form x.number) (kind_of_inst x.inst) line lasts path
          (λ names. h.defining b k x path (record { found = at; names = names }))
          (subst (λ es. IsShownLine f es b k x (defining_at form x.number) (kind_of_inst x.inst) line) numbered (insts b k x at));
      elsewhere = λ b k x off at.
          let none : defining_at form x.number ≡ None = h.no_defining x.number (λ c j y path there same.
          let place = one c j b k y x there.found at same in
          both_ways (reached_in g b) off ((lasts.reached_are b).1 (subst (IsReached (graph_of f.blocks)) place.0 path))) in
          none_shown f all b k x (defining_at form x.number) (kind_of_inst x.inst) (note_at notes.insts x.number) none (insts b k x at);
      text_is = is;
    }

-- the text with the notes that a form shows
pub annotated_text : OneAnswer → (names : NamesState) (f : FuncState) (form : FormState) (g : List Run) (all : List Event) (labels : List Name) (notes : Notes) (text : List ℕ)
    → g ≡ edges_of f.blocks → ReachedTold g → EdgesTold g → AllTold g → ((b : ℕ) → IsReached (edges_of f.blocks) b ↔ IsReached (graph_of f.blocks) b)
    → OnePlaced f.blocks → IsFormOf f form → all ≡ numbered_from (reached_in g) (has_phi form) 0 f.blocks → labels ≡ labels_of f
    → ((b : ℕ) → b < length g → note_at notes.phis b ≡ shown_phi labels all g form b)
    → ((b k : ℕ) (x : Placed) → slice_get (insts_at f.blocks b) k ≡ Some x → IsShownLine f all b k x (defining_at form x.number) (kind_of_inst x.inst) (note_at notes.insts x.number))
    → length (edges_of f.blocks) ≡ length f.blocks → text ≡ func_text names f notes → IsAnnotated names f text
annotated_text law names f form g all labels notes text e told edges every paths one h numbered labelled phis insts size is =
    let P : List Run → Type 0 = λ r. ReachedTold r → EdgesTold r → AllTold r → all ≡ numbered_from (reached_in r) (has_phi form) 0 f.blocks
    → ((b : ℕ) → b < length r → note_at notes.phis b ≡ shown_phi labels all r form b) → IsAnnotated names f text in
    let whole : P (edges_of f.blocks) = λ t ed ev n ph. of_edges law names f form all labels notes text t ed ev paths one h n labelled ph insts size is in
    subst P (sym e) whole told edges every numbered phis
