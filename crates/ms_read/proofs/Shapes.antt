-- Lines that may stand behind one another are functions and lines outside them, and the other way round.
use Rattle.std.proofs.Common.{◌≡◌, ◌⊎◌, ℕ, Bool, true, false, List, [], ◌∷◌, ◌++◌, Option, Some, None, refl, sym, ap, subst, ◌∙◌, inl, inr, ⊎_elim, append_assoc}
use Rattle.std.specs.List.{flat_map}
use Rattle.std.specs.Prelude.{option_map, if◌then◌else◌}
use Rattle.ms_grammar.specs.Kept.{Each}
use Rattle.ms_grammar.specs.declared.line.Line.{Line}
use Rattle.ms_line.specs.declared.sort.Sort.{Sort}
use Rattle.ms_line.specs.declared.sort.Sort.TheVariants.{Blank, Item, Define, Close, Label, Phi, Alloca, Other, Term}
use Rattle.ms_read.specs.Places.{is_outside, is_blank, next_place, counted, outset, Lead}
use Rattle.ms_read.specs.Draft.{IsDraft}
use Rattle.ms_read.specs.Told.{IsSaid, sorts_of}
use Rattle.ms_read.specs.Shape.{MayFollow, IsBlock, AreBlocks, IsFunction, IsModule, Walk}
use Rattle.ms_read.specs.declared.place.Place.{Place}
use Rattle.ms_read.specs.declared.place.Place.TheVariants.{Outside, Begun, Front, Inner, Ended}
use Rattle.ms_read.specs.declared.place.Progress.{Progress}
use Rattle.ms_read.proofs.Told.{told_lines, told_places}

-- what comes behind a terminator: further blocks, a close line, and the rest of the module
record AfterBlock (sorts : List Sort) : Type 0 where
  more : List Sort
  more_are : AreBlocks more
  after : List Sort
  after_is : IsModule after
  whole : sorts ≡ more ++ Close ∷ after

-- in a block, from an instruction on that is no phi
record AfterInst (first : Bool) (sorts : List Sort) : Type 0 where
  insts : List Sort
  are_insts : Each (MayFollow first) insts
  tail : List Sort
  rest : AfterBlock tail
  whole : sorts ≡ insts ++ Term ∷ tail

-- in a block, from a phi on
record AfterPhi (first : Bool) (sorts : List Sort) : Type 0 where
  phis : List Sort
  are_phis : Each (λ sort. sort ≡ Phi) phis
  tail : List Sort
  rest : AfterInst first tail
  whole : sorts ≡ phis ++ tail

-- behind a define line
record AfterDefine (sorts : List Sort) : Type 0 where
  label : List Sort
  may_lack : (label ≡ []) ⊎ (label ≡ Label ∷ [])
  tail : List Sort
  rest : AfterPhi true tail
  whole : sorts ≡ label ++ tail

abbrev Remains : Place → List Sort → Type 0
Remains Outside sorts = IsModule sorts
Remains Begun sorts = AfterDefine sorts
Remains (Front first) sorts = AfterPhi first sorts
Remains (Inner first) sorts = AfterInst first sorts
Remains Ended sorts = AfterBlock sorts

in_front : (sort : Sort) (a b : List Sort) → a ≡ b → sort ∷ a ≡ sort ∷ b
in_front sort a b e = ap (λ (s : List Sort). sort ∷ s) e

phi_more : (first : Bool) (sorts : List Sort) → AfterPhi first sorts → AfterPhi first (Phi ∷ sorts)
phi_more first sorts r =
    record { phis = Phi ∷ r.phis; are_phis = (refl, r.are_phis); tail = r.tail; rest = r.rest; whole = in_front Phi sorts (r.phis ++ r.tail) r.whole }

no_phi : (first : Bool) (sorts : List Sort) → AfterInst first sorts → AfterPhi first sorts
no_phi first sorts r = record { phis = []; are_phis = tt; tail = sorts; rest = r; whole = refl }

inst_more : (first : Bool) (sort : Sort) (sorts : List Sort) → MayFollow first sort → AfterInst first sorts → AfterInst first (sort ∷ sorts)
inst_more first sort sorts may r =
    record { insts = sort ∷ r.insts; are_insts = (may, r.are_insts); tail = r.tail; rest = r.rest; whole = in_front sort sorts (r.insts ++ Term ∷ r.tail) r.whole }

term_more : (first : Bool) (sorts : List Sort) → AfterBlock sorts → AfterInst first (Term ∷ sorts)
term_more first sorts r = record { insts = []; are_insts = tt; tail = sorts; rest = r; whole = refl }

no_label : (sorts : List Sort) → AfterPhi true sorts → AfterDefine sorts
no_label sorts r = record { label = []; may_lack = inl refl; tail = sorts; rest = r; whole = refl }

-- the lines of a block
abbrev block_sorts : List Sort → List Sort → List Sort
block_sorts phis insts = phis ++ insts ++ Term ∷ []

-- a block, and what comes behind it
block_whole : (first : Bool) (sorts : List Sort) (r : AfterPhi first sorts)
    → sorts ≡ block_sorts r.phis r.rest.insts ++ (r.rest.rest.more ++ Close ∷ r.rest.rest.after)
block_whole first sorts r =
    r.whole ∙ ap (λ (s : List Sort). r.phis ++ s) (r.rest.whole ∙ ap (λ (s : List Sort). r.rest.insts ++ Term ∷ s) r.rest.rest.whole)
    ∙ closed r.phis r.rest.insts (r.rest.rest.more ++ Close ∷ r.rest.rest.after)
  where
    closed : (a b c : List Sort) → a ++ (b ++ Term ∷ c) ≡ block_sorts a b ++ c
    closed a b c = simp append_assoc

block_of : (first : Bool) (sorts : List Sort) (r : AfterPhi first sorts) → IsBlock first (block_sorts r.phis r.rest.insts)
block_of first sorts r = record { phis = r.phis; insts = r.rest.insts; are_phis = r.are_phis; are_insts = r.rest.are_insts; whole = refl }

label_more : (sorts : List Sort) → AfterPhi false sorts → AfterBlock (Label ∷ sorts)
label_more sorts r =
    let block = block_sorts r.phis r.rest.insts in
    let more = r.rest.rest.more in
    record {
      more = (Label ∷ block) ++ more;
      more_are = record {
        blocks = block ∷ r.rest.rest.more_are.blocks;
        each = (block_of false sorts r, r.rest.rest.more_are.each);
        whole = ap (λ (s : List Sort). (Label ∷ block) ++ s) r.rest.rest.more_are.whole;
      };
      after = r.rest.rest.after;
      after_is = r.rest.rest.after_is;
      whole = in_front Label sorts (block ++ (more ++ Close ∷ r.rest.rest.after)) (block_whole false sorts r) ∙ sym (append_assoc (Label ∷ block) more (Close ∷ r.rest.rest.after));
    }

define_more : (sorts : List Sort) → AfterDefine sorts → IsModule (Define ∷ sorts)
define_more sorts r =
    let first = block_sorts r.rest.phis r.rest.rest.insts in
    let more = r.rest.rest.rest.more in
    let after = r.rest.rest.rest.after in
    record {
      parts = (Define ∷ r.label ++ first ++ more ++ Close ∷ []) ∷ r.rest.rest.rest.after_is.parts;
      each = (
        inr (record {
          label = r.label;
          first = first;
          more = more;
          may_lack = r.may_lack;
          first_is = block_of true r.tail r.rest;
          more_are = r.rest.rest.rest.more_are;
          whole = refl;
        }),
        r.rest.rest.rest.after_is.each,
      );
      whole = in_front Define sorts (r.label ++ (first ++ (more ++ Close ∷ after))) (r.whole ∙ ap (λ (s : List Sort). r.label ++ s) (block_whole true r.tail r.rest))
          ∙ closed r.label first more after
          ∙ ap (λ (s : List Sort). (Define ∷ r.label ++ first ++ more ++ Close ∷ []) ++ s) r.rest.rest.rest.after_is.whole;
    }
  where
    closed : (a b c d : List Sort) → Define ∷ (a ++ (b ++ (c ++ Close ∷ d))) ≡ (Define ∷ a ++ b ++ c ++ Close ∷ []) ++ d
    closed a b c d = simp append_assoc

item_more : (sorts : List Sort) → IsModule sorts → IsModule (Item ∷ sorts)
item_more sorts r = record { parts = (Item ∷ []) ∷ r.parts; each = (inl refl, r.each); whole = in_front Item sorts (flat_map (λ part. part) r.parts) r.whole }

close_more : (sorts : List Sort) → IsModule sorts → AfterBlock (Close ∷ sorts)
close_more sorts r = record { more = []; more_are = record { blocks = []; each = tt; whole = refl }; after = sorts; after_is = r; whole = refl }

-- what remains at the one place that a line leads to
at_next : (place next : Place) (sorts : List Sort) → Some place ≡ Some next → Remains next sorts → Remains place sorts
at_next place next sorts e r = let same : next ≡ place = cc in subst (λ (p : Place). Remains p sorts) same r

step : (at : Place) (sort : Sort) (next : Place) (sorts : List Sort) → is_blank sort ≡ false → next_place at sort ≡ Some next → Remains next sorts → Remains at (sort ∷ sorts)
step at Blank next sorts some e r = absurd (cc)
step Outside Item next sorts some e r = item_more sorts (at_next Outside next sorts e r)
step Outside Define next sorts some e r = define_more sorts (at_next Begun next sorts e r)
step Outside sort next sorts some e r = absurd (cc)
step Begun Label next sorts some e r = record { label = Label ∷ []; may_lack = inr refl; tail = sorts; rest = at_next (Front true) next sorts e r; whole = refl }
step Begun Phi next sorts some e r = no_label (Phi ∷ sorts) (phi_more true sorts (at_next (Front true) next sorts e r))
step Begun Alloca next sorts some e r = no_label (Alloca ∷ sorts) (no_phi true (Alloca ∷ sorts) (inst_more true Alloca sorts (inr (refl, refl)) (at_next (Inner true) next sorts e r)))
step Begun Other next sorts some e r = no_label (Other ∷ sorts) (no_phi true (Other ∷ sorts) (inst_more true Other sorts (inl refl) (at_next (Inner true) next sorts e r)))
step Begun Term next sorts some e r = no_label (Term ∷ sorts) (no_phi true (Term ∷ sorts) (term_more true sorts (at_next Ended next sorts e r)))
step Begun sort next sorts some e r = absurd (cc)
step (Front first) Phi next sorts some e r = phi_more first sorts (at_next (Front first) next sorts e r)
step (Front true) Alloca next sorts some e r = no_phi true (Alloca ∷ sorts) (inst_more true Alloca sorts (inr (refl, refl)) (at_next (Inner true) next sorts e r))
step (Front false) Alloca next sorts some e r = absurd (cc)
step (Front first) Other next sorts some e r = no_phi first (Other ∷ sorts) (inst_more first Other sorts (inl refl) (at_next (Inner first) next sorts e r))
step (Front first) Term next sorts some e r = no_phi first (Term ∷ sorts) (term_more first sorts (at_next Ended next sorts e r))
step (Front first) sort next sorts some e r = absurd (cc)
step (Inner true) Alloca next sorts some e r = inst_more true Alloca sorts (inr (refl, refl)) (at_next (Inner true) next sorts e r)
step (Inner false) Alloca next sorts some e r = absurd (cc)
step (Inner first) Other next sorts some e r = inst_more first Other sorts (inl refl) (at_next (Inner first) next sorts e r)
step (Inner first) Term next sorts some e r = term_more first sorts (at_next Ended next sorts e r)
step (Inner first) sort next sorts some e r = absurd (cc)
step Ended Label next sorts some e r = label_more sorts (at_next (Front false) next sorts e r)
step Ended Close next sorts some e r = close_more sorts (at_next Outside next sorts e r)
step Ended sort next sorts some e r = absurd (cc)

nothing_remains : (at : Place) → is_outside at ≡ true → Remains at []
nothing_remains Outside e = record { parts = []; each = tt; whole = refl }
nothing_remains Begun e = absurd (cc)
nothing_remains (Front _) e = absurd (cc)
nothing_remains (Inner _) e = absurd (cc)
nothing_remains Ended e = absurd (cc)

remains : (at : Place) (sorts : List Sort) (end : Place) → Each (λ sort. is_blank sort ≡ false) sorts → is_outside end ≡ true → Walk at sorts end → Remains at sorts
remains at [] end some out h = nothing_remains at (ap is_outside h ∙ out)
remains at (s ∷ sorts) end some out h = step at s h.0 sorts some.0 h.1 (remains h.0 sorts end some.1 out h.2)

pub shape : (sorts : List Sort) → Each (λ sort. is_blank sort ≡ false) sorts → Walk Outside sorts Outside → IsModule sorts
shape sorts some h = remains Outside sorts Outside some refl h

-- the other way round

walk_on : (a b c : Place) (xs ys : List Sort) → Walk a xs b → Walk b ys c → Walk a (xs ++ ys) c
walk_on a b c [] ys h k = subst (λ (p : Place). Walk p ys c) (sym h) k
walk_on a b c (x ∷ xs) ys h k = (h.0, h.1, walk_on h.0 b c xs ys h.2 k)

walk_phis : (first : Bool) (phis : List Sort) → Each (λ sort. sort ≡ Phi) phis → Walk (Front first) phis (Front first)
walk_phis first [] h = refl
walk_phis first (s ∷ phis) h = (Front first, ap (next_place (Front first)) h.0, walk_phis first phis h.1)

alloca_first : (front first : Bool) → first ≡ true → (if first then Some (Inner first) else None) ≡ Some (Inner first)
alloca_first front true e = refl
alloca_first front false e = absurd (cc)

inst_at : (at : Place) (first : Bool) (sort : Sort) → next_place at Other ≡ Some (Inner first) → (first ≡ true → next_place at Alloca ≡ Some (Inner first)) → MayFollow first sort
    → next_place at sort ≡ Some (Inner first)
inst_at at first sort other alloca may =
    ⊎_elim (λ (e : sort ≡ Other). ap (next_place at) e ∙ other) (λ (e : (sort ≡ Alloca) × (first ≡ true)). ap (next_place at) e.0 ∙ alloca e.1) may

walk_insts : (first : Bool) (insts : List Sort) → Each (MayFollow first) insts → Walk (Inner first) (insts ++ Term ∷ []) Ended
walk_insts first [] h = (Ended, refl, refl)
walk_insts first (s ∷ insts) h = (Inner first, inst_at (Inner first) first s refl (alloca_first false first) h.0, walk_insts first insts h.1)

walk_from_front : (first : Bool) (insts : List Sort) → Each (MayFollow first) insts → Walk (Front first) (insts ++ Term ∷ []) Ended
walk_from_front first [] h = (Ended, refl, refl)
walk_from_front first (s ∷ insts) h = (Inner first, inst_at (Front first) first s refl (alloca_first true first) h.0, walk_insts first insts h.1)

walk_block : (first : Bool) (sorts : List Sort) → IsBlock first sorts → Walk (Front first) sorts Ended
walk_block first sorts b =
    subst (λ (s : List Sort). Walk (Front first) s Ended) (sym (b.whole ∙ append_assoc b.phis b.insts (Term ∷ [])))
    (walk_on (Front first) (Front first) Ended b.phis (b.insts ++ Term ∷ []) (walk_phis first b.phis b.are_phis) (walk_from_front first b.insts b.are_insts))

-- behind a define line a block begins as at its front
walk_unlabelled : (phis insts : List Sort) → Each (λ sort. sort ≡ Phi) phis → Each (MayFollow true) insts → Walk Begun (phis ++ (insts ++ Term ∷ [])) Ended
walk_unlabelled [] [] h k = (Ended, refl, refl)
walk_unlabelled [] (s ∷ insts) h k = (Inner true, inst_at Begun true s refl (λ _. refl) k.0, walk_insts true insts k.1)
walk_unlabelled (s ∷ phis) insts h k = (
  Front true,
  ap (next_place Begun) h.0,
  walk_on (Front true) (Front true) Ended phis (insts ++ Term ∷ []) (walk_phis true phis h.1) (walk_from_front true insts k),
)

walk_first : (label first : List Sort) → (label ≡ []) ⊎ (label ≡ Label ∷ []) → IsBlock true first → Walk Begun (label ++ first) Ended
walk_first label first may b =
    ⊎_elim
    (λ (e : label ≡ []). subst (λ (l : List Sort). Walk Begun (l ++ first) Ended) (sym e) (subst (λ (s : List Sort). Walk Begun s Ended) (sym (b.whole ∙ append_assoc b.phis b.insts (Term ∷ []))) (walk_unlabelled b.phis b.insts b.are_phis b.are_insts)))
    (λ (e : label ≡ Label ∷ []). subst (λ (l : List Sort). Walk Begun (l ++ first) Ended) (sym e) (labelled (walk_block true first b)))
    may
  where
    labelled : Walk (Front true) first Ended → Walk Begun (Label ∷ first) Ended
    labelled h = (Front true, refl, h)

walk_blocks : (blocks : List (List Sort)) → Each (IsBlock false) blocks → Walk Ended (flat_map (λ block. Label ∷ block) blocks) Ended
walk_blocks [] h = refl
walk_blocks (b ∷ blocks) h =
    walk_on Ended Ended Ended (Label ∷ b) (flat_map (λ block. Label ∷ block) blocks) (Front false, refl, walk_block false b h.0) (walk_blocks blocks h.1)

walk_function : (sorts : List Sort) → IsFunction sorts → Walk Outside sorts Outside
walk_function sorts f =
    let blocks = subst (λ (s : List Sort). Walk Ended s Ended) (sym f.more_are.whole) (walk_blocks f.more_are.blocks f.more_are.each) in
    let to_close = walk_on Begun Ended Ended (f.label ++ f.first) f.more (walk_first f.label f.first f.may_lack f.first_is) blocks in
    subst (λ (s : List Sort). Walk Outside s Outside) (sym f.whole)
    (Begun, refl, walk_on Begun Ended Outside (f.label ++ f.first ++ f.more) (Close ∷ []) to_close (Outside, refl, refl))

walk_parts : (parts : List (List Sort)) → Each (λ part. (part ≡ Item ∷ []) ⊎ IsFunction part) parts → Walk Outside (flat_map (λ part. part) parts) Outside
walk_parts [] h = refl
walk_parts (p ∷ parts) h =
    walk_on Outside Outside Outside p (flat_map (λ part. part) parts)
    (⊎_elim (λ (e : p ≡ Item ∷ []). subst (λ (s : List Sort). Walk Outside s Outside) (sym e) item) (λ (f : IsFunction p). walk_function p f) h.0)
    (walk_parts parts h.1)
  where
    item : Walk Outside (Item ∷ []) Outside
    item = (Outside, refl, refl)

pub walk : (sorts : List Sort) → IsModule sorts → Walk Outside sorts Outside
walk sorts m = subst (λ (s : List Sort). Walk Outside s Outside) (sym m.whole) (walk_parts m.parts m.each)

-- the place that a line leads to
pub counted_place : (at : Progress) (sort : Sort) (place : Place) → (counted at sort place).place ≡ place
counted_place at Blank place = refl
counted_place at Item place = refl
counted_place at Define place = refl
counted_place at Close place = refl
counted_place at Label place = refl
counted_place at Phi place = refl
counted_place at Alloca place = refl
counted_place at Other place = refl
counted_place at Term place = refl

pub place_behind : (at : Progress) (sort : Sort) (found : Option Place) (next : Progress) → option_map (counted at sort) found ≡ Some next → found ≡ Some next.place
place_behind at sort None next e = absurd (cc)
place_behind at sort (Some place) next e =
    let same : counted at sort place ≡ next = cc in
    ap Some (sym (counted_place at sort place) ∙ ap (λ (p : Progress). p.place) same)

walk_of : (at : Progress) (sorts : List Sort) (end : Progress) → Lead at sorts end → Walk at.place sorts end.place
walk_of at [] end h = ap (λ (p : Progress). p.place) h
walk_of at (s ∷ sorts) end h = (h.0.place, place_behind at s (next_place at.place s) h.0 h.1, walk_of h.0 sorts end h.3)

sorts_some : (draft : List (ℕ × Line)) → Each (λ (entry : ℕ × Line). IsSaid entry.1) draft → Each (λ sort. is_blank sort ≡ false) (sorts_of draft)
sorts_some [] h = tt
sorts_some (entry ∷ draft) h = (h.0.some, sorts_some draft h.1)

pub draft_shape : (bytes : List ℕ) (draft : List (ℕ × Line)) → IsDraft bytes draft → IsModule (sorts_of draft)
draft_shape bytes draft d =
    let placed = told_places bytes draft d in
    remains Outside (sorts_of draft) placed.end.place (sorts_some draft (told_lines bytes draft d)) placed.outside (walk_of outset (sorts_of draft) placed.end placed.lead)
