-- The lines that are printed may stand behind one another where the lines of the module may.
use Rattle.std.proofs.Common.{◌≡◌, ◌+◌, ℕ, Bool, true, false, List, [], ◌∷◌, ◌++◌, Option, Some, None, map, refl, sym, ap, subst, ◌∙◌, arith, append_assoc}
use Rattle.std.specs.Prelude.{is_some}
use Rattle.std.specs.List.{flat_map}
use Rattle.std.proofs.lemmas.List.{map-append}
use Rattle.ms_ir.specs.declared.names.Name.{Name}
use Rattle.ms_ir.specs.declared.names.Name.TheVariants.{Word, Number, Absent}
use Rattle.ms_grammar.specs.Kept.{Each}
use Rattle.ms_grammar.specs.declared.line.RawInst.{RawInst}
use Rattle.ms_grammar.specs.declared.line.RawInst.TheVariants.{Alloca, Gep, Step, Load, Store, Copy, Call, Bin, Cmp, Select, Cast, Phi}
use Rattle.ms_grammar.specs.declared.line.Line.{Line}
use Rattle.ms_grammar.specs.declared.line.Line.TheVariants as said
use Rattle.ms_line.specs.Sorts.{sort_of, sort_of_inst}
use Rattle.ms_line.specs.declared.sort.Sort.{Sort}
use Rattle.ms_line.specs.declared.sort.Sort.TheVariants as sort
use Rattle.ms_read.specs.declared.place.Place.{Place}
use Rattle.ms_read.specs.declared.place.Place.TheVariants.{Outside, Begun, Front, Inner, Ended}
use Rattle.ms_read.specs.declared.place.Progress.{Progress}
use Rattle.ms_read.specs.Places.{behind, AreFew, Lead, outset}
use Rattle.ms_resolve.specs.Shape.{LabelLine, InstLine, BlockLines, FuncLines, ItemLines, plain, body, label_lines, inst_line, block_lines, func_lines, item_lines, HasLabel, HasBlocks, IsItem}
use Rattle.ms_print.specs.Numbering.{free_after}
use Rattle.ms_again.proofs.Renaming.{Renaming, renamed_inst, renamed_term}
use Rattle.ms_again.proofs.Names.{shown, label_name, inst_free, block_free}
use Rattle.ms_again.proofs.Again.{renaming, insts_said, first_said, label_said, block_said, blocks_said, start, func_said, gap_said, items_said}

-- lines in two
lead_join : (at mid end : Progress) (xs ys : List Sort) → Lead at xs mid → Lead mid ys end → Lead at (xs ++ ys) end
lead_join at mid end [] ys h k = subst (λ p. Lead p ys end) (sym h) k
lead_join at mid end (x ∷ xs) ys h k = (h.0, h.1, h.2, lead_join h.0 mid end xs ys h.3 k)

record Cut (at : Progress) (xs ys : List Sort) (end : Progress) : Type 0 where
  pub mid : Progress
  pub one : Lead at xs mid
  pub two : Lead mid ys end

lead_cut : (at end : Progress) (xs ys : List Sort) → Lead at (xs ++ ys) end → Cut at xs ys end
lead_cut at end [] ys h = record { mid = at; one = refl; two = h }
lead_cut at end (x ∷ xs) ys h =
    let cut = lead_cut h.0 end xs ys h.3 in
    record { mid = cut.mid; one = (h.0, h.1, h.2, cut.one); two = cut.two }

pub lead_few : (at end : Progress) (xs : List Sort) → AreFew at → Lead at xs end → AreFew end
lead_few at end [] few h = subst (λ p. AreFew p) h few
lead_few at end (x ∷ xs) few h = lead_few h.0 end xs h.2 h.3

-- an empty line may stand anywhere, and changes nothing
pub blank_stays : (at : Progress) → behind at sort.Blank ≡ Some at
blank_stays at = by at.place at.functions at.blocks at.insts
  where
    by : (p : Place) (f b i : ℕ) → behind (record { place = p; functions = f; blocks = b; insts = i }) sort.Blank ≡ Some (record { place = p; functions = f; blocks = b; insts = i })
    by Outside f b i = refl
    by Begun f b i = refl
    by (Front c) f b i = refl
    by (Inner c) f b i = refl
    by Ended f b i = refl

blank_lead : (at end : Progress) (xs : List Sort) → AreFew at → Lead at xs end → Lead at (sort.Blank ∷ xs) end
blank_lead at end xs few h = (at, blank_stays at, few, h)

-- a define line leads into a function
define_place : (at next : Progress) → behind at sort.Define ≡ Some next → next.place ≡ Begun
define_place at next e = by at.place at.functions at.blocks at.insts e
  where
    by : (p : Place) (f b i : ℕ) → behind (record { place = p; functions = f; blocks = b; insts = i }) sort.Define ≡ Some next → next.place ≡ Begun
    by Outside f b i e = let same : record { place = Begun; functions = f + 1; blocks = 0; insts = 0 } ≡ next = cc in sym (ap (λ (q : Progress). q.place) same)
    by Begun f b i e = absurd (cc)
    by (Front c) f b i e = absurd (cc)
    by (Inner c) f b i e = absurd (cc)
    by Ended f b i e = absurd (cc)

-- the label line of a first block may be left out
abbrev pub IsStart : Sort → Type 0
IsStart sort.Phi = Unit {0}
IsStart sort.Alloca = Unit {0}
IsStart sort.Other = Unit {0}
IsStart sort.Term = Unit {0}
IsStart sort.Blank = ⊥
IsStart sort.Item = ⊥
IsStart sort.Define = ⊥
IsStart sort.Close = ⊥
IsStart sort.Label = ⊥

skip_label : (f b i : ℕ) (s : Sort) → IsStart s →
    behind (record { place = Front true; functions = f; blocks = b + 1; insts = i }) s ≡ behind (record { place = Begun; functions = f; blocks = b; insts = i }) s
skip_label f b i sort.Phi h = refl
skip_label f b i sort.Alloca h = refl
skip_label f b i sort.Other h = refl
skip_label f b i sort.Term h = refl
skip_label f b i sort.Blank h = absurd h
skip_label f b i sort.Item h = absurd h
skip_label f b i sort.Define h = absurd h
skip_label f b i sort.Close h = absurd h
skip_label f b i sort.Label h = absurd h

some_next : (a b : Progress) → Some a ≡ Some b → a ≡ b
some_next a b e = cc

without_label : (at end : Progress) (s : Sort) (rest : List Sort) → at.place ≡ Begun → IsStart s → Lead at (sort.Label ∷ s ∷ rest) end → Lead at (s ∷ rest) end
without_label at end s rest begun start h = by at.place at.functions at.blocks at.insts begun h
  where
    by : (p : Place) (f b i : ℕ) → p ≡ Begun → Lead (record { place = p; functions = f; blocks = b; insts = i }) (sort.Label ∷ s ∷ rest) end → Lead (record { place = p; functions = f; blocks = b; insts = i }) (s ∷ rest) end
    by Outside f b i e h = absurd (cc)
    by (Front c) f b i e h = absurd (cc)
    by (Inner c) f b i e h = absurd (cc)
    by Ended f b i e h = absurd (cc)
    by Begun f b i e h =
        let next : record { place = Front true; functions = f; blocks = b + 1; insts = i } ≡ h.0 = some_next (record { place = Front true; functions = f; blocks = b + 1; insts = i }) h.0 h.1 in
        let first : behind h.0 s ≡ Some h.3.0 = h.3.1 in
        let skip : behind (record { place = Begun; functions = f; blocks = b; insts = i }) s ≡ Some h.3.0 = sym (skip_label f b i s start) ∙ ap (λ q. behind q s) next ∙ first in
        (h.3.0, skip, h.3.2, h.3.3)

-- the sorts of lines
pub inst_sort : (r : Renaming) (i : RawInst) → sort_of_inst (renamed_inst r i) ≡ sort_of_inst i
inst_sort r (Alloca size head rest) = refl
inst_sort r (Gep base offset head index rest) = refl
inst_sort r (Step base offset terms head index rest) = refl
inst_sort r (Load ty ptr rest) = refl
inst_sort r (Store ty val ptr rest) = refl
inst_sort r (Copy to from len head behind rest) = refl
inst_sort r (Call callee ret args head behind rest) = refl
inst_sort r (Bin op flags ty a b rest) = refl
inst_sort r (Cmp pred flags ty a b rest) = refl
inst_sort r (Select cond ty a b rest) = refl
inst_sort r (Cast op flags from a to rest) = refl
inst_sort r (Phi ty entries rest) = refl

pub inst_starts : (i : RawInst) → IsStart (sort_of_inst i)
inst_starts (Alloca size head rest) = tt
inst_starts (Gep base offset head index rest) = tt
inst_starts (Step base offset terms head index rest) = tt
inst_starts (Load ty ptr rest) = tt
inst_starts (Store ty val ptr rest) = tt
inst_starts (Copy to from len head behind rest) = tt
inst_starts (Call callee ret args head behind rest) = tt
inst_starts (Bin op flags ty a b rest) = tt
inst_starts (Cmp pred flags ty a b rest) = tt
inst_starts (Select cond ty a b rest) = tt
inst_starts (Cast op flags from a to rest) = tt
inst_starts (Phi ty entries rest) = tt

abbrev pub sort_at : ℕ × Line → Sort
sort_at e = sort_of e.1

abbrev inst_sorts : List InstLine → List Sort
inst_sorts [] = []
inst_sorts (x ∷ xs) = sort_of_inst x.inst ∷ inst_sorts xs

-- behind its label line
abbrev body_sorts : BlockLines → List Sort
body_sorts b = inst_sorts b.insts ++ sort.Term ∷ []

abbrev label_sorts : Option LabelLine → List Sort
label_sorts None = []
label_sorts (Some l) = sort.Label ∷ []

abbrev blocks_sorts : List BlockLines → List Sort
blocks_sorts [] = []
blocks_sorts (b ∷ bs) = (label_sorts b.label ++ body_sorts b) ++ blocks_sorts bs

insts_were : (xs : List InstLine) → map sort_at (map inst_line xs) ≡ inst_sorts xs
insts_were [] = refl
insts_were (x ∷ xs) = ap (λ (l : List Sort). sort_of_inst x.inst ∷ l) (insts_were xs)

insts_are : (r : Renaming) (next : ℕ) (xs : List InstLine) → map sort_of (insts_said r next xs) ≡ inst_sorts xs
insts_are r next [] = refl
insts_are r next (x ∷ xs) =
    ap (λ (s : Sort). s ∷ map sort_of (insts_said r (inst_free shown next x) xs)) (inst_sort r x.inst) ∙ ap (λ (l : List Sort). sort_of_inst x.inst ∷ l) (insts_are r (inst_free shown next x) xs)

label_were : (l : Option LabelLine) → map sort_at (label_lines l) ≡ label_sorts l
label_were None = refl
label_were (Some l) = refl

block_were : (b : BlockLines) → map sort_at (block_lines b) ≡ label_sorts b.label ++ body_sorts b
block_were b =
    let end : List (ℕ × Line) = (b.end.line, said.Term b.end.term) ∷ [] in
    map-append sort_at (label_lines b.label ++ map inst_line b.insts) end
    ∙ ap (λ (l : List Sort). l ++ sort.Term ∷ []) (map-append sort_at (label_lines b.label) (map inst_line b.insts))
    ∙ ap (λ (l : List Sort). (l ++ map sort_at (map inst_line b.insts)) ++ sort.Term ∷ []) (label_were b.label)
    ∙ ap (λ (l : List Sort). (label_sorts b.label ++ l) ++ sort.Term ∷ []) (insts_were b.insts)
    ∙ append_assoc (label_sorts b.label) (inst_sorts b.insts) (sort.Term ∷ [])

blocks_were : (bs : List BlockLines) → map sort_at (flat_map block_lines bs) ≡ blocks_sorts bs
blocks_were [] = refl
blocks_were (b ∷ bs) =
    map-append sort_at (block_lines b) (flat_map block_lines bs)
    ∙ ap (λ (l : List Sort). l ++ map sort_at (flat_map block_lines bs)) (block_were b)
    ∙ ap (λ (l : List Sort). (label_sorts b.label ++ body_sorts b) ++ l) (blocks_were bs)

func_were : (f : FuncLines) → map sort_at (func_lines f) ≡ sort.Define ∷ (blocks_sorts f.blocks ++ sort.Close ∷ [])
func_were f =
    let close : List (ℕ × Line) = (f.close, said.Close) ∷ [] in
    ap (λ (l : List Sort). sort.Define ∷ l) (map-append sort_at (flat_map block_lines f.blocks) close ∙ ap (λ (l : List Sort). l ++ sort.Close ∷ []) (blocks_were f.blocks))

block_are : (r : Renaming) (first : Bool) (next : ℕ) (b : BlockLines) → map sort_of (block_said r first next b) ≡ map sort_of (label_said first next (label_name b.label)) ++ body_sorts b
block_are r first next b =
    let labels = label_said first next (label_name b.label) in
    let insts = insts_said r (free_after next (label_name b.label)) b.insts in
    let end : List Line = said.Term (renamed_term r b.end.term) ∷ [] in
    map-append sort_of (labels ++ insts) end
    ∙ ap (λ (l : List Sort). l ++ sort.Term ∷ []) (map-append sort_of labels insts)
    ∙ ap (λ (l : List Sort). (map sort_of labels ++ l) ++ sort.Term ∷ []) (insts_are r (free_after next (label_name b.label)) b.insts)
    ∙ append_assoc (map sort_of labels) (inst_sorts b.insts) (sort.Term ∷ [])

-- blocks
along_sorts : (at end : Progress) (xs ys : List Sort) → xs ≡ ys → Lead at xs end → Lead at ys end
along_sorts at end xs ys e h = subst (λ (l : List Sort). Lead at l end) e h

later_label : (at end : Progress) (next : ℕ) (l : Option LabelLine) (rest : List Sort) → is_some l ≡ true → AreFew at → Lead at (label_sorts l ++ rest) end →
    Lead at (map sort_of (label_said false next (label_name l)) ++ rest) end
later_label at end next None rest some few h = absurd (cc)
later_label at end next (Some l) rest some few h = blank_lead at end (sort.Label ∷ rest) few h

later_lead : (r : Renaming) (at end : Progress) (next : ℕ) (bs : List BlockLines) → Each HasLabel bs → AreFew at → Lead at (blocks_sorts bs) end → Lead at (map sort_of (blocks_said r false next bs)) end
later_lead r at end next [] has few h = h
later_lead r at end next (b ∷ bs) has few h =
    let cut = lead_cut at end (label_sorts b.label ++ body_sorts b) (blocks_sorts bs) h in
    let here = later_label at cut.mid next b.label (body_sorts b) has.0 few cut.one in
    let one = along_sorts at cut.mid _ _ (sym (block_are r false next b)) here in
    let two = later_lead r cut.mid end (block_free shown next b) bs has.1 (lead_few at cut.mid (label_sorts b.label ++ body_sorts b) few cut.one) cut.two in
    along_sorts at end _ _ (sym (map-append sort_of (block_said r false next b) (blocks_said r false (block_free shown next b) bs)))
    (lead_join at cut.mid end (map sort_of (block_said r false next b)) (map sort_of (blocks_said r false (block_free shown next b) bs)) one two)

drop_label : (at end : Progress) (xs : List InstLine) → at.place ≡ Begun → Lead at (sort.Label ∷ (inst_sorts xs ++ sort.Term ∷ [])) end → Lead at (inst_sorts xs ++ sort.Term ∷ []) end
drop_label at end [] begun h = without_label at end sort.Term [] begun tt h
drop_label at end (x ∷ xs) begun h = without_label at end (sort_of_inst x.inst) (inst_sorts xs ++ sort.Term ∷ []) begun (inst_starts x.inst) h

first_by : (at end : Progress) (n : Name) (xs : List InstLine) → at.place ≡ Begun → Lead at (sort.Label ∷ (inst_sorts xs ++ sort.Term ∷ [])) end → Lead at (map sort_of (first_said n) ++ (inst_sorts xs ++ sort.Term ∷ [])) end
first_by at end (Word text) xs begun h = h
first_by at end (Number k) xs begun h = drop_label at end xs begun h
first_by at end Absent xs begun h = drop_label at end xs begun h

first_label : (at end : Progress) (next : ℕ) (l : Option LabelLine) (xs : List InstLine) → at.place ≡ Begun → Lead at (label_sorts l ++ (inst_sorts xs ++ sort.Term ∷ [])) end →
    Lead at (map sort_of (label_said true next (label_name l)) ++ (inst_sorts xs ++ sort.Term ∷ [])) end
first_label at end next None xs begun h = h
first_label at end next (Some l) xs begun h = first_by at end l.name xs begun h

blocks_lead : (r : Renaming) (at end : Progress) (next : ℕ) (bs : List BlockLines) → HasBlocks bs → at.place ≡ Begun → AreFew at → Lead at (blocks_sorts bs) end → Lead at (map sort_of (blocks_said r true next bs)) end
blocks_lead r at end next [] has begun few h = absurd has
blocks_lead r at end next (b ∷ bs) has begun few h =
    let cut = lead_cut at end (label_sorts b.label ++ body_sorts b) (blocks_sorts bs) h in
    let here = first_label at cut.mid next b.label b.insts begun cut.one in
    let one = along_sorts at cut.mid _ _ (sym (block_are r true next b)) here in
    let two = later_lead r cut.mid end (block_free shown next b) bs has (lead_few at cut.mid (label_sorts b.label ++ body_sorts b) few cut.one) cut.two in
    along_sorts at end _ _ (sym (map-append sort_of (block_said r true next b) (blocks_said r false (block_free shown next b) bs)))
    (lead_join at cut.mid end (map sort_of (block_said r true next b)) (map sort_of (blocks_said r false (block_free shown next b) bs)) one two)

-- a function
func_lead : (at end : Progress) (f : FuncLines) → HasBlocks f.blocks → AreFew at → Lead at (map sort_at (func_lines f)) end → Lead at (map sort_of (func_said f)) end
func_lead at end f has few h =
    let all = along_sorts at end _ _ (func_were f) h in
    let begun = define_place at all.0 all.1 in
    let cut = lead_cut all.0 end (blocks_sorts f.blocks) (sort.Close ∷ []) all.3 in
    let blocks = blocks_said (renaming f) true (start f) f.blocks in
    let close : List Line = said.Close ∷ [] in
    let one = blocks_lead (renaming f) all.0 cut.mid (start f) f.blocks has begun all.2 cut.one in
    (all.0, all.1, all.2, along_sorts all.0 end _ _ (sym (map-append sort_of blocks close)) (lead_join all.0 cut.mid end (map sort_of blocks) (sort.Close ∷ []) one cut.two))

-- items
gap_lead : (at end : Progress) (before : Option Bool) (after : Bool) (xs : List Sort) → AreFew at → Lead at xs end → Lead at (map sort_of (gap_said before after) ++ xs) end
gap_lead at end None after xs few h = h
gap_lead at end (Some true) after xs few h = blank_lead at end xs few h
gap_lead at end (Some false) true xs few h = blank_lead at end xs few h
gap_lead at end (Some false) false xs few h = h

items_lead : (at end : Progress) (before : Option Bool) (items : List ItemLines) → Each IsItem items → AreFew at → Lead at (map sort_at (flat_map item_lines items)) end →
    Lead at (map sort_of (items_said before items)) end
items_lead at end before [] each few h = h
items_lead at end before (plain n line ∷ rest) each few h =
    let more = items_lead h.0 end (Some false) rest each.1 h.2 h.3 in
    along_sorts at end _ _ (sym (map-append sort_of (gap_said before false) (line ∷ items_said (Some false) rest)))
    (gap_lead at end before false (map sort_of (line ∷ items_said (Some false) rest)) few (h.0, h.1, h.2, more))
items_lead at end before (body f ∷ rest) each few h =
    let whole = along_sorts at end _ _ (map-append sort_at (func_lines f) (flat_map item_lines rest)) h in
    let cut = lead_cut at end (map sort_at (func_lines f)) (map sort_at (flat_map item_lines rest)) whole in
    let one = func_lead at cut.mid f each.0 few cut.one in
    let two = items_lead cut.mid end (Some true) rest each.1 (lead_few at cut.mid (map sort_at (func_lines f)) few cut.one) cut.two in
    let both = along_sorts at end _ _ (sym (map-append sort_of (func_said f) (items_said (Some true) rest)))
    (lead_join at cut.mid end (map sort_of (func_said f)) (map sort_of (items_said (Some true) rest)) one two) in
    along_sorts at end _ _ (sym (map-append sort_of (gap_said before true) (func_said f ++ items_said (Some true) rest)))
    (gap_lead at end before true (map sort_of (func_said f ++ items_said (Some true) rest)) few both)

pub module_lead : (end : Progress) (items : List ItemLines) → Each IsItem items → Lead outset (map sort_at (flat_map item_lines items)) end → Lead outset (map sort_of (items_said None items)) end
module_lead end items each h = items_lead outset end None items each (omega arith, omega arith, omega arith) h
