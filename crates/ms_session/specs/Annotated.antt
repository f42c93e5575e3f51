-- The text of a function with its MemorySSA: each Def and phi names the last accesses before it on every path, each use its clobber.
-- The forms of the annotations are those of LLVM's MemorySSA document.
use Rattle.std.specs.Prelude.{◌≡◌, ◌<◌, ◌⊎◌, ◌↔◌, ◌+◌, IsTrue, ℕ, suc, Bool, true, false, if◌then◌else◌, List, [], ◌∷◌, ◌++◌, length, nat_eq, codes, decimal, Some, slice_get, slice_index_or}
use Rattle.ms_paths.specs.Flow.{Event, Of, Phi, Entry, IsReached}
use Rattle.ms_ir.specs.declared.names.Name.{Name}
use Rattle.ms_ir.specs.declared.names.Name.TheVariants.{Word, Number, Absent}
use Rattle.ms_ir.specs.declared.inst.Kind.{Kind}
use Rattle.ms_ir.specs.declared.inst.Kind.TheVariants.{Def, Reads, Neither}
use Rattle.ms_ir.specs.Inst.{kind_of_inst}
use Rattle.ms_ir.specs.Func.{Placed, Block, FuncState, insts_at}
use Rattle.ms_ir.specs.Graph.{graph_of, successors, is_def}
use Rattle.ms_ir.specs.Lasts.{IsLasts}
use Rattle.ms_ir.specs.Symbols.{NamesState}
use Rattle.ms_alias.specs.declared.loc.Loc.{Loc}
use Rattle.ms_alias.specs.Reaches.{IsLocRead}
use Rattle.ms_walk.specs.Clobber.{IsClobberAt}
use Rattle.ms_print.specs.declared.notes.Notes.{Notes}
use Rattle.ms_print.specs.Numbering.{labels_of}
use Rattle.ms_print.specs.Text.{note_at, func_text}

abbrev pub def_events : List Placed → List Event
def_events [] = []
def_events (x ∷ xs) = if is_def (kind_of_inst x.inst) then Of x.number ∷ def_events xs else def_events xs

-- the accesses that have numbers, in the order of the text: of each reached block its phi, then its Defs
abbrev pub numbered_from : (ℕ → Bool) → (ℕ → Bool) → ℕ → List Block → List Event
numbered_from reached phis b [] = []
numbered_from reached phis b (x ∷ xs) =
    (if reached b then (if phis b then Phi b ∷ [] else []) ++ def_events x.insts else []) ++ numbered_from reached phis (suc b) xs

abbrev pub same_event : Event → Event → Bool
same_event (Of i) (Of j) = nat_eq i j
same_event (Phi a) (Phi b) = nat_eq a b
same_event Entry Entry = true
same_event _ _ = false

-- the place of an access in the list, counted from 1
abbrev pub number_in : List Event → Event → ℕ
number_in [] e = 1
number_in (a ∷ all) e = if same_event a e then 1 else suc (number_in all e)

abbrev pub access_text : List Event → Event → List ℕ
access_text all Entry = codes "liveOnEntry"
access_text all (Of i) = decimal (number_in all (Of i))
access_text all (Phi b) = decimal (number_in all (Phi b))

-- the annotation of an instruction that names this access
abbrev pub note_of : List Event → Event → ℕ → Kind → List ℕ
note_of all before i Def = codes "; " ++ access_text all (Of i) ++ codes " = MemoryDef(" ++ access_text all before ++ codes ")\n"
note_of all before i Reads = codes "; MemoryUse(" ++ access_text all before ++ codes ")\n"
note_of all before i Neither = []

-- the instruction reads no location: it loads from a number
abbrev pub ReadsNone : FuncState → Placed → Type 0
ReadsNone f x = (loc : Loc) → IsLocRead f (record { 0 = x.number }) x.inst loc → ⊥

-- the access that a use at place k of block b names: the clobber of what it reads, the entry if it reads no location
abbrev pub IsUse : FuncState → ℕ → ℕ → Placed → Event → Type 0
IsUse f b k x e = ((loc : Loc) × IsLocRead f (record { 0 = x.number }) x.inst loc × IsClobberAt f b k loc e) ⊎ (ReadsNone f x × (e ≡ Entry))

-- the line before an instruction of a reached block: a Def names the last access before it, a use the clobber of what it reads
abbrev pub IsInstLine : FuncState → (ℕ → ℕ → Event) → List Event → ℕ → ℕ → Placed → Kind → List ℕ → Type 0
IsInstLine f last all b k x Def line = line ≡ note_of all (last b k) x.number Def
IsInstLine f last all b k x Reads line = (e : Event) × IsUse f b k x e × (line ≡ note_of all e x.number Reads)
IsInstLine f last all b k x Neither line = line ≡ []

-- a block in an entry: its word, or a percent sign and its number
abbrev pub block_in_entry : Name → List ℕ
block_in_entry (Word text) = text
block_in_entry (Number n) = 37 ∷ decimal n
block_in_entry Absent = []

-- an entry of a phi for each slot that leads to its block
abbrev pub entries_by_slot : ℕ → List ℕ → List ℕ → List (List ℕ)
entries_by_slot b [] entry = []
entries_by_slot b (next ∷ slots) entry = if nat_eq next b then entry ∷ entries_by_slot b slots entry else entries_by_slot b slots entry

-- the entries of a phi, in the order of the blocks from which they come
abbrev pub entries_from : List Name → (ℕ → Bool) → (ℕ → ℕ → Event) → List Event → ℕ → ℕ → List Block → List (List ℕ)
entries_from labels reached last all b a [] = []
entries_from labels reached last all b a (x ∷ xs) =
    (if reached a then entries_by_slot b (successors x.term)
    (codes "{" ++ block_in_entry (slice_index_or labels a Absent) ++ codes "," ++ access_text all (last a (length x.insts)) ++ codes "}") else [])
    ++ entries_from labels reached last all b (suc a) xs

abbrev pub behind_commas : List (List ℕ) → List ℕ
behind_commas [] = []
behind_commas (x ∷ xs) = codes "," ++ x ++ behind_commas xs

-- list members, separated by commas
abbrev pub with_commas : List (List ℕ) → List ℕ
with_commas [] = []
with_commas (x ∷ xs) = x ++ behind_commas xs

abbrev pub phi_note : FuncState → (ℕ → Bool) → (ℕ → Bool) → (ℕ → ℕ → Event) → List Event → ℕ → List ℕ
phi_note f reached phis last all b =
    if reached b then
    (if phis b then codes "; " ++ access_text all (Phi b) ++ codes " = MemoryPhi(" ++ with_commas (entries_from (labels_of f) reached last all b 0 f.blocks) ++ codes ")\n" else [])
    else []

-- This text is the function's annotated text: a Def names the last access before it, a phi the last ones at the ends of the
-- blocks before, a use the clobber of what it reads.
pub record IsAnnotated (names : NamesState) (f : FuncState) (text : List ℕ) : Type 0 where
  pub reached : ℕ → Bool
  pub phis : ℕ → Bool
  pub last : ℕ → ℕ → Event
  pub lasts : IsLasts f.blocks reached phis last
  pub notes : Notes
  pub at_blocks : (b : ℕ) → b < length f.blocks → note_at notes.phis b ≡ phi_note f reached phis last (numbered_from reached phis 0 f.blocks) b
  pub at_insts : (b k : ℕ) (x : Placed) → reached b ≡ true → slice_get (insts_at f.blocks b) k ≡ Some x
      → IsInstLine f last (numbered_from reached phis 0 f.blocks) b k x (kind_of_inst x.inst) (note_at notes.insts x.number)
  pub elsewhere : (b k : ℕ) (x : Placed) → reached b ≡ false → slice_get (insts_at f.blocks b) k ≡ Some x → note_at notes.insts x.number ≡ []
  pub text_is : text ≡ func_text names f notes

abbrev pub is_use : Kind → Bool
is_use Reads = true
is_use Def = false
is_use Neither = false

-- how many instructions are uses
abbrev pub uses_in : List Placed → ℕ
uses_in [] = 0
uses_in (x ∷ xs) = (if is_use (kind_of_inst x.inst) then 1 else 0) + uses_in xs

-- how many instructions of reached blocks are uses; the first block has number b
abbrev pub uses_from : (ℕ → Bool) → ℕ → List Block → ℕ
uses_from reached b [] = 0
uses_from reached b (x ∷ xs) = (if reached b then uses_in x.insts else 0) + uses_from reached (suc b) xs

-- the function has so many uses in reached blocks
pub record HasUses (f : FuncState) (count : ℕ) : Type 0 where
  pub reached : ℕ → Bool
  pub reached_are : (b : ℕ) → IsTrue (reached b) ↔ IsReached (graph_of f.blocks) b
  pub count_is : count ≡ uses_from reached 0 f.blocks
