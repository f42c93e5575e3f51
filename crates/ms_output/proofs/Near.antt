-- Where lines are within limits, no getelementptr passes the greatest offset.
use Rattle.std.proofs.Common.{◌≡◌, ◌+◌, length, ℕ, suc, ℤ, Bool, true, false, List, [], ◌∷◌, ◌++◌, Option, Some, None, map, if◌then◌else◌, sym, subst}
use Rattle.std.specs.List.{flat_map}
use Rattle.ms_ir.specs.declared.names.LocalNo.{LocalNo}
use Rattle.ms_grammar.specs.Kept.{Each}
use Rattle.ms_grammar.specs.Grammar.{kept_of}
use Rattle.ms_grammar.specs.Limits.{IsSmall, IsSmallInst}
use Rattle.ms_grammar.specs.declared.line.Line.{Line}
use Rattle.ms_grammar.specs.declared.line.Line.TheVariants as said
use Rattle.ms_grammar.specs.declared.line.RawInst.{RawInst}
use Rattle.ms_grammar.specs.declared.line.RawInst.TheVariants as raw
use Rattle.ms_line.specs.Sorts.{sort_of}
use Rattle.ms_read.specs.Places.{is_blank}
use Rattle.ms_read.specs.Draft.{Say, said as said_at, numbered, IsDraft}
use Rattle.ms_resolve.specs.Shape.{InstLine, BlockLines, FuncLines, label_lines, inst_line, block_lines, func_lines}
use Rattle.ms_resolve.specs.Scope.{Scope, value_of, inst_of, placed_at, local_behind, locals_behind, insts_from, blocks_from, func_of}
use Rattle.ms_alias.specs.declared.loc.Root.{Root}
use Rattle.ms_alias.specs.Roots.{Maker, Step, step_by, step_in, step_by_maker, makes, maker_in, maker_from, or_else, pointer_of}
use Rattle.ms_alias.specs.Offsets.{IsNear, greatest_offset, AreOffsetsNear}
use Rattle.ms_output.specs.Forms.{AreSmall, IsSmallAt}

pub each_front : {A : Type 0} (P : A → Type 0) (xs ys : List A) → Each P (xs ++ ys) → Each P xs
each_front P [] ys h = tt
each_front P (x ∷ xs) ys h = (h.0, each_front P xs ys h.1)

pub each_rest : {A : Type 0} (P : A → Type 0) (xs ys : List A) → Each P (xs ++ ys) → Each P ys
each_rest P [] ys h = h
each_rest P (x ∷ xs) ys h = each_rest P xs ys h.1

each_both : {A : Type 0} (P : A → Type 0) (xs ys : List A) → Each P xs → Each P ys → Each P (xs ++ ys)
each_both P [] ys h k = k
each_both P (x ∷ xs) ys h k = (h.0, each_both P xs ys h.1 k)

-- ---- the lines of a draft are small

kept_small : (line : Line) → IsSmall line → IsSmall (kept_of line)
kept_small (said.Declare head) h = h
kept_small said.Empty h = h
kept_small said.Close h = h
kept_small (said.Kept text) h = h
kept_small (said.Group n text) h = h
kept_small (said.GlobalVar name text) h = h
kept_small (said.Label n) h = h
kept_small (said.Define head) h = h
kept_small (said.Inst n inst) h = h
kept_small (said.Term term) h = h

said_small : (n : ℕ) (line : Line) (blank : Bool) → IsSmall line → AreSmall (if blank then [] else (n, line) ∷ [])
said_small n line true h = tt
said_small n line false h = (h, tt)

numbered_small : (n : ℕ) (rows : List (List ℕ)) (lines : List Line) → Say rows lines → AreSmall (numbered n lines)
numbered_small n [] [] s = tt
numbered_small n [] (line ∷ lines) s = absurd s
numbered_small n (row ∷ rows) [] s = absurd s
numbered_small n (row ∷ rows) (line ∷ lines) s =
    each_both IsSmallAt (said_at n (kept_of line)) (numbered (n + 1) lines) (said_small n (kept_of line) (is_blank (sort_of (kept_of line))) (kept_small line s.1.1))
    (numbered_small (n + 1) rows lines s.2)

pub draft_small : (bytes : List ℕ) (draft : List (ℕ × Line)) → IsDraft bytes draft → AreSmall draft
draft_small bytes draft d = subst AreSmall (sym d.draft_is) (numbered_small 1 _ d.lines d.read.say)

-- ---- what small lines make

near_step : (offset : ℤ) (o : Option Root) (st : Step) → step_by offset o ≡ Some st → IsNear greatest_offset offset → IsNear greatest_offset st.bytes
near_step offset None st e near = cc
near_step offset (Some p) st e near =
    let same : offset ≡ st.bytes = cc in
    subst (IsNear greatest_offset) same near

near_inst : (s : Scope) (i : RawInst) (st : Step) → IsSmallInst i → step_in (inst_of s i) ≡ Some st → IsNear greatest_offset st.bytes
near_inst s (raw.Gep base offset head index rest) st small e = near_step offset (pointer_of (value_of s base)) st e small
near_inst s _ st small e = cc

near_insts : (s : Scope) (n l k : ℕ) (xs : List InstLine) (m : LocalNo) (st : Step) → AreSmall (map inst_line xs) → step_by_maker (maker_in k (insts_from s n l xs) m) ≡ Some st
    → IsNear greatest_offset st.bytes
near_insts s n l k [] m st small e = cc
near_insts s n l k (x ∷ xs) m st small e =
    by (makes m (placed_at s n l x)) (near_insts s (suc n) (local_behind l x) k xs m st small.1) e
  where
    by : (t : Bool) → (step_by_maker (maker_in k (insts_from s (suc n) (local_behind l x) xs) m) ≡ Some st → IsNear greatest_offset st.bytes) → step_by_maker (if t then Some (record { block = k; inst = inst_of s x.inst }) else maker_in k (insts_from s (suc n) (local_behind l x) xs) m) ≡ Some st → IsNear greatest_offset st.bytes
    by true rest h = near_inst s x.inst st small.0 h
    by false rest h = rest h

near_or : (a c : Option Maker) (st : Step) (P : Type 0) → (step_by_maker a ≡ Some st → P) → (step_by_maker c ≡ Some st → P) → step_by_maker (or_else a c) ≡ Some st → P
near_or None c st P f g e = g e
near_or (Some m) c st P f g e = f e

near_blocks : (s : Scope) (b n l k : ℕ) (bs : List BlockLines) (m : LocalNo) (st : Step) → AreSmall (flat_map block_lines bs) → step_by_maker (maker_from k (blocks_from s b n l bs) m) ≡ Some st
    → IsNear greatest_offset st.bytes
near_blocks s b n l k [] m st small e = cc
near_blocks s b n l k (x ∷ xs) m st small e =
    let here = each_front IsSmallAt (block_lines x) (flat_map block_lines xs) small in
    let front = each_front IsSmallAt (label_lines x.label ++ map inst_line x.insts) ((x.end.line, said.Term x.end.term) ∷ []) here in
    let insts = each_rest IsSmallAt (label_lines x.label) (map inst_line x.insts) front in
    let rest = each_rest IsSmallAt (block_lines x) (flat_map block_lines xs) small in
    near_or (maker_in k (insts_from s n l x.insts) m) (maker_from (suc k) (blocks_from s (suc b) (n + length x.insts) (locals_behind l x.insts) xs) m) st (IsNear greatest_offset st.bytes)
    (near_insts s n l k x.insts m st insts)
    (near_blocks s (suc b) (n + length x.insts) (locals_behind l x.insts) (suc k) xs m st rest)
    e

pub func_near : (s : Scope) (r : ℕ) (f : FuncLines) → AreSmall (func_lines f) → AreOffsetsNear (func_of s r f)
func_near s r f small m st e =
    near_blocks s 0 0 (length f.head.params) 0 f.blocks m st (each_front IsSmallAt (flat_map block_lines f.blocks) ((f.close, said.Close) ∷ []) small.1) e
