-- The lines of a draft have one shape.
use Rattle.std.proofs.Common.{◌≡◌, ℕ, List, [], ◌∷◌, ◌++◌, Option, Some, None, refl, sym, ap, ◌∙◌, append_assoc, map, Bool, true, false, arith}
use Rattle.std.specs.List.{flat_map}
use Rattle.ms_ir.specs.declared.names.Name.{Name}
use Rattle.ms_grammar.specs.Kept.{Each}
use Rattle.ms_grammar.specs.declared.line.Head.{Head}
use Rattle.ms_grammar.specs.declared.line.Line.{Line}
use Rattle.ms_grammar.specs.declared.line.Line.TheVariants as said
use Rattle.ms_grammar.specs.declared.line.RawInst.{RawInst}
use Rattle.ms_grammar.specs.declared.line.RawTerm.{RawTerm}
use Rattle.ms_resolve.specs.Shape.{LabelLine, InstLine, TermLine, BlockLines, FuncLines, ItemLines, plain, body, label_lines, inst_line, block_lines, func_lines, item_lines, stands_outside, IsItem, IsShape}

abbrev Lines : Type 0
Lines = List (ℕ × Line)

-- what kind a line is, to tell lines apart
abbrev kind_of : Line → ℕ
kind_of said.Empty = 0
kind_of said.Close = 1
kind_of (said.Kept _) = 2
kind_of (said.Group _ _) = 2
kind_of (said.GlobalVar _ _) = 2
kind_of (said.Declare _) = 2
kind_of (said.Label _) = 3
kind_of (said.Define _) = 4
kind_of (said.Inst _ _) = 5
kind_of (said.Term _) = 6

abbrev kinds_of : Lines → ℕ
kinds_of [] = 7
kinds_of (entry ∷ _) = kind_of entry.1

abbrev is_end : Lines → Bool
is_end [] = true
is_end (_ ∷ _) = false

first_kind : {a b : Lines} → a ≡ b → kinds_of a ≡ kinds_of b
first_kind e = ap kinds_of e

abbrev line_number : Lines → ℕ
line_number [] = 0
line_number (entry ∷ _) = entry.0

abbrev behind_first : Lines → Lines
behind_first [] = []
behind_first (_ ∷ xs) = xs

abbrev name_said : Name → Line → Name
name_said d (said.Inst name _) = name
name_said d (said.Label name) = name
name_said d _ = d

abbrev inst_said : RawInst → Line → RawInst
inst_said d (said.Inst _ i) = i
inst_said d _ = d

abbrev term_said : RawTerm → Line → RawTerm
term_said d (said.Term t) = t
term_said d _ = d

abbrev head_said : Head → Line → Head
head_said d (said.Define head) = head
head_said d _ = d

abbrev first_said : Line → Lines → Line
first_said d [] = d
first_said d (entry ∷ _) = entry.1

abbrev make_inst : ℕ → Name → RawInst → InstLine
make_inst n name i = record { line = n; name = name; inst = i }

abbrev make_term : ℕ → RawTerm → TermLine
make_term n t = record { line = n; term = t }

abbrev make_label : ℕ → Name → LabelLine
make_label n name = record { line = n; name = name }

abbrev make_block : Option LabelLine → List InstLine → TermLine → BlockLines
make_block l insts end = record { label = l; insts = insts; end = end }

abbrev make_func : ℕ → Head → List BlockLines → ℕ → FuncLines
make_func n head blocks close = record { line = n; head = head; blocks = blocks; close = close }

same_inst : (x y : InstLine) (a b : Lines) → inst_line x ∷ a ≡ inst_line y ∷ b → (x ≡ y) × (a ≡ b)
same_inst x y a b e =
    let line = ap line_number e in
    let says = ap (first_said said.Empty) e in
    let name : x.name ≡ y.name = ap (name_said x.name) says in
    let i : x.inst ≡ y.inst = ap (inst_said x.inst) says in
    (ap (λ n. make_inst n x.name x.inst) line ∙ ap (λ n. make_inst y.line n x.inst) name ∙ ap (λ n. make_inst y.line y.name n) i, ap behind_first e)

same_term : (x y : TermLine) (a b : Lines) → (x.line, said.Term x.term) ∷ a ≡ (y.line, said.Term y.term) ∷ b → (x ≡ y) × (a ≡ b)
same_term x y a b e =
    let line = ap line_number e in
    let t : x.term ≡ y.term = ap (term_said x.term) (ap (first_said said.Empty) e) in
    (ap (λ n. make_term n x.term) line ∙ ap (λ n. make_term y.line n) t, ap behind_first e)

same_label : (x y : LabelLine) (a b : Lines) → (x.line, said.Label x.name) ∷ a ≡ (y.line, said.Label y.name) ∷ b → (x ≡ y) × (a ≡ b)
same_label x y a b e =
    let line = ap line_number e in
    let t : x.name ≡ y.name = ap (name_said x.name) (ap (first_said said.Empty) e) in
    (ap (λ n. make_label n x.name) line ∙ ap (λ n. make_label y.line n) t, ap behind_first e)

-- instructions up to the terminator
abbrev InstsFrom : List InstLine → TermLine → Lines → Lines
InstsFrom xs end rest = map inst_line xs ++ (end.line, said.Term end.term) ∷ rest

record SameInsts (xs ys : List InstLine) (x y : TermLine) (a b : Lines) : Type 0 where
  insts : xs ≡ ys
  end : x ≡ y
  rest : a ≡ b

same_insts : (xs ys : List InstLine) (x y : TermLine) (a b : Lines) → InstsFrom xs x a ≡ InstsFrom ys y b → SameInsts xs ys x y a b
same_insts [] [] x y a b e = let s = same_term x y a b e in record { insts = refl; end = s.0; rest = s.1 }
same_insts [] (j ∷ ys) x y a b e = let k : 6 ≡ 5 = first_kind e in absurd (omega (arith, k))
same_insts (i ∷ xs) [] x y a b e = let k : 5 ≡ 6 = first_kind e in absurd (omega (arith, k))
same_insts (i ∷ xs) (j ∷ ys) x y a b e =
    let s = same_inst i j _ _ e in
    let m = same_insts xs ys x y a b s.1 in
    record { insts = ap (λ k. k ∷ xs) s.0 ∙ ap (λ k. j ∷ k) m.insts; end = m.end; rest = m.rest }

-- the lines of a block, with a rest
abbrev BlockFrom : Option LabelLine → List InstLine → TermLine → Lines → Lines
BlockFrom l xs end rest = label_lines l ++ InstsFrom xs end rest

insts_kind : (xs : List InstLine) (x : TermLine) (a : Lines) → kinds_of (InstsFrom xs x a) ≡ 3 → ⊥
insts_kind [] x a e = let k : 6 ≡ 3 = e in absurd (omega (arith, k))
insts_kind (i ∷ xs) x a e = let k : 5 ≡ 3 = e in absurd (omega (arith, k))

record SameBlock (l m : Option LabelLine) (xs ys : List InstLine) (x y : TermLine) (a b : Lines) : Type 0 where
  label : l ≡ m
  insts : xs ≡ ys
  end : x ≡ y
  rest : a ≡ b

same_block : (l m : Option LabelLine) (xs ys : List InstLine) (x y : TermLine) (a b : Lines) → BlockFrom l xs x a ≡ BlockFrom m ys y b → SameBlock l m xs ys x y a b
same_block None None xs ys x y a b e = let s = same_insts xs ys x y a b e in record { label = refl; insts = s.insts; end = s.end; rest = s.rest }
same_block None (Some m) xs ys x y a b e = absurd (insts_kind xs x a (first_kind e))
same_block (Some l) None xs ys x y a b e = absurd (insts_kind ys y b (sym (first_kind e)))
same_block (Some l) (Some m) xs ys x y a b e =
    let s = same_label l m _ _ e in
    let t = same_insts xs ys x y a b s.1 in
    record { label = ap Some s.0; insts = t.insts; end = t.end; rest = t.rest }

block_from : (b : BlockLines) (rest : Lines) → block_lines b ++ rest ≡ BlockFrom b.label b.insts b.end rest
block_from b rest = simp append_assoc

-- blocks up to the close line
abbrev BlocksFrom : List BlockLines → ℕ → Lines → Lines
BlocksFrom bs close rest = flat_map block_lines bs ++ (close, said.Close) ∷ rest

blocks_from : (b : BlockLines) (bs : List BlockLines) (close : ℕ) (rest : Lines) → BlocksFrom (b ∷ bs) close rest ≡ BlockFrom b.label b.insts b.end (BlocksFrom bs close rest)
blocks_from b bs close rest = append_assoc (block_lines b) (flat_map block_lines bs) ((close, said.Close) ∷ rest) ∙ block_from b (BlocksFrom bs close rest)

block_kind : (l : Option LabelLine) (xs : List InstLine) (x : TermLine) (a : Lines) → kinds_of (BlockFrom l xs x a) ≡ 1 → ⊥
block_kind None [] x a e = let k : 6 ≡ 1 = e in absurd (omega (arith, k))
block_kind None (i ∷ xs) x a e = let k : 5 ≡ 1 = e in absurd (omega (arith, k))
block_kind (Some l) xs x a e = let k : 3 ≡ 1 = e in absurd (omega (arith, k))

record SameBlocks (bs cs : List BlockLines) (m n : ℕ) (a b : Lines) : Type 0 where
  blocks : bs ≡ cs
  close : m ≡ n
  rest : a ≡ b

same_blocks : (bs cs : List BlockLines) (m n : ℕ) (a b : Lines) → BlocksFrom bs m a ≡ BlocksFrom cs n b → SameBlocks bs cs m n a b
same_blocks [] [] m n a b e = record { blocks = refl; close = ap line_number e; rest = ap behind_first e }
same_blocks [] (c ∷ cs) m n a b e = absurd (block_kind c.label c.insts c.end _ (sym (first_kind (e ∙ blocks_from c cs n b))))
same_blocks (x ∷ bs) [] m n a b e = absurd (block_kind x.label x.insts x.end _ (first_kind (sym (blocks_from x bs m a) ∙ e)))
same_blocks (x ∷ bs) (c ∷ cs) m n a b e =
    let s = same_block x.label c.label x.insts c.insts x.end c.end _ _ (sym (blocks_from x bs m a) ∙ e ∙ blocks_from c cs n b) in
    let t = same_blocks bs cs m n a b s.rest in
    let one : x ≡ c = ap (λ l. make_block l x.insts x.end) s.label ∙ ap (λ i. make_block c.label i x.end) s.insts ∙ ap (λ i. make_block c.label c.insts i) s.end in
    record { blocks = ap (λ k. k ∷ bs) one ∙ ap (λ k. c ∷ k) t.blocks; close = t.close; rest = t.rest }

record SameFunc (f g : FuncLines) (a b : Lines) : Type 0 where
  func : f ≡ g
  rest : a ≡ b

func_from : (f : FuncLines) (rest : Lines) → func_lines f ++ rest ≡ (f.line, said.Define f.head) ∷ BlocksFrom f.blocks f.close rest
func_from f rest = ap (λ k. (f.line, said.Define f.head) ∷ k) (append_assoc (flat_map block_lines f.blocks) ((f.close, said.Close) ∷ []) rest)

same_func : (f g : FuncLines) (a b : Lines) → func_lines f ++ a ≡ func_lines g ++ b → SameFunc f g a b
same_func f g a b e =
    let d = sym (func_from f a) ∙ e ∙ func_from g b in
    let head : f.head ≡ g.head = ap (head_said f.head) (ap (first_said said.Empty) d) in
    let s = same_blocks f.blocks g.blocks f.close g.close a b (ap behind_first d) in
    record {
      func = ap (λ k. make_func k f.head f.blocks f.close) (ap line_number d) ∙ ap (λ k. make_func g.line k f.blocks f.close) head
          ∙ ap (λ k. make_func g.line g.head k f.close) s.blocks ∙ ap (λ k. make_func g.line g.head g.blocks k) s.close;
      rest = s.rest;
    }

outside_kind : (line : Line) → stands_outside line ≡ true → kind_of line ≡ 4 → ⊥
outside_kind said.Empty o e = let k : 0 ≡ 4 = e in absurd (omega (arith, k))
outside_kind said.Close o e = let k : 1 ≡ 4 = e in absurd (omega (arith, k))
outside_kind (said.Kept _) o e = let k : 2 ≡ 4 = e in absurd (omega (arith, k))
outside_kind (said.Group _ _) o e = let k : 2 ≡ 4 = e in absurd (omega (arith, k))
outside_kind (said.GlobalVar _ _) o e = let k : 2 ≡ 4 = e in absurd (omega (arith, k))
outside_kind (said.Declare _) o e = let k : 2 ≡ 4 = e in absurd (omega (arith, k))
outside_kind (said.Label _) o e = let k : 3 ≡ 4 = e in absurd (omega (arith, k))
outside_kind (said.Define _) o e = let k : false ≡ true = o in absurd (cc)
outside_kind (said.Inst _ _) o e = let k : 5 ≡ 4 = e in absurd (omega (arith, k))
outside_kind (said.Term _) o e = let k : 6 ≡ 4 = e in absurd (omega (arith, k))

-- two lists of items with the same lines are the same
same_items : (xs ys : List ItemLines) → Each IsItem xs → Each IsItem ys → flat_map item_lines xs ≡ flat_map item_lines ys → xs ≡ ys
same_items [] [] p q e = refl
same_items [] (plain n line ∷ ys) p q e = let k : true ≡ false = ap is_end e in absurd (cc)
same_items [] (body f ∷ ys) p q e = let k : true ≡ false = ap is_end e in absurd (cc)
same_items (plain n line ∷ xs) [] p q e = let k : false ≡ true = ap is_end e in absurd (cc)
same_items (body f ∷ xs) [] p q e = let k : false ≡ true = ap is_end e in absurd (cc)
same_items (plain n line ∷ xs) (plain m other ∷ ys) p q e =
    ap (λ k. plain k line ∷ xs) (ap line_number e) ∙ ap (λ k. plain m k ∷ xs) (ap (first_said said.Empty) e)
    ∙ ap (λ k. plain m other ∷ k) (same_items xs ys p.1 q.1 (ap behind_first e))
same_items (plain n line ∷ xs) (body f ∷ ys) p q e = absurd (outside_kind line p.0 (first_kind e))
same_items (body f ∷ xs) (plain n line ∷ ys) p q e = absurd (outside_kind line q.0 (sym (first_kind e)))
same_items (body f ∷ xs) (body g ∷ ys) p q e =
    let s = same_func f g (flat_map item_lines xs) (flat_map item_lines ys) e in
    ap (λ k. body k ∷ xs) s.func ∙ ap (λ k. body g ∷ k) (same_items xs ys p.1 q.1 s.rest)

pub one_shape : (draft : List (ℕ × Line)) (xs ys : List ItemLines) → IsShape draft xs → IsShape draft ys → xs ≡ ys
one_shape draft xs ys p q = same_items xs ys p.each q.each (sym p.lines ∙ q.lines)
