-- The lines of a draft are functions and lines outside them, since their sorts may stand behind one another.
use Rattle.std.proofs.Common.{◌≡◌, ℕ, true, false, List, [], ◌∷◌, ◌++◌, Option, Some, None, refl, sym, ap, subst, ◌∙◌, append_assoc, map}
use Rattle.std.specs.List.{flat_map}
use Rattle.ms_ir.specs.declared.names.Name.{Name}
use Rattle.ms_grammar.specs.Kept.{Each}
use Rattle.ms_grammar.specs.declared.line.Head.{Head}
use Rattle.ms_grammar.specs.declared.line.Line.{Line}
use Rattle.ms_grammar.specs.declared.line.Line.TheVariants as said
use Rattle.ms_grammar.specs.declared.line.RawInst.{RawInst}
use Rattle.ms_grammar.specs.declared.line.RawInst.TheVariants as inst
use Rattle.ms_grammar.specs.declared.line.RawTerm.{RawTerm}
use Rattle.ms_line.specs.Sorts.{sort_of, sort_of_inst}
use Rattle.ms_line.specs.declared.sort.Sort.{Sort}
use Rattle.ms_line.specs.declared.sort.Sort.TheVariants.{Phi, Alloca, Other}
use Rattle.ms_read.specs.Places.{is_blank, next_place}
use Rattle.ms_read.specs.Shape.{Walk}
use Rattle.ms_read.specs.Told.{IsSaid, sorts_of}
use Rattle.ms_read.specs.declared.place.Place.{Place}
use Rattle.ms_read.specs.declared.place.Place.TheVariants.{Outside, Begun, Front, Inner, Ended}
use Rattle.ms_resolve.specs.Shape.{LabelLine, InstLine, TermLine, BlockLines, FuncLines, ItemLines, plain, body, inst_line, block_lines, item_lines, stands_outside, HasLabel, HasBlocks, IsShape}

abbrev Lines : Type 0
Lines = List (ℕ × Line)

-- items
abbrev HasShape : Lines → Type 0
HasShape draft = (items : List ItemLines) × IsShape draft items

-- behind a terminator: further blocks, a close line, and the rest of the module
record AfterBlock (draft : Lines) : Type 0 where
  blocks : List BlockLines
  labels : Each HasLabel blocks
  close : ℕ
  tail : Lines
  rest : HasShape tail
  whole : draft ≡ flat_map block_lines blocks ++ (close, said.Close) ∷ tail

-- in a block, from an instruction or the terminator on
record InBlock (draft : Lines) : Type 0 where
  insts : List InstLine
  end : TermLine
  tail : Lines
  rest : AfterBlock tail
  whole : draft ≡ map inst_line insts ++ (end.line, said.Term end.term) ∷ tail

-- behind a define line
record AfterDefine (draft : Lines) : Type 0 where
  blocks : List BlockLines
  some : HasBlocks blocks
  close : ℕ
  tail : Lines
  rest : HasShape tail
  whole : draft ≡ flat_map block_lines blocks ++ (close, said.Close) ∷ tail

abbrev Remains : Place → Lines → Type 0
Remains Outside draft = HasShape draft
Remains Begun draft = AfterDefine draft
Remains (Front first) draft = InBlock draft
Remains (Inner first) draft = InBlock draft
Remains Ended draft = AfterBlock draft

-- what holds of the place, where there is one
abbrev OnPlace : Option Place → (Place → Type 0) → Type 0
OnPlace None P = ⊥
OnPlace (Some p) P = P p

on_place : (o : Option Place) (p : Place) (P : Place → Type 0) → o ≡ Some p → P p → OnPlace o P
on_place o p P e h = subst (λ (x : Option Place). OnPlace x P) (sym e) h

item_more : (n : ℕ) (line : Line) (draft : Lines) → stands_outside line ≡ true → HasShape draft → HasShape ((n, line) ∷ draft)
item_more n line draft o r = (plain n line ∷ r.0, record { lines = ap (λ (x : Lines). (n, line) ∷ x) r.1.lines; each = (o, r.1.each) })

func_more : (n : ℕ) (head : Head) (draft : Lines) → AfterDefine draft → HasShape ((n, said.Define head) ∷ draft)
func_more n head draft r =
    let f : FuncLines = record { line = n; head = head; blocks = r.blocks; close = r.close } in
    let all = flat_map block_lines r.blocks in (
      body f ∷ r.rest.0,
      record {
        lines = ap (λ (x : Lines). (n, said.Define head) ∷ x)
            (r.whole ∙ ap (λ (x : Lines). all ++ (r.close, said.Close) ∷ x) r.rest.1.lines
            ∙ sym (append_assoc all ((r.close, said.Close) ∷ []) (flat_map item_lines r.rest.0)));
        each = (r.some, r.rest.1.each);
      },
    )

inst_more : (n : ℕ) (name : Name) (i : RawInst) (draft : Lines) → InBlock draft → InBlock ((n, said.Inst name i) ∷ draft)
inst_more n name i draft r =
    record { insts = record { line = n; name = name; inst = i } ∷ r.insts; end = r.end; tail = r.tail; rest = r.rest; whole = ap (λ (x : Lines). (n, said.Inst name i) ∷ x) r.whole }

term_more : (n : ℕ) (t : RawTerm) (draft : Lines) → AfterBlock draft → InBlock ((n, said.Term t) ∷ draft)
term_more n t draft r = record { insts = []; end = record { line = n; term = t }; tail = draft; rest = r; whole = refl }

close_more : (n : ℕ) (draft : Lines) → HasShape draft → AfterBlock ((n, said.Close) ∷ draft)
close_more n draft r = record { blocks = []; labels = tt; close = n; tail = draft; rest = r; whole = refl }

-- a block with its label, or without, in front of further ones
block_whole : (draft : Lines) (l : Option LabelLine) (r : InBlock draft) (front : Lines)
    → front ++ map inst_line r.insts ++ (r.end.line, said.Term r.end.term) ∷ [] ≡ block_lines (record { label = l; insts = r.insts; end = r.end })
    → front ++ draft ≡ flat_map block_lines (record { label = l; insts = r.insts; end = r.end } ∷ r.rest.blocks) ++ (r.rest.close, said.Close) ∷ r.rest.tail
block_whole draft l r front e =
    let one = block_lines (record { label = l; insts = r.insts; end = r.end }) in
    let more = flat_map block_lines r.rest.blocks in
    let tail : Lines = (r.rest.close, said.Close) ∷ r.rest.tail in
    let here = map inst_line r.insts in
    let end : ℕ × Line = (r.end.line, said.Term r.end.term) in
    ap (λ (x : Lines). front ++ x) (r.whole ∙ ap (λ (x : Lines). here ++ end ∷ x) r.rest.whole)
    ∙ moved front here end (more ++ tail) ∙ ap (λ (x : Lines). x ++ (more ++ tail)) e ∙ sym (append_assoc one more tail)
  where
    moved : (a b : Lines) (x : ℕ × Line) (c : Lines) → a ++ (b ++ x ∷ c) ≡ (a ++ b ++ x ∷ []) ++ c
    moved a b x c = simp append_assoc

label_more : (n : ℕ) (name : Name) (draft : Lines) → InBlock draft → AfterBlock ((n, said.Label name) ∷ draft)
label_more n name draft r =
    let l : Option LabelLine = Some (record { line = n; name = name }) in
    record {
      blocks = record { label = l; insts = r.insts; end = r.end } ∷ r.rest.blocks;
      labels = (refl, r.rest.labels);
      close = r.rest.close;
      tail = r.rest.tail;
      rest = r.rest.rest;
      whole = block_whole draft l r ((n, said.Label name) ∷ []) refl;
    }

labelled_first : (n : ℕ) (name : Name) (draft : Lines) → InBlock draft → AfterDefine ((n, said.Label name) ∷ draft)
labelled_first n name draft r =
    let l : Option LabelLine = Some (record { line = n; name = name }) in
    record {
      blocks = record { label = l; insts = r.insts; end = r.end } ∷ r.rest.blocks;
      some = r.rest.labels;
      close = r.rest.close;
      tail = r.rest.tail;
      rest = r.rest.rest;
      whole = block_whole draft l r ((n, said.Label name) ∷ []) refl;
    }

plain_first : (draft : Lines) → InBlock draft → AfterDefine draft
plain_first draft r = record {
  blocks = record { label = None; insts = r.insts; end = r.end } ∷ r.rest.blocks;
  some = r.rest.labels;
  close = r.rest.close;
  tail = r.rest.tail;
  rest = r.rest.rest;
  whole = block_whole draft None r [] refl;
}

-- behind an instruction
abbrev Behind : Place → Lines → Type 0
Behind Outside draft = ⊥
Behind Begun draft = InBlock draft
Behind (Front first) draft = InBlock draft
Behind (Inner first) draft = InBlock draft
Behind Ended draft = ⊥

abbrev Next : Place → Sort → Lines → Type 0
Next at sort draft = OnPlace (next_place at sort) (λ p. Remains p draft)

behind_phi : (at : Place) (draft : Lines) → Next at Phi draft → Behind at draft
behind_phi Outside draft r = r
behind_phi Begun draft r = r
behind_phi (Front first) draft r = r
behind_phi (Inner first) draft r = absurd r
behind_phi Ended draft r = r

behind_alloca : (at : Place) (draft : Lines) → Next at Alloca draft → Behind at draft
behind_alloca Outside draft r = r
behind_alloca Begun draft r = r
behind_alloca (Front true) draft r = r
behind_alloca (Front false) draft r = absurd r
behind_alloca (Inner true) draft r = r
behind_alloca (Inner false) draft r = absurd r
behind_alloca Ended draft r = r

behind_other : (at : Place) (draft : Lines) → Next at Other draft → Behind at draft
behind_other Outside draft r = r
behind_other Begun draft r = r
behind_other (Front first) draft r = r
behind_other (Inner first) draft r = r
behind_other Ended draft r = r

behind_inst : (at : Place) (i : RawInst) (draft : Lines) → Next at (sort_of_inst i) draft → Behind at draft
behind_inst at (inst.Alloca _ _ _) draft r = behind_alloca at draft r
behind_inst at (inst.Phi _ _ _) draft r = behind_phi at draft r
behind_inst at (inst.Gep _ _ _ _ _) draft r = behind_other at draft r
behind_inst at (inst.Step _ _ _ _ _ _) draft r = behind_other at draft r
behind_inst at (inst.Load _ _ _) draft r = behind_other at draft r
behind_inst at (inst.Store _ _ _ _) draft r = behind_other at draft r
behind_inst at (inst.Copy _ _ _ _ _ _) draft r = behind_other at draft r
behind_inst at (inst.Call _ _ _ _ _ _) draft r = behind_other at draft r
behind_inst at (inst.Bin _ _ _ _ _ _) draft r = behind_other at draft r
behind_inst at (inst.Cmp _ _ _ _ _ _) draft r = behind_other at draft r
behind_inst at (inst.Select _ _ _ _ _) draft r = behind_other at draft r
behind_inst at (inst.Cast _ _ _ _ _ _) draft r = behind_other at draft r

inst_step : (at : Place) (n : ℕ) (name : Name) (i : RawInst) (draft : Lines) → Behind at draft → Remains at ((n, said.Inst name i) ∷ draft)
inst_step Outside n name i draft r = absurd r
inst_step Begun n name i draft r = plain_first _ (inst_more n name i draft r)
inst_step (Front first) n name i draft r = inst_more n name i draft r
inst_step (Inner first) n name i draft r = inst_more n name i draft r
inst_step Ended n name i draft r = absurd r

-- one line with a token more
step : (at : Place) (n : ℕ) (line : Line) (draft : Lines) → is_blank (sort_of line) ≡ false → Next at (sort_of line) draft → Remains at ((n, line) ∷ draft)
step at n said.Empty draft b r = let k : true ≡ false = b in absurd (cc)
step at n (said.Inst name i) draft b r = inst_step at n name i draft (behind_inst at i draft r)
step Outside n said.Close draft b r = absurd r
step Outside n (said.Kept text) draft b r = item_more n (said.Kept text) draft refl r
step Outside n (said.Group number text) draft b r = item_more n (said.Group number text) draft refl r
step Outside n (said.GlobalVar name text) draft b r = item_more n (said.GlobalVar name text) draft refl r
step Outside n (said.Declare head) draft b r = item_more n (said.Declare head) draft refl r
step Outside n (said.Label name) draft b r = absurd r
step Outside n (said.Define head) draft b r = func_more n head draft r
step Outside n (said.Term t) draft b r = absurd r
step Begun n said.Close draft b r = absurd r
step Begun n (said.Kept text) draft b r = absurd r
step Begun n (said.Group number text) draft b r = absurd r
step Begun n (said.GlobalVar name text) draft b r = absurd r
step Begun n (said.Declare head) draft b r = absurd r
step Begun n (said.Label name) draft b r = labelled_first n name draft r
step Begun n (said.Define head) draft b r = absurd r
step Begun n (said.Term t) draft b r = plain_first _ (term_more n t draft r)
step (Front first) n said.Close draft b r = absurd r
step (Front first) n (said.Kept text) draft b r = absurd r
step (Front first) n (said.Group number text) draft b r = absurd r
step (Front first) n (said.GlobalVar name text) draft b r = absurd r
step (Front first) n (said.Declare head) draft b r = absurd r
step (Front first) n (said.Label name) draft b r = absurd r
step (Front first) n (said.Define head) draft b r = absurd r
step (Front first) n (said.Term t) draft b r = term_more n t draft r
step (Inner first) n said.Close draft b r = absurd r
step (Inner first) n (said.Kept text) draft b r = absurd r
step (Inner first) n (said.Group number text) draft b r = absurd r
step (Inner first) n (said.GlobalVar name text) draft b r = absurd r
step (Inner first) n (said.Declare head) draft b r = absurd r
step (Inner first) n (said.Label name) draft b r = absurd r
step (Inner first) n (said.Define head) draft b r = absurd r
step (Inner first) n (said.Term t) draft b r = term_more n t draft r
step Ended n said.Close draft b r = close_more n draft r
step Ended n (said.Kept text) draft b r = absurd r
step Ended n (said.Group number text) draft b r = absurd r
step Ended n (said.GlobalVar name text) draft b r = absurd r
step Ended n (said.Declare head) draft b r = absurd r
step Ended n (said.Label name) draft b r = label_more n name draft r
step Ended n (said.Define head) draft b r = absurd r
step Ended n (said.Term t) draft b r = absurd r

ended : (at : Place) → at ≡ Outside → Remains at []
ended at e = subst (λ (p : Place). Remains p []) (sym e) ([], record { lines = refl; each = tt })

remains : (at : Place) (draft : Lines) → Each (λ (entry : ℕ × Line). IsSaid entry.1) draft → Walk at (sorts_of draft) Outside → Remains at draft
remains at [] each w = ended at w
remains at (entry ∷ draft) each w =
    let sort = sort_of entry.1 in
    step at entry.0 entry.1 draft each.0.some (on_place (next_place at sort) w.0 (λ (p : Place). Remains p draft) w.1 (remains w.0 draft each.1 w.2))

-- lines that may stand behind one another have a shape
pub has_shape : (draft : List (ℕ × Line)) → Each (λ (entry : ℕ × Line). IsSaid entry.1) draft → Walk Outside (sorts_of draft) Outside → (items : List ItemLines) × IsShape draft items
has_shape draft each w = remains Outside draft each w
