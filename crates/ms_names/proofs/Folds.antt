-- Going along a draft's lines is going along its items.
use Rattle.std.proofs.Common.{◌≡◌, ◌∙◌, ℕ, Some, None, Bool, true, false, List, [], ◌∷◌, ◌++◌, map, refl, ap, append_assoc}
use Rattle.std.specs.List.{flat_map}
use Rattle.ms_grammar.specs.Kept.{Each}
use Rattle.ms_grammar.specs.declared.line.Head.{Head}
use Rattle.ms_grammar.specs.declared.line.Line.{Line}
use Rattle.ms_grammar.specs.declared.line.Line.TheVariants as said
use Rattle.ms_names.specs.Shape.{InstLine, BlockLines, ItemLines, plain, body, label_lines, inst_line, block_lines, item_lines, stands_outside, IsItem}
use Rattle.ms_names.specs.Draft.{is_inside, body_lines}

-- a line that stands between a function's first and last line
abbrev pub is_inner : Line → Bool
is_inner (said.Label name) = true
is_inner (said.Inst name inst) = true
is_inner (said.Term term) = true
is_inner _ = false

abbrev pub AreInner : List (ℕ × Line) → Type 0
AreInner ls = Each (λ (l : ℕ × Line). is_inner l.1 ≡ true) ls

pub inner-append : (xs ys : List (ℕ × Line)) → AreInner xs → AreInner ys → AreInner (xs ++ ys)
inner-append [] ys h k = k
inner-append (x ∷ xs) ys h k = (h.0, inner-append xs ys h.1 k)

inner-insts : (xs : List InstLine) → AreInner (map inst_line xs)
inner-insts [] = tt
inner-insts (x ∷ xs) = (refl, inner-insts xs)

inner-labels : (b : BlockLines) → AreInner (label_lines b.label)
inner-labels b = elim b.label as (λ l. AreInner (label_lines l)) [ None ↦ tt | Some l ↦ (refl, tt) ]

inner-block : (b : BlockLines) → AreInner (block_lines b)
inner-block b = inner-append (label_lines b.label ++ map inst_line b.insts) ((b.end.line, said.Term b.end.term) ∷ [])
    (inner-append (label_lines b.label) (map inst_line b.insts) (inner-labels b) (inner-insts b.insts)) (refl, tt)

pub inner-blocks : (bs : List BlockLines) → AreInner (flat_map block_lines bs)
inner-blocks [] = tt
inner-blocks (b ∷ bs) = inner-append (block_lines b) (flat_map block_lines bs) (inner-block b) (inner-blocks bs)

inner_inside : (line : Line) → is_inner line ≡ true → is_inside line ≡ true
inner_inside said.Close e = cc
inner_inside said.Empty e = refl
inner_inside (said.Kept _) e = refl
inner_inside (said.Group _ _) e = refl
inner_inside (said.GlobalVar _ _) e = refl
inner_inside (said.Label _) e = refl
inner_inside (said.Declare _) e = refl
inner_inside (said.Define _) e = refl
inner_inside (said.Inst _ _) e = refl
inner_inside (said.Term _) e = refl

-- a function's body ends where its last line stands
pub body_ends : (inner rest : List (ℕ × Line)) (close : ℕ) → AreInner inner → body_lines ((inner ++ (close, said.Close) ∷ []) ++ rest) ≡ inner
body_ends [] rest close h = refl
body_ends (l ∷ ls) rest close h = rw (inner_inside l.1 h.0) (ap (λ (r : List (ℕ × Line)). l ∷ r) (body_ends ls rest close h.1))

-- going along items
abbrev pub items_after : {S : Type 0} → (S → ℕ → Line → S) → (S → ℕ → Head → List (ℕ × Line) → S) → S → List ItemLines → S
items_after step define s [] = s
items_after step define s (plain n line ∷ items) = items_after step define (step s n line) items
items_after step define s (body f ∷ items) = items_after step define (define s f.line f.head (flat_map block_lines f.blocks)) items

-- a way to go along lines: lines inside functions do nothing, and a function's first line sees its body
pub record IsFold (S : Type 0) (F : S → List (ℕ × Line) → S) (step : S → ℕ → Line → List (ℕ × Line) → S) (out : S → ℕ → Line → S) (define : S → ℕ → Head → List (ℕ × Line) → S) : Type 0 where
  pub none : (s : S) → F s [] ≡ s
  pub one : (s : S) (l : ℕ × Line) (ls : List (ℕ × Line)) → F s (l ∷ ls) ≡ F (step s l.0 l.1 ls) ls
  pub inner : (s : S) (n : ℕ) (line : Line) (rest : List (ℕ × Line)) → is_inner line ≡ true → step s n line rest ≡ s
  pub close : (s : S) (n : ℕ) (rest : List (ℕ × Line)) → step s n said.Close rest ≡ s
  pub outer : (s : S) (n : ℕ) (line : Line) (rest : List (ℕ × Line)) → stands_outside line ≡ true → step s n line rest ≡ out s n line
  pub defines : (s : S) (n : ℕ) (head : Head) (rest : List (ℕ × Line)) → step s n (said.Define head) rest ≡ define s n head (body_lines rest)

skip : {S : Type 0} (F : S → List (ℕ × Line) → S) (step : S → ℕ → Line → List (ℕ × Line) → S) (out : S → ℕ → Line → S) (define : S → ℕ → Head → List (ℕ × Line) → S) → IsFold S F step out define
    → (inner rest : List (ℕ × Line)) → AreInner inner → (s : S) → F s (inner ++ rest) ≡ F s rest
skip F step out define fold [] rest h s = refl
skip F step out define fold (l ∷ ls) rest h s =
    fold.one s l (ls ++ rest) ∙ ap (λ t. F t (ls ++ rest)) (fold.inner s l.0 l.1 (ls ++ rest) h.0) ∙ skip F step out define fold ls rest h.1 s

pub along_items : {S : Type 0} (F : S → List (ℕ × Line) → S) (step : S → ℕ → Line → List (ℕ × Line) → S) (out : S → ℕ → Line → S) (define : S → ℕ → Head → List (ℕ × Line) → S) → IsFold S F step out define
    → (items : List ItemLines) → Each IsItem items → (s : S) → F s (flat_map item_lines items) ≡ items_after out define s items
along_items F step out define fold [] h s = fold.none s
along_items F step out define fold (plain n line ∷ items) h s =
    fold.one s (n, line) (flat_map item_lines items) ∙ ap (λ t. F t (flat_map item_lines items)) (fold.outer s n line (flat_map item_lines items) h.0)
    ∙ along_items F step out define fold items h.1 (out s n line)
along_items {S} F step out define fold (body f ∷ items) h s =
    let inner = flat_map block_lines f.blocks in
    let close : List (ℕ × Line) = (f.close, said.Close) ∷ [] in
    let rest = flat_map item_lines items in
    let after : S = define s f.line f.head inner in
    fold.one s (f.line, said.Define f.head) ((inner ++ close) ++ rest)
    ∙ ap (λ t. F t ((inner ++ close) ++ rest)) (fold.defines s f.line f.head ((inner ++ close) ++ rest) ∙ ap (λ b. define s f.line f.head b) (body_ends inner rest f.close (inner-blocks f.blocks)))
    ∙ ap (λ ls. F after ls) (append_assoc inner close rest)
    ∙ skip F step out define fold inner (close ++ rest) (inner-blocks f.blocks) after
    ∙ fold.one after (f.close, said.Close) rest ∙ ap (λ t. F t rest) (fold.close after f.close rest)
    ∙ along_items F step out define fold items h.1 after
