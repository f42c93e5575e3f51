-- Lines that use a name that is not there.
use Rattle.std.proofs.Common.{◌≡◌, ◌∙◌, ◌⊎◌, inl, inr, ℕ, Bool, true, false, not, List, [], ◌∷◌, ◌++◌, Option, Some, None, map, refl, sym, ap, subst}
use Rattle.std.specs.Prelude.{◌||◌}
use Rattle.std.specs.List.{list_any, flat_map}
use Rattle.ms_ir.specs.declared.names.Name.{Name}
use Rattle.ms_grammar.specs.Form.{name_text}
use Rattle.ms_grammar.specs.declared.line.Line.{Line}
use Rattle.ms_grammar.specs.declared.line.Line.TheVariants as said
use Rattle.ms_grammar.specs.declared.line.RawVal.{RawVal}
use Rattle.ms_grammar.specs.declared.line.RawVal.TheVariants.{Num, Local, Global}
use Rattle.ms_grammar.specs.declared.line.RawArg.{RawArg}
use Rattle.ms_grammar.specs.declared.line.RawEntry.{RawEntry}
use Rattle.ms_grammar.specs.declared.line.RawIndex.{RawIndex}
use Rattle.ms_grammar.specs.declared.line.RawInst.{RawInst}
use Rattle.ms_grammar.specs.declared.line.RawInst.TheVariants.{Alloca, Gep, Step, Load, Store, Copy, Call, Bin, Cmp, Select, Cast, Phi}
use Rattle.ms_grammar.specs.declared.line.RawTerm.{RawTerm}
use Rattle.ms_grammar.specs.declared.line.RawTerm.TheVariants.{Br, CondBr, Ret, Unreachable}
use Rattle.ms_names.specs.Shape.{LabelLine, FuncLines, inst_line, label_lines, block_lines}
use Rattle.ms_names.specs.Made.{Made}
use Rattle.ms_names.specs.Used.{Names, arg_value, entry_value, index_value, entry_block, values_of, term_values, local_of, global_of, inst_blocks, term_blocks, callee_of, inst_names, term_names}
use Rattle.ms_names.specs.Faults.{IsNotIn, NamesFirst, UsesUnknown, local, block, global, StandsAt, inst, term}
use Rattle.ms_names.specs.Places.{is_word_there, is_name_there}
use Rattle.ms_names.specs.Uses.{Known, lacks_symbol, lacks_block, lacks_value, lacks_arg, lacks_entry, lacks_index, inst_lacks, term_lacks, line_lacks, least_lacking}
use Rattle.ms_names.proofs.Members.{Among, among_in, in_among, among_append, among_left, among_right, among_map, map_among, among_flat, flat_among, any_among, among_any, there_word, word_there_any, or_either, or_left, or_right}
use Rattle.ms_names.proofs.Least.{IsLeastOf, least_change, least_along, FaultAlong, least_along_is}

-- tests of a line by the lists of its names
abbrev lost : Known → List ℕ → Bool
lost k w = not (is_word_there k.symbols w)

abbrev lists_lack : Known → List RawVal → List Name → List (List ℕ) → Bool
lists_lack k vals blocks callees = list_any (lacks_value k) vals || (list_any (lacks_block k) blocks || list_any (lost k) callees)

or0 : (a : Bool) → a ≡ (a || (false || false))
or0 true = refl
or0 false = refl

or1 : (a : Bool) → a ≡ ((a || false) || (false || false))
or1 true = refl
or1 false = refl

or_step : (a b : Bool) → (a || b) ≡ ((a || b) || (false || false))
or_step true b = refl
or_step false b = or0 b

or2 : (a b : Bool) → (a || b) ≡ ((a || (b || false)) || (false || false))
or2 true b = refl
or2 false b = or1 b

or3 : (a b c : Bool) → (a || (b || c)) ≡ ((a || (b || (c || false))) || (false || false))
or3 true b c = refl
or3 false b c = or2 b c

or_call : (a s : Bool) → (a || s) ≡ (a || (false || (s || false)))
or_call true s = refl
or_call false true = refl
or_call false false = refl

or_entry : (a b c d : Bool) → ((a || b) || (c || (d || false))) ≡ ((a || c) || ((b || d) || false))
or_entry true b c d = refl
or_entry false true true d = refl
or_entry false true false d = refl
or_entry false false true d = refl
or_entry false false false d = refl

or_target : (t : Bool) → t ≡ (false || ((t || false) || false))
or_target true = refl
or_target false = refl

or_targets : (c t f : Bool) → (c || (t || f)) ≡ ((c || false) || ((t || (f || false)) || false))
or_targets true t f = refl
or_targets false true f = refl
or_targets false false true = refl
or_targets false false false = refl

or_given : (a : Bool) → a ≡ ((a || false) || (false || false))
or_given a = or1 a

args_any : (k : Known) (args : List RawArg) → list_any (lacks_arg k) args ≡ list_any (lacks_value k) (map arg_value args)
args_any k [] = refl
args_any k (a ∷ args) = ap (λ b. lacks_value k a.val || b) (args_any k args)

terms_any : (k : Known) (terms : List RawIndex) → list_any (lacks_index k) terms ≡ list_any (lacks_value k) (map index_value terms)
terms_any k [] = refl
terms_any k (t ∷ terms) = ap (λ b. lacks_value k t.val || b) (terms_any k terms)

entries_any : (k : Known) (es : List RawEntry) → list_any (lacks_entry k) es ≡ (list_any (lacks_value k) (map entry_value es) || (list_any (lacks_block k) (map entry_block es) || false))
entries_any k [] = refl
entries_any k (e ∷ es) =
    ap (λ b. lacks_entry k e || b) (entries_any k es)
    ∙ or_entry (lacks_value k e.val) (lacks_block k e.from) (list_any (lacks_value k) (map entry_value es)) (list_any (lacks_block k) (map entry_block es))

inst_lists : (k : Known) (i : RawInst) → inst_lacks k i ≡ lists_lack k (values_of i) (inst_blocks i) (callee_of i)
inst_lists k (Alloca size head rest) = refl
inst_lists k (Gep base offset head index rest) = or1 (lacks_value k base)
inst_lists k (Step base offset terms head index rest) =
    ap (λ b. lacks_value k base || b) (terms_any k terms) ∙ or_step (lacks_value k base) (list_any (lacks_value k) (map index_value terms))
inst_lists k (Load ty ptr rest) = or1 (lacks_value k ptr)
inst_lists k (Store ty val ptr rest) = or2 (lacks_value k val) (lacks_value k ptr)
inst_lists k (Copy to from len head behind rest) = or2 (lacks_value k to.val) (lacks_value k from.val)
inst_lists k (Call callee ret args head behind rest) = ap (λ b. b || lacks_symbol k callee) (args_any k args) ∙ or_call (list_any (lacks_value k) (map arg_value args)) (lacks_symbol k callee)
inst_lists k (Bin op flags ty a b rest) = or2 (lacks_value k a) (lacks_value k b)
inst_lists k (Cmp pred flags ty a b rest) = or2 (lacks_value k a) (lacks_value k b)
inst_lists k (Select cond ty a b rest) = or3 (lacks_value k cond) (lacks_value k a) (lacks_value k b)
inst_lists k (Cast op flags from a to rest) = or1 (lacks_value k a)
inst_lists k (Phi ty entries rest) = entries_any k entries

term_lists : (k : Known) (t : RawTerm) → term_lacks k t ≡ lists_lack k (term_values t) (term_blocks t) []
term_lists k (Br to rest) = or_target (lacks_block k to)
term_lists k (CondBr cond if_true if_false rest) = or_targets (lacks_value k cond) (lacks_block k if_true) (lacks_block k if_false)
term_lists k (Ret None rest) = refl
term_lists k (Ret (Some given) rest) = or1 (lacks_value k given.1)
term_lists k (Unreachable rest) = refl

-- names that are not there
not_true : (b : Bool) → not b ≡ true → b ≡ true → ⊥
not_true true e h = cc
not_true false e h = cc

not_is : (b : Bool) → (b ≡ true → ⊥) → not b ≡ true
not_is true h = absurd (h refl)
not_is false h = refl

-- the names that are there are those by which a first thing of this kind is found
abbrev pub Finds : List Made → Bool → List Name → Type 0
Finds named b names = (q : Name) → (is_name_there names q ≡ true → NamesFirst named b q) × (NamesFirst named b q → is_name_there names q ≡ true)

pub record KnowsFirst (k : Known) (named : List Made) : Type 0 where
  pub locals : Finds named false k.locals
  pub blocks : Finds named true k.blocks

missing_not : (named : List Made) (b : Bool) (names : List Name) → Finds named b names → (q : Name) → not (is_name_there names q) ≡ true → NamesFirst named b q → ⊥
missing_not named b names finds q e h = not_true (is_name_there names q) e ((finds q).1 h)

not_missing : (named : List Made) (b : Bool) (names : List Name) → Finds named b names → (q : Name) → (NamesFirst named b q → ⊥) → not (is_name_there names q) ≡ true
not_missing named b names finds q h = not_is (is_name_there names q) (λ t. h ((finds q).0 t))

lost_not : (words : List (List ℕ)) (q : List ℕ) → not (is_word_there words q) ≡ true → IsNotIn words q
lost_not words q e = λ h. not_true (is_word_there words q) e (word_there_any words q (in_among words q h))

not_lost : (words : List (List ℕ)) (q : List ℕ) → IsNotIn words q → not (is_word_there words q) ≡ true
not_lost words q h = not_is (is_word_there words q) (λ t. h (among_in words q (there_word words q t)))

-- a value that lacks its name
value_lacks : (k : Known) (named : List Made) (used : Names) → KnowsFirst k named → (v : RawVal) → lacks_value k v ≡ true → ((n : Name) → Among (local_of v) n → Among used.locals n)
    → ((w : List ℕ) → Among (global_of v) w → Among used.symbols w) → UsesUnknown named k.symbols used
value_lacks k named used knows (Num ty n) e locals symbols = cc
value_lacks k named used knows (Local n) e locals symbols = local n (among_in used.locals n (locals n (inl refl))) (missing_not named false k.locals knows.locals n e)
value_lacks k named used knows (Global n) e locals symbols = global (name_text n) (among_in used.symbols (name_text n) (symbols (name_text n) (inl refl))) (lost_not k.symbols (name_text n) e)

lists_unknown : (k : Known) (named : List Made) → KnowsFirst k named → (vals : List RawVal) (blocks : List Name) (callees : List (List ℕ)) → lists_lack k vals blocks callees ≡ true
    → UsesUnknown named k.symbols (record { locals = flat_map local_of vals; blocks = blocks; symbols = flat_map global_of vals ++ callees })
lists_unknown k named knows vals blocks callees e =
    let used : Names = record { locals = flat_map local_of vals; blocks = blocks; symbols = flat_map global_of vals ++ callees } in
    elim (or_either (list_any (lacks_value k) vals) (list_any (lacks_block k) blocks || list_any (lost k) callees) e) [
      | inl v ↦
          let r = any_among (lacks_value k) vals v in
          value_lacks k named used knows r.0 r.2 (λ n h. flat_among local_of vals r.0 n r.1 h) (λ w h. among_left (flat_map global_of vals) callees w (flat_among global_of vals r.0 w r.1 h))
      | inr o ↦ elim (or_either (list_any (lacks_block k) blocks) (list_any (lost k) callees) o) [
        | inl b ↦ let r = any_among (lacks_block k) blocks b in block r.0 (among_in blocks r.0 r.1) (missing_not named true k.blocks knows.blocks r.0 r.2)
        | inr c ↦ let r = any_among (lost k) callees c in global r.0 (among_in used.symbols r.0 (among_right (flat_map global_of vals) callees r.0 r.1)) (lost_not k.symbols r.0 r.2)
      ]
    ]

local_value : (k : Known) (v : RawVal) (n : Name) → Among (local_of v) n → not (is_name_there k.locals n) ≡ true → lacks_value k v ≡ true
local_value k (Num ty x) n h e = absurd h
local_value k (Local x) n h e = elim h [ inl s ↦ ap (λ y. not (is_name_there k.locals y)) s ∙ e | inr never ↦ absurd never ]
local_value k (Global x) n h e = absurd h

global_value : (k : Known) (v : RawVal) (w : List ℕ) → Among (global_of v) w → not (is_word_there k.symbols w) ≡ true → lacks_value k v ≡ true
global_value k (Num ty x) w h e = absurd h
global_value k (Local x) w h e = absurd h
global_value k (Global x) w h e = elim h [ inl s ↦ ap (λ y. not (is_word_there k.symbols y)) s ∙ e | inr never ↦ absurd never ]

unknown_lists : (k : Known) (named : List Made) → KnowsFirst k named → (vals : List RawVal) (blocks : List Name) (callees : List (List ℕ))
    → UsesUnknown named k.symbols (record { locals = flat_map local_of vals; blocks = blocks; symbols = flat_map global_of vals ++ callees }) → lists_lack k vals blocks callees ≡ true
unknown_lists k named knows vals blocks callees h = elim h [
  | local n there out ↦
      let r = among_flat local_of vals n (in_among (flat_map local_of vals) n there) in
      or_left _ _ (among_any (lacks_value k) vals r.0 r.1 (local_value k r.0 n r.2 (not_missing named false k.locals knows.locals n out)))
  | block n there out ↦ or_right (list_any (lacks_value k) vals) _ (or_left _ _ (among_any (lacks_block k) blocks n (in_among blocks n there) (not_missing named true k.blocks knows.blocks n out)))
  | global w there out ↦ elim (among_append (flat_map global_of vals) callees w (in_among (flat_map global_of vals ++ callees) w there)) [
    | inl v ↦ let r = among_flat global_of vals w v in or_left _ _ (among_any (lacks_value k) vals r.0 r.1 (global_value k r.0 w r.2 (not_lost k.symbols w out)))
    | inr c ↦ or_right (list_any (lacks_value k) vals) _ (or_right (list_any (lacks_block k) blocks) _ (among_any (lost k) callees w c (not_lost k.symbols w out)))
  ]
]

append_none : {X : Type 0} (xs : List X) → xs ≡ xs ++ []
append_none [] = refl
append_none (x ∷ xs) = ap (λ r. x ∷ r) (append_none xs)

abbrev term_names_long : RawTerm → Names
term_names_long t = record { locals = flat_map local_of (term_values t); blocks = term_blocks t; symbols = flat_map global_of (term_values t) ++ [] }

term_names_are : (t : RawTerm) → term_names t ≡ term_names_long t
term_names_are t = ap (λ ws. let r : Names = record { locals = flat_map local_of (term_values t); blocks = term_blocks t; symbols = ws } in r) (append_none (flat_map global_of (term_values t)))

inst_unknown : (k : Known) (named : List Made) → KnowsFirst k named → (i : RawInst) → inst_lacks k i ≡ true → UsesUnknown named k.symbols (inst_names i)
inst_unknown k named knows i e = lists_unknown k named knows (values_of i) (inst_blocks i) (callee_of i) (sym (inst_lists k i) ∙ e)

term_unknown : (k : Known) (named : List Made) → KnowsFirst k named → (t : RawTerm) → term_lacks k t ≡ true → UsesUnknown named k.symbols (term_names t)
term_unknown k named knows t e =
    let P : Names → Type 0 = λ used. UsesUnknown named k.symbols used in
    subst P (sym (term_names_are t)) (lists_unknown k named knows (term_values t) (term_blocks t) [] (sym (term_lists k t) ∙ e))

unknown_inst : (k : Known) (named : List Made) → KnowsFirst k named → (i : RawInst) → UsesUnknown named k.symbols (inst_names i) → inst_lacks k i ≡ true
unknown_inst k named knows i h = inst_lists k i ∙ unknown_lists k named knows (values_of i) (inst_blocks i) (callee_of i) h

unknown_term : (k : Known) (named : List Made) → KnowsFirst k named → (t : RawTerm) → UsesUnknown named k.symbols (term_names t) → term_lacks k t ≡ true
unknown_term k named knows t h =
    let P : Names → Type 0 = λ used. UsesUnknown named k.symbols used in
    term_lists k t ∙ unknown_lists k named knows (term_values t) (term_blocks t) [] (subst P (term_names_are t) h)

-- a line of a body that lacks a name
pub record IsLacking (k : Known) (lines : List (ℕ × Line)) (n : ℕ) : Type 0 where
  pub l : ℕ × Line
  pub among : Among lines l
  pub lacks : line_lacks k l.1 ≡ true
  pub on : l.0 ≡ n

abbrev same_state : ℕ → ℕ × Line → ℕ
same_state s l = s

abbrev lacking : Known → ℕ → ℕ × Line → Bool
lacking k s l = line_lacks k l.1

abbrev number_of : ℕ × Line → ℕ
number_of l = l.0

lacking_along : (k : Known) (ls : List (ℕ × Line)) (o : Option ℕ) → least_lacking k o ls ≡ least_along same_state (lacking k) number_of 0 o ls
lacking_along k [] o = refl
lacking_along k (l ∷ ls) o = lacking_along k ls _

along_lacking : (k : Known) (ls : List (ℕ × Line)) (n : ℕ) → FaultAlong same_state (lacking k) number_of 0 ls n → IsLacking k ls n
along_lacking k [] n h = absurd h
along_lacking k (l ∷ ls) n h = elim h [
  | inl here ↦ record { l = l; among = inl refl; lacks = here.0; on = here.1 }
  | inr there ↦ let r = along_lacking k ls n there in record { l = r.l; among = inr r.among; lacks = r.lacks; on = r.on }
]

lacking_fault : (k : Known) (ls : List (ℕ × Line)) (n : ℕ) (l : ℕ × Line) → Among ls l → line_lacks k l.1 ≡ true → l.0 ≡ n → FaultAlong same_state (lacking k) number_of 0 ls n
lacking_fault k [] n l h e on = absurd h
lacking_fault k (x ∷ xs) n l h e on = elim h [
  | inl s ↦ inl (ap (λ (y : ℕ × Line). line_lacks k y.1) s ∙ e, ap (λ (y : ℕ × Line). y.0) s ∙ on)
  | inr t ↦ inr (lacking_fault k xs n l t e on)
]

pub lacking_least : (k : Known) (ls : List (ℕ × Line)) (P : ℕ → Type 0) (o : Option ℕ) → IsLeastOf P o → IsLeastOf (λ n. P n ⊎ IsLacking k ls n) (least_lacking k o ls)
lacking_least k ls P o h =
    let F : ℕ → Type 0 = λ n. FaultAlong same_state (lacking k) number_of 0 ls n in
    let r = least_along same_state (lacking k) number_of 0 o ls in
    let along : IsLeastOf (λ n. P n ⊎ F n) r = least_along_is same_state (lacking k) number_of ls 0 P o h in
    let changed : IsLeastOf (λ n. P n ⊎ IsLacking k ls n) r = least_change (λ n. P n ⊎ F n) (λ n. P n ⊎ IsLacking k ls n) r
    (λ n e. elim e [ inl p ↦ inl p | inr f ↦ inr (along_lacking k ls n f) ])
    (λ n e. elim e [ inl p ↦ inl p | inr f ↦ inr (lacking_fault k ls n f.l f.among f.lacks f.on) ]) along in
    let R : Option ℕ → Type 0 = λ o. IsLeastOf (λ n. P n ⊎ IsLacking k ls n) o in
    subst R (sym (lacking_along k ls o)) changed

-- such a line stands in a block
in_labels : (k : Known) (o : Option LabelLine) (l : ℕ × Line) → Among (label_lines o) l → line_lacks k l.1 ≡ true → ⊥
in_labels k None l h e = absurd h
in_labels k (Some x) l h e = elim h [
  | inl s ↦ let never : false ≡ true = ap (λ (y : ℕ × Line). line_lacks k y.1) s ∙ e in absurd (cc)
  | inr never ↦ absurd never
]

pub lacking_stands : (k : Known) (named : List Made) → KnowsFirst k named → (f : FuncLines) (n : ℕ) → IsLacking k (flat_map block_lines f.blocks) n
    → (used : Names) × StandsAt f n used × UsesUnknown named k.symbols used
lacking_stands k named knows f n h =
    let b = among_flat block_lines f.blocks h.l h.among in
    let end : ℕ × Line = (b.0.end.line, said.Term b.0.end.term) in
    elim (among_append (label_lines b.0.label ++ map inst_line b.0.insts) (end ∷ []) h.l b.2) [
      | inl front ↦ elim (among_append (label_lines b.0.label) (map inst_line b.0.insts) h.l front) [
        | inl label ↦ absurd (in_labels k b.0.label h.l label h.lacks)
        | inr insts ↦
            let x = among_map inst_line b.0.insts h.l insts in
            let lacks : inst_lacks k x.0.inst ≡ true = ap (λ (y : ℕ × Line). line_lacks k y.1) x.2 ∙ h.lacks in
            (inst_names x.0.inst, inst b.0 x.0 (among_in f.blocks b.0 b.1) (among_in b.0.insts x.0 x.1) (ap (λ (y : ℕ × Line). y.0) x.2 ∙ h.on) refl, inst_unknown k named knows x.0.inst lacks)
      ]
      | inr last ↦ elim last [
        | inl s ↦
            let lacks : term_lacks k b.0.end.term ≡ true = ap (λ (y : ℕ × Line). line_lacks k y.1) s ∙ h.lacks in
            (term_names b.0.end.term, term b.0 (among_in f.blocks b.0 b.1) (ap (λ (y : ℕ × Line). y.0) s ∙ h.on) refl, term_unknown k named knows b.0.end.term lacks)
        | inr never ↦ absurd never
      ]
    ]

pub stands_lacking : (k : Known) (named : List Made) → KnowsFirst k named → (f : FuncLines) (n : ℕ) (used : Names) → StandsAt f n used → UsesUnknown named k.symbols used → IsLacking k (flat_map block_lines f.blocks) n
stands_lacking k named knows f n used s u = elim s [
  | inst b x inside there on is ↦
      let P : Names → Type 0 = λ w. UsesUnknown named k.symbols w in
      record {
        l = inst_line x;
        among = flat_among block_lines f.blocks b (inst_line x) (in_among f.blocks b inside)
            (among_left (label_lines b.label ++ map inst_line b.insts) ((b.end.line, said.Term b.end.term) ∷ []) (inst_line x)
            (among_right (label_lines b.label) (map inst_line b.insts) (inst_line x) (map_among inst_line b.insts x (in_among b.insts x there))));
        lacks = unknown_inst k named knows x.inst (subst P is u);
        on = on;
      }
  | term b inside on is ↦
      let P : Names → Type 0 = λ w. UsesUnknown named k.symbols w in
      let end : ℕ × Line = (b.end.line, said.Term b.end.term) in
      record {
        l = end;
        among = flat_among block_lines f.blocks b end (in_among f.blocks b inside) (among_right (label_lines b.label ++ map inst_line b.insts) (end ∷ []) end (inl refl));
        lacks = unknown_term k named knows b.end.term (subst P is u);
        on = on;
      }
]
