-- Lines of instructions and terminators.
use Rattle.std.proofs.Common.{◌≡◌, ℕ, false, List, [], ◌∷◌, ◌++◌, Option, Some, None, MatchOption, drop, refl, sym, ap, subst, ◌∙◌}
use Rattle.ms_lex.specs.declared.token.Token.{Token}
use Rattle.ms_ir.specs.declared.names.Name.{Name}
use Rattle.ms_ir.specs.declared.names.Name.TheVariants as name
use Rattle.ms_grammar.specs.Words.{spelling, cast_word}
use Rattle.ms_grammar.specs.Limits.{IsSmallInst}
use Rattle.ms_grammar.specs.Parts.{Part, blank, Spells, texts, bytes_at}
use Rattle.ms_grammar.specs.Form.{Scale, no_scale, word_part, local_part, inst_parts, term_parts, result_parts, name_text}
use Rattle.ms_grammar.specs.Fits.{IsMade, IsNamed, MayBeNamed, FitsInst}
use Rattle.ms_grammar.specs.declared.line.Line.{Line}
use Rattle.ms_grammar.specs.declared.line.Line.TheVariants as said
use Rattle.ms_grammar.specs.declared.line.RawInst.{RawInst}
use Rattle.ms_grammar.specs.declared.line.RawInst.TheVariants.{Alloca, Gep, Step, Load, Store, Copy, Call, Bin, Cmp, Select, Cast, Phi}
use Rattle.ms_grammar.specs.declared.line.RawTerm.{RawTerm}
use Rattle.ms_grammar.specs.declared.keyword.Keyword.TheVariants as word
use Rattle.ms_grammar.proofs.Both.{skip_blank, starts_with, name_one, behind_first}
use Rattle.ms_grammar.proofs.Leads.{inst_lead, lead_is, lead_of, a_bin, a_gep, a_call, rest_of}
use Rattle.ms_grammar.proofs.Instructions.{inst_one}
use Rattle.ms_line_insts.specs.Found.{SpellInst, SpellTerm, is_alloca}
use Rattle.ms_line.specs.Sorts.{sort_of_inst}
use Rattle.ms_line.specs.Shapes.{shape_of}
use Rattle.ms_line.specs.Spelled.{SpellLine, TellsLine, Finds, FindsMade, FindsNamed, named_inst_parts}
use Rattle.ms_line.specs.declared.sort.Sort.TheVariants as sort
use Rattle.ms_line.specs.declared.shape.Shape.TheVariants as shape
use Rattle.ms_line.specs.declared.found.Said.{Said}
use Rattle.ms_line.specs.declared.found.Said.TheVariants.{Whole, Past}
use Rattle.ms_line.proofs.Cells.{put_blank, put_token, put_first, peel, behind_token, no_token, heads}

-- names
pub may_named : (n : Name) → MayBeNamed n → (n ≡ name.Absent → ⊥) → IsNamed n
may_named (name.Word text) h some = h
may_named (name.Number n) h some = h
may_named name.Absent h some = absurd (some refl)

pub named_may : (n : Name) → IsNamed n → MayBeNamed n
named_may (name.Word text) h = h
named_may (name.Number n) h = h
named_may name.Absent h = absurd h

pub named_some : (n : Name) → IsNamed n → n ≡ name.Absent → ⊥
named_some (name.Word text) h e = cc
named_some (name.Number n) h e = cc
named_some name.Absent h e = h

-- a result that is named has a name that may stand there
pub made_named : (n : Name) (i : RawInst) → (n ≡ name.Absent → ⊥) → IsMade n i → IsNamed n
made_named n (Alloca _ _ _) some h = h
made_named n (Gep _ _ _ _ _) some h = h
made_named n (Step _ _ _ _ _ _) some h = h
made_named n (Load _ _ _) some h = h
made_named n (Store _ _ _ _) some h = absurd (some h)
made_named n (Copy _ _ _ _ _ _) some h = absurd (some h)
made_named n (Call _ None _ _ _ _) some h = absurd (some h)
made_named n (Call _ (Some _) _ _ _ _) some h = may_named n h some
made_named n (Bin _ _ _ _ _ _) some h = h
made_named n (Cmp _ _ _ _ _ _) some h = h
made_named n (Select _ _ _ _ _) some h = h
made_named n (Cast _ _ _ _ _ _) some h = h
made_named n (Phi _ _ _) some h = h

-- tokens spell one instruction
pub one_spelled : (line : List ℕ) (tokens : List Token) (i j : RawInst) → SpellInst line tokens i → SpellInst line tokens j → i ≡ j
one_spelled line tokens i j f g = inst_one line f.scale g.scale i j f.fits g.fits (record { tokens = tokens; one = f.spelled; other = g.spelled })

-- what is told of it by another's name
pub made_found : (n : Name) (line : List ℕ) (tokens : List Token) (i : RawInst) (found : Said) → SpellInst line tokens i → IsMade n i → TellsLine (said.Inst n i) found →
    FindsMade n line tokens (Some found)
made_found n line tokens i found h made tells = (i, h, made, tells)

pub no_made : (n : Name) (line : List ℕ) (tokens : List Token) (i : RawInst) → SpellInst line tokens i → (IsMade n i → ⊥) → FindsMade n line tokens None
no_made n line tokens i h none = λ j g made. none (subst (λ k. IsMade n k) (one_spelled line tokens j i g h) made)

gep_lead : lead_of (spelling word.Getelementptr) ≡ a_gep
unfolding lead_of spelling
gep_lead = refl

lead_at : (line : List ℕ) (tokens : List Token) (i : RawInst) (s : List ℕ) (ts : List (List ℕ)) → SpellInst line tokens i → texts line tokens ≡ s ∷ ts → lead_of s ≡ lead_is i
lead_at line tokens i s ts h e =
    let lead = inst_lead line tokens h.scale i h.spelled in ap (λ t. lead_of t) (heads s lead.text ts lead.more (sym e ∙ lead.whole)) ∙ lead.tells

pub past_gep : (line : List ℕ) (tokens : List Token) (i : RawInst) (ts : List (List ℕ)) → SpellInst line tokens i → false ≡ is_alloca i → (IsSmallInst i → ⊥) →
    texts line tokens ≡ spelling word.Getelementptr ∷ ts → (n : Name) → (IsMade n i → IsNamed n) × (IsNamed n → IsMade n i) × (sort.Other ≡ sort_of_inst i)
unfolding lead_is
past_gep line tokens (Alloca a b c) ts h e past first n = absurd (cc)
past_gep line tokens (Gep _ _ _ _ _) ts h e past first n = (λ h. h, λ h. h, refl)
past_gep line tokens (Step _ _ _ _ _ _) ts h e past first n = (λ h. h, λ h. h, refl)
past_gep line tokens (Copy a b c d f g) ts h e past first n =
    absurd (let leads : a_gep ≡ a_call = sym gep_lead ∙ lead_at line tokens (Copy a b c d f g) (spelling word.Getelementptr) ts h first in cc)
past_gep line tokens (Load _ _ _) ts h e past first n = absurd (past tt)
past_gep line tokens (Store _ _ _ _) ts h e past first n = absurd (past tt)
past_gep line tokens (Call _ _ _ _ _ _) ts h e past first n = absurd (past tt)
past_gep line tokens (Bin _ _ _ _ _ _) ts h e past first n = absurd (past tt)
past_gep line tokens (Cmp _ _ _ _ _ _) ts h e past first n = absurd (past tt)
past_gep line tokens (Select _ _ _ _ _) ts h e past first n = absurd (past tt)
past_gep line tokens (Cast _ _ _ _ _ _) ts h e past first n = absurd (past tt)
past_gep line tokens (Phi _ _ _) ts h e past first n = absurd (past tt)

pub past_copy : (line : List ℕ) (tokens : List Token) (i : RawInst) → SpellInst line tokens i → false ≡ is_alloca i → (IsSmallInst i → ⊥) →
    ((ts : List (List ℕ)) × (texts line tokens ≡ spelling word.Getelementptr ∷ ts) → ⊥) →
    (n : Name) → (IsMade n i → n ≡ name.Absent) × (n ≡ name.Absent → IsMade n i) × (sort.Other ≡ sort_of_inst i)
past_copy line tokens (Alloca _ _ _) h e past first n = absurd (cc)
past_copy line tokens (Gep a b c d f) h e past first n =
    absurd (first (starts_with line tokens (spelling word.Getelementptr) (rest_of (inst_parts h.scale (Gep a b c d f))) h.spelled))
past_copy line tokens (Step a b c d f g) h e past first n =
    absurd (first (starts_with line tokens (spelling word.Getelementptr) (rest_of (inst_parts h.scale (Step a b c d f g))) h.spelled))
past_copy line tokens (Copy _ _ _ _ _ _) h e past first n = (λ h. h, λ h. h, refl)
past_copy line tokens (Load _ _ _) h e past first n = absurd (past tt)
past_copy line tokens (Store _ _ _ _) h e past first n = absurd (past tt)
past_copy line tokens (Call _ _ _ _ _ _) h e past first n = absurd (past tt)
past_copy line tokens (Bin _ _ _ _ _ _) h e past first n = absurd (past tt)
past_copy line tokens (Cmp _ _ _ _ _ _) h e past first n = absurd (past tt)
past_copy line tokens (Select _ _ _ _ _) h e past first n = absurd (past tt)
past_copy line tokens (Cast _ _ _ _ _ _) h e past first n = absurd (past tt)
past_copy line tokens (Phi _ _ _) h e past first n = absurd (past tt)

mark_lead : (n : List ℕ) → lead_of (37 ∷ n) ≡ a_bin
unfolding lead_of spelling cast_word
mark_lead n = refl

-- an instruction whose result is not named does not begin with a local
local_lead : (i : RawInst) → a_bin ≡ lead_is i → IsMade name.Absent i → ⊥
unfolding lead_is
local_lead (Store _ _ _ _) e made = cc
local_lead (Copy _ _ _ _ _ _) e made = cc
local_lead (Call _ _ _ _ _ _) e made = cc
local_lead (Alloca _ _ _) e made = absurd made
local_lead (Gep _ _ _ _ _) e made = absurd made
local_lead (Step _ _ _ _ _ _) e made = absurd made
local_lead (Load _ _ _) e made = absurd made
local_lead (Bin _ _ _ _ _ _) e made = absurd made
local_lead (Cmp _ _ _ _ _ _) e made = absurd made
local_lead (Select _ _ _ _ _) e made = absurd made
local_lead (Cast _ _ _ _ _ _) e made = absurd made
local_lead (Phi _ _ _) e made = absurd made

pub unnamed_no_local : (line : List ℕ) (tokens : List Token) (i : RawInst) (n : List ℕ) (ts : List (List ℕ)) → SpellInst line tokens i → IsMade name.Absent i →
    texts line tokens ≡ (37 ∷ n) ∷ ts → ⊥
unnamed_no_local line tokens i n ts h made e = local_lead i (sym (mark_lead n) ∙ lead_at line tokens i (37 ∷ n) ts h e) made

-- behind the name of a result
pub named_found : (n : Name) (line : List ℕ) (tokens : List Token) (ts : List (List ℕ)) (found : Said) → texts line tokens ≡ spelling word.Equals ∷ ts →
    FindsMade n line (drop 1 tokens) (Some found) → FindsNamed n line tokens (Some found)
named_found n line tokens ts found e h =
    let i = h.0 in
    let s = h.1.scale in (
      s,
      i,
      put_blank line tokens (word_part word.Equals ∷ blank ∷ inst_parts s i)
          (put_first line tokens (spelling word.Equals) ts (blank ∷ inst_parts s i) e (put_blank line (drop 1 tokens) (inst_parts s i) h.1.spelled)),
      h.1.fits,
      h.2,
      h.3,
    )

behind_equals : (line : List ℕ) (tokens : List Token) (s : Scale) (i : RawInst) → Spells line tokens (named_inst_parts s i) → FitsInst s i → SpellInst line (drop 1 tokens) i
behind_equals line tokens s i h fits = record {
  scale = s;
  spelled = skip_blank line (drop 1 tokens) (inst_parts s i)
      (behind_token line tokens (spelling word.Equals) (blank ∷ inst_parts s i) (skip_blank line tokens (word_part word.Equals ∷ blank ∷ inst_parts s i) h));
  fits = fits;
}

pub no_named : (n : Name) (line : List ℕ) (tokens : List Token) → FindsMade n line (drop 1 tokens) None → FindsNamed n line tokens None
no_named n line tokens none = λ s i h fits made. none i (behind_equals line tokens s i h fits) made

pub no_equals : (n : Name) (line : List ℕ) (tokens : List Token) → ((ts : List (List ℕ)) × (texts line tokens ≡ spelling word.Equals ∷ ts) → ⊥) → FindsNamed n line tokens None
no_equals n line tokens none = λ s i h fits made.
    none (starts_with line tokens (spelling word.Equals) (blank ∷ inst_parts s i) (skip_blank line tokens (word_part word.Equals ∷ blank ∷ inst_parts s i) h))

-- the line of an instruction
unblanked : (line : List ℕ) (tokens : List Token) (ps : List Part) → Spells line tokens (blank ∷ blank ∷ ps) → Spells line tokens ps
unblanked line tokens ps h = skip_blank line tokens ps (skip_blank line tokens (blank ∷ ps) h)

put_blanks : (line : List ℕ) (tokens : List Token) (ps : List Part) → Spells line tokens ps → Spells line tokens (blank ∷ blank ∷ ps)
put_blanks line tokens ps h = put_blank line tokens (blank ∷ ps) (put_blank line tokens ps h)

-- the name of a result, and what stands behind it
named_parts_of : (n : Name) (ps : List Part) → IsNamed n → result_parts n ++ ps ≡ local_part n ∷ blank ∷ word_part word.Equals ∷ blank ∷ ps
named_parts_of (name.Word text) ps h = refl
named_parts_of (name.Number n) ps h = refl
named_parts_of name.Absent ps h = absurd h

pub inst_named : (line : List ℕ) (tokens rest : List Token) (t : Token) (n : Name) (found : Said) → tokens ≡ t ∷ rest → IsNamed n → bytes_at line t ≡ 37 ∷ name_text n →
    FindsNamed n line rest (Some found) → Finds shape.Inst line tokens (Some found)
inst_named line tokens rest t n found e named b h =
    let s = h.0 in
    let i = h.1 in (
      said.Inst n i,
      record {
        scale = s;
        spelled = put_blanks line tokens (result_parts n ++ inst_parts s i)
            (subst (λ ps. Spells line tokens ps) (sym (named_parts_of n (inst_parts s i) named)) (put_token line tokens rest t (37 ∷ name_text n) (named_inst_parts s i) e b h.2));
        fits = (h.4, h.3);
      },
      h.5,
    )

pub inst_unnamed : (line : List ℕ) (tokens : List Token) (found : Said) → FindsMade name.Absent line tokens (Some found) → Finds shape.Inst line tokens (Some found)
inst_unnamed line tokens found h =
    (said.Inst name.Absent h.0, record { scale = h.1.scale; spelled = put_blanks line tokens (inst_parts h.1.scale h.0) h.1.spelled; fits = (h.2, h.1.fits) }, h.3)

-- a line of an instruction by the name of its result
pub record OnlyInst (line : List ℕ) (tokens : List Token) : Type 0 where
  pub name : Name
  pub inst : RawInst
  pub scale : Scale
  pub spelled : Spells line tokens (result_parts name ++ inst_parts scale inst)
  pub made : IsMade name inst
  pub fits : FitsInst scale inst

pub no_inst : (line : List ℕ) (tokens : List Token) → (OnlyInst line tokens → ⊥) → Finds shape.Inst line tokens None
no_inst line tokens none = λ w s e. by_line w s e
  where
    by_line : (w : Line) → SpellLine line tokens w → shape_of w ≡ shape.Inst → ⊥
    by_line (said.Inst n i) s e =
        none (record { name = n; inst = i; scale = s.scale; spelled = unblanked line tokens (result_parts n ++ inst_parts s.scale i) s.spelled; made = s.fits.0; fits = s.fits.1 })
    by_line w s e = cc

-- tokens that begin with a local
pub no_inst_named : (line : List ℕ) (tokens rest : List Token) (t : Token) (n : Name) → tokens ≡ t ∷ rest → IsNamed n → bytes_at line t ≡ 37 ∷ name_text n →
    FindsNamed n line rest None → OnlyInst line tokens → ⊥
no_inst_named line tokens rest t n e named b none h = by_name h.name refl
  where
    shown : texts line tokens ≡ (37 ∷ name_text n) ∷ texts line rest
    shown = ap (λ ts. texts line ts) e ∙ ap (λ c. c ∷ texts line rest) b

    with_name : (m : Name) → h.name ≡ m → IsNamed m → ⊥
    with_name m same m_named =
        let parts = subst (λ x. Spells line tokens (result_parts x ++ inst_parts h.scale h.inst)) same h.spelled in
        let cells = subst (λ ps. Spells line tokens ps) (named_parts_of m (inst_parts h.scale h.inst) m_named) parts in
        let first = peel line tokens rest t (37 ∷ name_text m) (named_inst_parts h.scale h.inst) e cells in
        let names : m ≡ n = name_one m n m_named named (behind_first 37 37 (name_text m) (name_text n) (sym first.bytes ∙ b)) in
        none h.scale h.inst first.spelled h.fits (subst (λ x. IsMade x h.inst) (same ∙ names) h.made)

    by_name : (m : Name) → h.name ≡ m → ⊥
    by_name (name.Word text) same = with_name (name.Word text) same (made_named (name.Word text) h.inst (λ x. cc) (subst (λ x. IsMade x h.inst) same h.made))
    by_name (name.Number k) same = with_name (name.Number k) same (made_named (name.Number k) h.inst (λ x. cc) (subst (λ x. IsMade x h.inst) same h.made))
    by_name name.Absent same =
        unnamed_no_local line tokens h.inst (name_text n) (texts line rest)
        (record { scale = h.scale; spelled = subst (λ x. Spells line tokens (result_parts x ++ inst_parts h.scale h.inst)) same h.spelled; fits = h.fits })
        (subst (λ x. IsMade x h.inst) same h.made) shown

-- tokens that begin with none
pub no_inst_unnamed : (line : List ℕ) (tokens rest : List Token) (t : Token) → tokens ≡ t ∷ rest → ((n : Name) → IsNamed n → bytes_at line t ≡ 37 ∷ name_text n → ⊥) →
    FindsMade name.Absent line tokens None → OnlyInst line tokens → ⊥
no_inst_unnamed line tokens rest t e no_local none h = by_name h.name refl
  where
    with_name : (m : Name) → h.name ≡ m → IsNamed m → ⊥
    with_name m same m_named =
        let parts = subst (λ x. Spells line tokens (result_parts x ++ inst_parts h.scale h.inst)) same h.spelled in
        let cells = subst (λ ps. Spells line tokens ps) (named_parts_of m (inst_parts h.scale h.inst) m_named) parts in
        no_local m m_named (peel line tokens rest t (37 ∷ name_text m) (named_inst_parts h.scale h.inst) e cells).bytes

    by_name : (m : Name) → h.name ≡ m → ⊥
    by_name (name.Word text) same = with_name (name.Word text) same (made_named (name.Word text) h.inst (λ x. cc) (subst (λ x. IsMade x h.inst) same h.made))
    by_name (name.Number k) same = with_name (name.Number k) same (made_named (name.Number k) h.inst (λ x. cc) (subst (λ x. IsMade x h.inst) same h.made))
    by_name name.Absent same =
        none h.inst (record { scale = h.scale; spelled = subst (λ x. Spells line tokens (result_parts x ++ inst_parts h.scale h.inst)) same h.spelled; fits = h.fits })
        (subst (λ x. IsMade x h.inst) same h.made)

-- no tokens are no line of an instruction
pub no_tokens_inst : (line : List ℕ) (tokens : List Token) → tokens ≡ [] → OnlyInst line tokens → ⊥
no_tokens_inst line tokens e h = by_name h.name refl
  where
    with_name : (m : Name) → h.name ≡ m → IsNamed m → ⊥
    with_name m same m_named =
        let parts = subst (λ x. Spells line tokens (result_parts x ++ inst_parts h.scale h.inst)) same h.spelled in
        let cells = subst (λ ps. Spells line tokens ps) (named_parts_of m (inst_parts h.scale h.inst) m_named) parts in
        no_token line tokens (37 ∷ name_text m) (named_inst_parts h.scale h.inst) e cells

    by_name : (m : Name) → h.name ≡ m → ⊥
    by_name (name.Word text) same = with_name (name.Word text) same (made_named (name.Word text) h.inst (λ x. cc) (subst (λ x. IsMade x h.inst) same h.made))
    by_name (name.Number k) same = with_name (name.Number k) same (made_named (name.Number k) h.inst (λ x. cc) (subst (λ x. IsMade x h.inst) same h.made))
    by_name name.Absent same =
        let lead = inst_lead line tokens h.scale h.inst (subst (λ x. Spells line tokens (result_parts x ++ inst_parts h.scale h.inst)) same h.spelled) in
        let cells : [] ≡ lead.text ∷ lead.more = sym (ap (λ ts. texts line ts) e) ∙ lead.whole in
        cc

-- the line of a terminator
pub term_found : (line : List ℕ) (tokens : List Token) (i : RawTerm) → SpellTerm line tokens i → Finds shape.Term line tokens (Some (Whole (said.Term i)))
term_found line tokens i h = (said.Term i, record { scale = no_scale; spelled = put_blanks line tokens (term_parts i) h.spelled; fits = h.fits }, (refl, tt))

-- what is told in either case
pub whole_told : (n : Name) (line : List ℕ) (tokens : List Token) (i : RawInst) (found : Option Said) → SpellInst line tokens i → IsSmallInst i →
    MatchOption found (IsMade n i → ⊥) (λ s. IsMade n i × (s ≡ Whole (said.Inst n i))) → FindsMade n line tokens found
whole_told n line tokens i None h small told = no_made n line tokens i h told
whole_told n line tokens i (Some s) h small told = made_found n line tokens i s h told.0 (subst (λ x. TellsLine (said.Inst n i) x) (sym told.1) (refl, small))

pub past_told : (n : Name) (line : List ℕ) (tokens : List Token) (i : RawInst) (found : Option Said) → SpellInst line tokens i → (IsSmallInst i → ⊥) →
    MatchOption found (IsMade n i → ⊥) (λ s. IsMade n i × (s ≡ Past (sort_of_inst i))) → FindsMade n line tokens found
past_told n line tokens i None h past told = no_made n line tokens i h told
past_told n line tokens i (Some s) h past told = made_found n line tokens i s h told.0 (subst (λ x. TellsLine (said.Inst n i) x) (sym told.1) (refl, past))

pub named_told : (n : Name) (line : List ℕ) (tokens rest : List Token) (ts : List (List ℕ)) (found : Option Said) → texts line tokens ≡ spelling word.Equals ∷ ts → rest ≡ drop 1 tokens →
    FindsMade n line rest found → FindsNamed n line tokens found
named_told n line tokens rest ts None e f h = no_named n line tokens (subst (λ r. FindsMade n line r None) f h)
named_told n line tokens rest ts (Some s) e f h = named_found n line tokens ts s e (subst (λ r. FindsMade n line r (Some s)) f h)

pub inst_named_told : (line : List ℕ) (tokens rest : List Token) (t : Token) (n : Name) (found : Option Said) → tokens ≡ t ∷ rest → IsNamed n → bytes_at line t ≡ 37 ∷ name_text n →
    FindsNamed n line rest found → Finds shape.Inst line tokens found
inst_named_told line tokens rest t n None e named b h = no_inst line tokens (no_inst_named line tokens rest t n e named b h)
inst_named_told line tokens rest t n (Some s) e named b h = inst_named line tokens rest t n s e named b h

pub inst_unnamed_told : (line : List ℕ) (tokens rest : List Token) (t : Token) (found : Option Said) → tokens ≡ t ∷ rest →
    ((n : Name) → IsNamed n → bytes_at line t ≡ 37 ∷ name_text n → ⊥) → FindsMade name.Absent line tokens found → Finds shape.Inst line tokens found
inst_unnamed_told line tokens rest t None e none h = no_inst line tokens (no_inst_unnamed line tokens rest t e none h)
inst_unnamed_told line tokens rest t (Some s) e none h = inst_unnamed line tokens s h
