-- Lines that pass a limit, where an instruction is wanted.
use Rattle.std.proofs.Common.{◌≡◌, ℕ, Bool, true, false, List, [], ◌∷◌, ◌++◌, drop, refl, sym, ap, subst, ◌∙◌}
use Rattle.std.specs.Prelude.{IsTrue, ◌↔◌}
use Rattle.std.proofs.lemmas.Bool.{false≢true}
use Rattle.ms_lex.specs.Line.{IsTokens}
use Rattle.ms_lex.specs.declared.token.Token.{Token}
use Rattle.ms_lex.proofs.OneList.{one_list}
use Rattle.ms_ir.specs.declared.names.Name.{Name}
use Rattle.ms_ir.specs.declared.names.Name.TheVariants as name
use Rattle.ms_ir.specs.Module.{ModuleState}
use Rattle.ms_grammar.specs.Limits.{IsSmallInst}
use Rattle.ms_grammar.specs.Words.{spelling}
use Rattle.ms_grammar.specs.Parts.{Part, blank, Spells, bytes_at, texts}
use Rattle.ms_grammar.specs.Form.{Scale, form, word_part, local_part, inst_parts, result_parts, name_text}
use Rattle.ms_grammar.specs.Fits.{IsNamed, IsMade, FitsInst}
use Rattle.ms_grammar.specs.Grammar.{Says}
use Rattle.ms_grammar.specs.declared.line.Line.{Line}
use Rattle.ms_grammar.specs.declared.line.Line.TheVariants as said
use Rattle.ms_grammar.specs.declared.line.RawInst.{RawInst}
use Rattle.ms_grammar.specs.declared.line.RawInst.TheVariants.{Alloca, Gep, Load, Store, Copy, Call, Bin, Cmp, Select, Cast, Phi}
use Rattle.ms_grammar.specs.declared.keyword.Keyword.TheVariants as word
use Rattle.ms_grammar.proofs.Both.{skip_blank, name_one, behind_first}
use Rattle.ms_grammar.proofs.OneLine.{one_line}
use Rattle.ms_line_insts.specs.Found.{SpellInst, Tells}
use Rattle.ms_line_insts.specs.declared.found.FoundInst.TheVariants.{Past}
use Rattle.ms_line.specs.Sorts.{sort_of, sort_of_inst, IsOfSort}
use Rattle.ms_line.specs.Spelled.{named_inst_parts}
use Rattle.ms_line.proofs.Cells.{peel, no_token, behind_token}
use Rattle.ms_line.proofs.InstLines.{OnlyInst, made_named, one_spelled, unnamed_no_local}
use Rattle.ms_read.specs.Places.{is_inst}
use Rattle.ms_script.specs.Calls.{CallsAsThere}
use Rattle.ms_script.specs.Lines.{IsResultName}
use Rattle.ms_script.specs.Found.{SaysFitting}

-- what passes a limit of its own calls nothing
pub past_calls : (m : ModuleState) (i : RawInst) → (IsSmallInst i → ⊥) → CallsAsThere m i
past_calls m (Call _ _ _ _ _ _) past = absurd (past tt)
past_calls m i past = tt

-- tokens spell one instruction, and what is known of it
pub same_calls : (m : ModuleState) (line : List ℕ) (tokens : List Token) (i j : RawInst) → SpellInst line tokens i → SpellInst line tokens j → CallsAsThere m i → CallsAsThere m j
same_calls m line tokens i j a b h = subst (λ x. CallsAsThere m x) (one_spelled line tokens i j a b) h

-- an equals sign stands in front of an instruction
pub behind_equals : (line : List ℕ) (tokens rest : List Token) (t : Token) (s : Scale) (i : RawInst) → tokens ≡ t ∷ rest → Spells line tokens (named_inst_parts s i) → FitsInst s i → SpellInst line rest i
behind_equals line tokens rest t s i e h fits = record {
  scale = s;
  spelled = skip_blank line rest (inst_parts s i)
      (peel line tokens rest t (spelling word.Equals) (blank ∷ inst_parts s i) e (skip_blank line tokens (word_part word.Equals ∷ blank ∷ inst_parts s i) h)).spelled;
  fits = fits;
}

pub no_equals_there : (line : List ℕ) (tokens : List Token) (s : Scale) (i : RawInst) → tokens ≡ [] → Spells line tokens (named_inst_parts s i) → ⊥
no_equals_there line tokens s i e h = no_token line tokens (spelling word.Equals) (blank ∷ inst_parts s i) e (skip_blank line tokens (word_part word.Equals ∷ blank ∷ inst_parts s i) h)

-- the name of a result, and what stands behind it
named_parts_of : (n : Name) (ps : List Part) → IsNamed n → result_parts n ++ ps ≡ local_part n ∷ blank ∷ word_part word.Equals ∷ blank ∷ ps
named_parts_of (name.Word text) ps h = refl
named_parts_of (name.Number n) ps h = refl
named_parts_of name.Absent ps h = absurd h

is_named : (n : Name) (i : RawInst) → IsMade n i → (n ≡ name.Absent → ⊥) → IsNamed n
is_named n i made some = made_named n i some made

-- a line of an instruction that begins with a local
pub record IsNamedSo (line : List ℕ) (rest : List Token) (n : Name) (h : Name) (s : Scale) (i : RawInst) : Type 0 where
  pub name_is : h ≡ n
  pub behind : Spells line rest (named_inst_parts s i)

pub named_so : (line : List ℕ) (tokens rest : List Token) (t : Token) (n : Name) (h : OnlyInst line tokens) → tokens ≡ t ∷ rest → IsNamed n → bytes_at line t ≡ 37 ∷ name_text n
    → IsNamedSo line rest n h.name h.scale h.inst
named_so line tokens rest t n h e named b = by_name h.name refl
  where
    with_name : (m : Name) → h.name ≡ m → IsNamed m → IsNamedSo line rest n h.name h.scale h.inst
    with_name m same m_named =
        let parts = subst (λ x. Spells line tokens (result_parts x ++ inst_parts h.scale h.inst)) same h.spelled in
        let cells = subst (λ ps. Spells line tokens ps) (named_parts_of m (inst_parts h.scale h.inst) m_named) parts in
        let first = peel line tokens rest t (37 ∷ name_text m) (named_inst_parts h.scale h.inst) e cells in
        record { name_is = same ∙ name_one m n m_named named (behind_first 37 37 (name_text m) (name_text n) (sym first.bytes ∙ b)); behind = first.spelled }

    by_name : (m : Name) → h.name ≡ m → IsNamedSo line rest n h.name h.scale h.inst
    by_name (name.Word text) same = with_name (name.Word text) same (is_named (name.Word text) h.inst (subst (λ x. IsMade x h.inst) same h.made) (λ x. cc))
    by_name (name.Number k) same = with_name (name.Number k) same (is_named (name.Number k) h.inst (subst (λ x. IsMade x h.inst) same h.made) (λ x. cc))
    by_name name.Absent same = absurd (
        unnamed_no_local line tokens h.inst (name_text n) (texts line rest)
        (record { scale = h.scale; spelled = subst (λ x. Spells line tokens (result_parts x ++ inst_parts h.scale h.inst)) same h.spelled; fits = h.fits })
        (subst (λ x. IsMade x h.inst) same h.made) (ap (λ ts. texts line ts) e ∙ ap (λ c. c ∷ texts line rest) b))

-- a line of an instruction that begins with no local
pub record IsUnnamed (line : List ℕ) (tokens : List Token) (h : Name) (i : RawInst) : Type 0 where
  pub name_is : h ≡ name.Absent
  pub whole : SpellInst line tokens i

pub unnamed_so : (line : List ℕ) (tokens rest : List Token) (t : Token) (h : OnlyInst line tokens) → tokens ≡ t ∷ rest → ((n : Name) → IsNamed n → bytes_at line t ≡ 37 ∷ name_text n → ⊥)
    → IsUnnamed line tokens h.name h.inst
unnamed_so line tokens rest t h e no_local = by_name h.name refl
  where
    with_name : (m : Name) → h.name ≡ m → IsNamed m → ⊥
    with_name m same m_named =
        let parts = subst (λ x. Spells line tokens (result_parts x ++ inst_parts h.scale h.inst)) same h.spelled in
        let cells = subst (λ ps. Spells line tokens ps) (named_parts_of m (inst_parts h.scale h.inst) m_named) parts in
        no_local m m_named (peel line tokens rest t (37 ∷ name_text m) (named_inst_parts h.scale h.inst) e cells).bytes

    by_name : (m : Name) → h.name ≡ m → IsUnnamed line tokens h.name h.inst
    by_name (name.Word text) same = absurd (with_name (name.Word text) same (is_named (name.Word text) h.inst (subst (λ x. IsMade x h.inst) same h.made) (λ x. cc)))
    by_name (name.Number k) same = absurd (with_name (name.Number k) same (is_named (name.Number k) h.inst (subst (λ x. IsMade x h.inst) same h.made) (λ x. cc)))
    by_name name.Absent same = record {
      name_is = same;
      whole = record { scale = h.scale; spelled = subst (λ x. Spells line tokens (result_parts x ++ inst_parts h.scale h.inst)) same h.spelled; fits = h.fits };
    }

-- lines of instructions are told by their sort
inst_sort : (i : RawInst) → is_inst (sort_of_inst i) ≡ true
inst_sort (Alloca _ _ _) = refl
inst_sort (Phi _ _ _) = refl
inst_sort i = refl

pub not_inst : (m : ModuleState) (line : List ℕ) (written : Line) → Says line written → is_inst (sort_of written) ≡ false → SaysFitting m line → ⊥
not_inst m line written says e h =
    let same : written ≡ said.Inst h.result h.inst = one_line line written (said.Inst h.result h.inst) says h.says in
    let sort : is_inst (sort_of written) ≡ true = ap (λ l. is_inst (sort_of l)) same ∙ inst_sort h.inst in
    cc

-- the line of an instruction, by its tokens
unblanked : (line : List ℕ) (tokens : List Token) (ps : List Part) → Spells line tokens (blank ∷ blank ∷ ps) → Spells line tokens ps
unblanked line tokens ps h = skip_blank line tokens ps (skip_blank line tokens (blank ∷ ps) h)

only_of : (line : List ℕ) (tokens : List Token) (n : Name) (i : RawInst) → IsTokens line tokens → (s : Says line (said.Inst n i))
    → Spells line tokens (form s.scale (said.Inst n i)) → OnlyInst line tokens
only_of line tokens n i are s spelled =
    record { name = n; inst = i; scale = s.scale; spelled = unblanked line tokens (result_parts n ++ inst_parts s.scale i) spelled; made = s.fits.0; fits = s.fits.1 }

on_tokens : (line : List ℕ) (tokens : List Token) (l : Line) → IsTokens line tokens → (s : Says line l) → Spells line tokens (form s.scale l)
on_tokens line tokens l are s = subst (λ ts. Spells line ts (form s.scale l)) (one_list line s.tokens tokens s.are_tokens are) s.spelled

-- what is told by the tokens of a line is told of the line
told_so : (m : ModuleState) (line : List ℕ) (tokens : List Token) (n : Name) (i : RawInst) (fits : Bool) (says : Says line (said.Inst n i))
    → (IsTrue fits ↔ (IsResultName n × CallsAsThere m i)) → IsTrue fits ↔ SaysFitting m line
told_so m line tokens n i fits says told = (
  λ t. (let both = told.0 t in record { inst = i; result = n; says = says; named = both.0; called = both.1 }),
  λ f. (let same : said.Inst f.result f.inst ≡ said.Inst n i = one_line line (said.Inst f.result f.inst) (said.Inst n i) f.says says in
      let name_is : f.result ≡ n = cc in
      let inst_is : f.inst ≡ i = cc in
      told.1 (subst IsResultName name_is f.named, subst (λ x. CallsAsThere m x) inst_is f.called)),
)

pub fitting_told : (m : ModuleState) (line : List ℕ) (tokens : List Token) (written : Line) (fits : Bool) → IsTokens line tokens → Says line written → is_inst (sort_of written) ≡ true
    → ((h : OnlyInst line tokens) → (IsTrue fits ↔ (IsResultName h.name × CallsAsThere m h.inst))) → IsTrue fits ↔ SaysFitting m line
unfolding only_of
fitting_told m line tokens (said.Inst n i) fits are says e told =
    told_so m line tokens n i fits says (told (only_of line tokens n i are says (on_tokens line tokens (said.Inst n i) are says)))
fitting_told m line tokens written fits are says e told = absurd (cc)

-- what is known of one instruction that the tokens spell is known of each
pub there_told : (m : ModuleState) (line : List ℕ) (tokens : List Token) (i j : RawInst) (fits : Bool) → SpellInst line tokens i → SpellInst line tokens j
    → (IsTrue fits ↔ CallsAsThere m i) → IsTrue fits ↔ CallsAsThere m j
there_told m line tokens i j fits a b told = (λ t. same_calls m line tokens i j a b (told.0 t), λ h. told.1 (same_calls m line tokens j i b a h))

pub number_told : (m : ModuleState) (a n : Name) (i : RawInst) → a ≡ n → (IsResultName n → ⊥) → IsTrue false ↔ (IsResultName a × CallsAsThere m i)
number_told m a n i e none = (λ t. absurd (false≢true t), λ h. absurd (none (subst IsResultName e h.0)))

pub named_told : (m : ModuleState) (a n : Name) (i : RawInst) (fits : Bool) → a ≡ n → IsResultName n → (IsTrue fits ↔ CallsAsThere m i) → IsTrue fits ↔ (IsResultName a × CallsAsThere m i)
named_told m a n i fits e is told = (λ t. (subst IsResultName (sym e) is, told.0 t), λ h. told.1 h.1)

-- where a name is no word or none can be decided
pub is_word : (n : Name) (t : Bool) → (IsTrue t ↔ (IsResultName n → ⊥)) → t ≡ false → IsResultName n
is_word (name.Word text) t told e = tt
is_word (name.Number k) t told e = absurd (false≢true (sym e ∙ told.1 (λ h. h)))
is_word name.Absent t told e = tt
