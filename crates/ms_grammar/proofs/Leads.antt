-- The first word of an instruction tells its form.
use Rattle.std.proofs.Common.{◌≡◌, ℕ, false, List, [], ◌∷◌, ◌++◌, if◌then◌else◌, refl, sym, ap, ◌∙◌, inl, inr, append_assoc}
use Rattle.std.specs.Str.{bytes_eq}
use Rattle.std.specs.List.{list_any}
use Rattle.ms_lex.specs.declared.token.Token.{Token}
use Rattle.ms_ir.specs.declared.inst.Op.{Op}
use Rattle.ms_ir.specs.declared.inst.Op.TheVariants.{Add, Sub, Mul, And, Or, Xor, Shl, Lshr, Ashr}
use Rattle.ms_ir.specs.declared.inst.CastOp.{CastOp}
use Rattle.ms_ir.specs.declared.inst.CastOp.TheVariants.{Zext, Sext, Trunc}
use Rattle.ms_grammar.specs.Words.{spelling, op_word, cast_word}
use Rattle.ms_grammar.specs.Kept.{IsCallMark}
use Rattle.ms_grammar.specs.Kept.IsCallMark.{plain as mark_plain, tail as mark_tail, no_tail as mark_no_tail}
use Rattle.ms_grammar.specs.Parts.{Part, token, Spells, texts}
use Rattle.ms_grammar.specs.Form.{Scale, inst_parts}
use Rattle.ms_grammar.specs.declared.line.RawInst.{RawInst}
use Rattle.ms_grammar.specs.declared.line.RawInst.TheVariants.{Alloca, Gep, Step, Load, Store, Copy, Call, Bin, Cmp, Select, Cast, Phi}
use Rattle.ms_grammar.specs.declared.keyword.Keyword.TheVariants as word
use Rattle.ms_grammar.proofs.Steps.{tells}
use Rattle.ms_grammar.proofs.Both.{Both, starts_with, texts_append}
use Rattle.ms_grammar.proofs.Calls.{regroup}

-- the forms of instructions; calls and memcpys begin alike, and none begins with `type`
pub data Lead : Type 0 where
  an_alloca : Lead
  a_gep : Lead
  a_load : Lead
  a_store : Lead
  a_call : Lead
  a_bin : Lead
  a_cmp : Lead
  a_select : Lead
  a_cast : Lead
  a_phi : Lead
  no_lead : Lead

unfoldable pub lead_of : List ℕ → Lead
lead_of s =
    if bytes_eq s (spelling word.Alloca) then an_alloca
    else (if bytes_eq s (spelling word.Getelementptr) then a_gep
    else (if bytes_eq s (spelling word.Load) then a_load
    else (if bytes_eq s (spelling word.Store) then a_store
    else (if list_any (bytes_eq s) (spelling word.Call ∷ spelling word.Tail ∷ spelling word.NoTail ∷ []) then a_call
    else (if bytes_eq s (spelling word.Icmp) then a_cmp
    else (if bytes_eq s (spelling word.Select) then a_select
    else (if list_any (bytes_eq s) (cast_word Zext ∷ cast_word Sext ∷ cast_word Trunc ∷ []) then a_cast
    else (if bytes_eq s (spelling word.Phi) then a_phi
    else (if bytes_eq s (spelling word.TypeOf) then no_lead
    else a_bin)))))))))

unfoldable pub lead_is : RawInst → Lead
lead_is (Alloca _ _ _) = an_alloca
lead_is (Gep _ _ _ _ _) = a_gep
lead_is (Step _ _ _ _ _ _) = a_gep
lead_is (Load _ _ _) = a_load
lead_is (Store _ _ _ _) = a_store
lead_is (Copy _ _ _ _ _ _) = a_call
lead_is (Call _ _ _ _ _ _) = a_call
lead_is (Bin _ _ _ _ _ _) = a_bin
lead_is (Cmp _ _ _ _ _ _) = a_cmp
lead_is (Select _ _ _ _ _) = a_select
lead_is (Cast _ _ _ _ _ _) = a_cast
lead_is (Phi _ _ _) = a_phi

-- the first token of an instruction's form
pub record IsLead (line : List ℕ) (tokens : List Token) (lead : Lead) : Type 0 where
  pub text : List ℕ
  pub more : List (List ℕ)
  pub whole : texts line tokens ≡ text ∷ more
  pub tells : lead_of text ≡ lead

by_token : (line : List ℕ) (tokens : List Token) (s : List ℕ) (ps : List Part) (lead : Lead) → lead_of s ≡ lead → Spells line tokens (token s ∷ ps) → IsLead line tokens lead
by_token line tokens s ps lead e h = let first = starts_with line tokens s ps h in record { text = s; more = first.0; whole = first.1; tells = e }

op_lead : (op : Op) → lead_of (op_word op) ≡ a_bin
unfolding lead_of op_word cast_word spelling
op_lead Add = refl
op_lead Sub = refl
op_lead Mul = refl
op_lead And = refl
op_lead Or = refl
op_lead Xor = refl
op_lead Shl = refl
op_lead Lshr = refl
op_lead Ashr = refl

cast_lead : (op : CastOp) → lead_of (cast_word op) ≡ a_cast
unfolding lead_of cast_word spelling
cast_lead Zext = refl
cast_lead Sext = refl
cast_lead Trunc = refl

alloca_lead : lead_of (spelling word.Alloca) ≡ an_alloca
unfolding lead_of spelling
alloca_lead = refl

gep_lead : lead_of (spelling word.Getelementptr) ≡ a_gep
unfolding lead_of spelling
gep_lead = refl

load_lead : lead_of (spelling word.Load) ≡ a_load
unfolding lead_of spelling
load_lead = refl

store_lead : lead_of (spelling word.Store) ≡ a_store
unfolding lead_of spelling
store_lead = refl

icmp_lead : lead_of (spelling word.Icmp) ≡ a_cmp
unfolding lead_of spelling
icmp_lead = refl

select_lead : lead_of (spelling word.Select) ≡ a_select
unfolding lead_of spelling
select_lead = refl

phi_lead : lead_of (spelling word.Phi) ≡ a_phi
unfolding lead_of spelling cast_word
phi_lead = refl

call_lead : (lead_of (spelling word.Call) ≡ a_call) × (lead_of (spelling word.Tail) ≡ a_call) × (lead_of (spelling word.NoTail) ≡ a_call)
unfolding lead_of spelling
call_lead = (refl, refl, refl)

by_mark : (line : List ℕ) (tokens mark rest : List Token) → tokens ≡ mark ++ rest → IsCallMark (texts line mark) → IsLead line tokens a_call
by_mark line tokens mark rest e (mark_plain is) =
    record { text = spelling word.Call; more = texts line rest; whole = ap (λ ts. texts line ts) e ∙ texts_append line mark rest ∙ ap (λ ts. ts ++ texts line rest) is; tells = call_lead.0 }
by_mark line tokens mark rest e (mark_tail is) =
    record { text = spelling word.Tail; more = spelling word.Call ∷ texts line rest; whole = ap (λ ts. texts line ts) e ∙ texts_append line mark rest ∙ ap (λ ts. ts ++ texts line rest) is; tells = call_lead.1 }
by_mark line tokens mark rest e (mark_no_tail is) =
    record { text = spelling word.NoTail; more = spelling word.Call ∷ texts line rest; whole = ap (λ ts. texts line ts) e ∙ texts_append line mark rest ∙ ap (λ ts. ts ++ texts line rest) is; tells = call_lead.2 }

abbrev pub rest_of : List Part → List Part
rest_of [] = []
rest_of (p ∷ ps) = ps

pub inst_lead : (line : List ℕ) (tokens : List Token) (s : Scale) (i : RawInst) → Spells line tokens (inst_parts s i) → IsLead line tokens (lead_is i)
unfolding lead_is
inst_lead line tokens s (Alloca n a u) h = by_token line tokens (spelling word.Alloca) (rest_of (inst_parts s (Alloca n a u))) an_alloca alloca_lead h
inst_lead line tokens s (Gep a n b c u) h = by_token line tokens (spelling word.Getelementptr) (rest_of (inst_parts s (Gep a n b c u))) a_gep gep_lead h
inst_lead line tokens s (Step a n xs b c u) h = by_token line tokens (spelling word.Getelementptr) (rest_of (inst_parts s (Step a n xs b c u))) a_gep gep_lead h
inst_lead line tokens s (Load ty p u) h = by_token line tokens (spelling word.Load) (rest_of (inst_parts s (Load ty p u))) a_load load_lead h
inst_lead line tokens s (Store ty a p u) h = by_token line tokens (spelling word.Store) (rest_of (inst_parts s (Store ty a p u))) a_store store_lead h
inst_lead line tokens s (Copy a x n c p u) h =
    let head = h.3 in by_mark line tokens head.mark (head.result ++ h.1) (h.2 ∙ ap (λ r. r ++ h.1) head.whole ∙ append_assoc head.mark head.result h.1) head.marked
inst_lead line tokens s (Call n a xs c p u) h =
    let head = h.3 in
    by_mark line tokens head.mark (head.before ++ (head.result ++ (head.written ++ h.1))) (regroup tokens h.0 head.mark head.before head.result head.written h.1 h.2 head.whole) head.marked
inst_lead line tokens s (Bin op f ty a p u) h = by_token line tokens (op_word op) (rest_of (inst_parts s (Bin op f ty a p u))) a_bin (op_lead op) h
inst_lead line tokens s (Cmp op f ty a p u) h = by_token line tokens (spelling word.Icmp) (rest_of (inst_parts s (Cmp op f ty a p u))) a_cmp icmp_lead h
inst_lead line tokens s (Select c ty a p u) h = by_token line tokens (spelling word.Select) (rest_of (inst_parts s (Select c ty a p u))) a_select select_lead h
inst_lead line tokens s (Cast op f a p x u) h = by_token line tokens (cast_word op) (rest_of (inst_parts s (Cast op f a p x u))) a_cast (cast_lead op) h
inst_lead line tokens s (Phi ty xs u) h = by_token line tokens (spelling word.Phi) (rest_of (inst_parts s (Phi ty xs u))) a_phi phi_lead h

no_lead_is : (i : RawInst) → no_lead ≡ lead_is i → ⊥
unfolding lead_is
no_lead_is (Alloca _ _ _) e = cc
no_lead_is (Gep _ _ _ _ _) e = cc
no_lead_is (Step _ _ _ _ _ _) e = cc
no_lead_is (Load _ _ _) e = cc
no_lead_is (Store _ _ _ _) e = cc
no_lead_is (Copy _ _ _ _ _ _) e = cc
no_lead_is (Call _ _ _ _ _ _) e = cc
no_lead_is (Bin _ _ _ _ _ _) e = cc
no_lead_is (Cmp _ _ _ _ _ _) e = cc
no_lead_is (Select _ _ _ _ _) e = cc
no_lead_is (Cast _ _ _ _ _ _) e = cc
no_lead_is (Phi _ _ _) e = cc

type_lead : lead_of (spelling word.TypeOf) ≡ no_lead
unfolding lead_of spelling cast_word
type_lead = refl

-- no instruction begins with `type`
pub lead_no_type : (text : List ℕ) (i : RawInst) → lead_of text ≡ lead_is i → bytes_eq text (spelling word.TypeOf) ≡ false
lead_no_type text i e =
    elim (tells text (spelling word.TypeOf)) [
      | inl told ↦ absurd (no_lead_is i (sym type_lead ∙ ap (λ s. lead_of s) (sym told.1) ∙ e))
      | inr told ↦ told.0
    ]

-- what the same tokens spell are instructions of one form
pub one_lead : (line : List ℕ) (s t : Scale) (i j : RawInst) → Both line (inst_parts s i) (inst_parts t j) → lead_is i ≡ lead_is j
one_lead line s t i j h =
    let one = inst_lead line h.tokens s i h.one in
    let other = inst_lead line h.tokens t j h.other in
    let texts_same : one.text ≡ other.text = cell one.text other.text one.more other.more (sym one.whole ∙ other.whole) in
    sym one.tells ∙ ap (λ x. lead_of x) texts_same ∙ other.tells
  where
    cell : (a b : List ℕ) (s t : List (List ℕ)) → a ∷ s ≡ b ∷ t → a ≡ b
    cell a b s t e = cc
