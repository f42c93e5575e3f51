-- The rows of all locals.
use Rattle.std.proofs.Common.{◌≡◌, ◌<◌, ◌≤◌, ◌+◌, ℕ, zero, suc, true, List, [], Some, None, length, get_or, set, refl, sym, ap, ◌∙◌, subst, inl, inr, ⊎_elim, get_or-set_other, arith}
use Rattle.std.specs.Prelude.{Contains}
use Rattle.std.proofs.lemmas.Bool.{both_ways, cases_eq, cases_lt}
use Rattle.std.proofs.lemmas.List.{length-set, get_or_past}
use Rattle.ms_ir.specs.declared.names.LocalNo.{LocalNo}
use Rattle.ms_ir.specs.declared.inst.Inst.{Inst}
use Rattle.ms_ir.specs.declared.inst.Inst.TheVariants.{Alloca as AllocaInst}
use Rattle.ms_ir.specs.Func.{FuncState}
use Rattle.ms_alias.specs.declared.loc.Root.{Root}
use Rattle.ms_alias.specs.declared.loc.Root.TheVariants.{Local, Global}
use Rattle.ms_alias.specs.declared.sets.Set.{Set}
use Rattle.ms_alias.specs.declared.sets.Set.TheVariants.{Nothing, Argument, Alloca, Object, Brought}
use Rattle.ms_alias.specs.Roots.{Maker, maker_of, is_alloca}
use Rattle.ms_alias.specs.Bases.{Base, Alloca as AllocaBase, Argument as ArgumentBase, IsNamed, IsBrought, IsArgument, leads_of, leads_in, pointers_in, sources_in}
use Rattle.ms_alias.specs.Tables.{RowState, no_row, BasesState, set_of, row_of, IsColumn, IsRow, IsFor, IsSet, IsBases, HasRoom}
use Rattle.ms_alias.proofs.Rings.{local}

-- a row tells the same where other rows stand beside it
row_beside : (f : FuncState) (t : BasesState) (rows : List RowState) (p : Root) (row : RowState) → IsRow t f p row → IsRow (record t { rows = rows }) f p row
row_beside f t rows p row i = record {
  sound = i.sound;
  complete = λ q h. let c = i.complete q h in (c.0, column q c.0 c.1, c.2);
  argument = i.argument;
  outer = i.outer;
} where
  column : (q : Root) (c : ℕ) → IsColumn t q c → IsColumn (record t { rows = rows }) q c
  column (Local l) c h = h
  column (Global g) c h = h

-- the rows of the first locals are filled
pub record AreFilled (f : FuncState) (old : BasesState) (count : ℕ) (t : BasesState) : Type 0 where
  pub same : t ≡ record old { rows = t.rows }
  pub len : length t.rows ≡ length old.rows
  pub bits : (l : LocalNo) (k : ℕ) → set_of old (Local l) ≡ Brought k → length (row_of t k).bits ≡ length old.columns
  pub filled : (l : LocalNo) (k : ℕ) → l.0 < count → set_of old (Local l) ≡ Brought k → IsRow old f (Local l) (row_of t l.0)

for_bits : (t : BasesState) (f : FuncState) (l : LocalNo) (k : ℕ) → IsFor t f l (set_of t (Local l)) → set_of t (Local l) ≡ Brought k → (k ≡ l.0) × (length (row_of t k).bits ≡ length t.columns)
for_bits t f l k h e = let kind = subst (IsFor t f l) e h in (kind.0, kind.1)

pub filled_none : (f : FuncState) (t : BasesState) → HasRoom t f → AreFilled f t 0 t
filled_none f t room = record {
  same = refl;
  len = refl;
  bits = λ l k e. (for_bits t f l k (room.sets l) e).1;
  filled = λ l k h. absurd (omega arith);
}

-- one more row
pub filled_more : (f : FuncState) (old t new : BasesState) (l : ℕ) → HasRoom old f → AreFilled f old l t → l < length old.sets → new ≡ record t { rows = set t.rows l (row_of new l) } → IsRow t f (local l) (row_of new l) → length (row_of new l).bits ≡ length old.columns → AreFilled f old (l + 1) new
filled_more f old t new l room a lt kept row len = record {
  same = kept ∙ ap (λ (b : BasesState). record b { rows = set t.rows l (row_of new l) }) a.same ∙ sym (ap (λ rs. record old { rows = rs }) rows);
  len = ap length rows ∙ length-set t.rows l (row_of new l) ∙ a.len;
  bits = λ j k e. ⊎_elim
      (λ (is : k ≡ l). subst (λ n. length (row_of new n).bits ≡ length old.columns) (sym is) len)
      (λ (n : k ≡ l → ⊥). ap (λ (r : RowState). length r.bits) (others k n) ∙ a.bits j k e)
      (cases_eq k l);
  filled = λ j k h e. ⊎_elim
      (λ (is : j.0 ≡ l). here j is)
      (λ (n : j.0 ≡ l → ⊥). subst (IsRow old f (Local j)) (sym (others j.0 n)) (a.filled j k (omega (arith, n)) e))
      (cases_eq j.0 l);
} where
  rows : new.rows ≡ set t.rows l (row_of new l)
  rows = ap (λ (b : BasesState). b.rows) kept

  others : (k : ℕ) → (k ≡ l → ⊥) → row_of new k ≡ row_of t k
  others k n = ap (λ rs. get_or rs k no_row) rows ∙ get_or-set_other t.rows l k (row_of new l) no_row n

  here : (j : LocalNo) → j.0 ≡ l → IsRow old f (Local j) (row_of new j.0)
  here j is =
      let mine = row_beside f (record old { rows = t.rows }) old.rows (local l) (row_of new l) (subst (λ (b : BasesState). IsRow b f (local l) (row_of new l)) a.same row) in
      let P : ℕ → Type 0 = λ n. IsRow old f (local n) (row_of new n) in
      subst P (sym is) mine

alloca_alone : (inst : Inst) → is_alloca inst ≡ true → sources_in inst ≡ []
alloca_alone (AllocaInst size head tail) e = refl
alloca_alone inst e = absurd (both_ways (is_alloca inst) refl e)

no_lead : (f : FuncState) (l : LocalNo) → leads_of f (Local l) ≡ [] → (n : ℕ) (q : Root) (b : Base) → IsBrought f n (Local l) q → IsNamed f q b → IsNamed f (Local l) b
no_lead f l none zero q b brought named = subst (λ r. IsNamed f r b) (sym brought) named
no_lead f l none (suc n) q b brought named = absurd (let c = subst (λ ps. Contains ps brought.0) none brought.1 in let lt = c.1 in omega (arith, lt))

-- what a set says of a local that nothing is brought to
plain_set : (t : BasesState) (f : FuncState) (l : LocalNo) (s : Set) → set_of t (Local l) ≡ s → IsFor t f l s → ((k : ℕ) → s ≡ Brought k → IsRow t f (Local l) (row_of t l.0)) → IsSet t f (Local l) s
plain_set t f l Nothing e h row = λ b base.
    ⊎_elim
    (λ (a : ((m : Maker) × (maker_of f l ≡ Some m) × (is_alloca m.inst ≡ true)) × (b ≡ AllocaBase l)). let m = a.0 in let both : None ≡ Some m.0 = sym h.0 ∙ m.1 in cc)
    (λ (a : IsArgument f l × (b ≡ ArgumentBase l)). h.1 a.0)
    (no_lead f l (ap leads_in h.0) base.0 base.1 b base.2 base.3)
plain_set t f l Argument e h row = (
  l,
  (
    (zero, Local l, refl, inr (h.1, refl)),
    λ b base.
        ⊎_elim
        (λ (a : ((m : Maker) × (maker_of f l ≡ Some m) × (is_alloca m.inst ≡ true)) × (b ≡ AllocaBase l)). absurd (let m = a.0 in let both : None ≡ Some m.0 = sym h.0 ∙ m.1 in cc))
        (λ (a : IsArgument f l × (b ≡ ArgumentBase l)). a.1)
        (no_lead f l (ap leads_in h.0) base.0 base.1 b base.2 base.3),
  ),
)
plain_set t f l (Alloca c) e h row =
    let m = h.1 in
    let none : leads_of f (Local l) ≡ [] = ap leads_in m.1 ∙ ap pointers_in (alloca_alone m.0.inst m.2) in (
      l,
      (
        (zero, Local l, refl, inl (m, refl)),
        λ b base.
            ⊎_elim
            (λ (a : ((m : Maker) × (maker_of f l ≡ Some m) × (is_alloca m.inst ≡ true)) × (b ≡ AllocaBase l)). a.1)
            (λ (a : IsArgument f l × (b ≡ ArgumentBase l)). absurd (h.2 a.0))
            (no_lead f l none base.0 base.1 b base.2 base.3),
      ),
      h.0,
      e,
    )
plain_set t f l (Object g) e h row = absurd h
plain_set t f l (Brought k) e h row = subst (λ n. IsRow t f (Local l) (row_of t n)) (sym h.0) (row k refl)

for_beside : (t : BasesState) (f : FuncState) (rows : List RowState) (l : LocalNo) (s : Set) → IsFor t f l s → ((k : ℕ) → s ≡ Brought k → length (get_or rows k no_row).bits ≡ length t.columns) → IsFor (record t { rows = rows }) f l s
for_beside t f rows l Nothing h b = h
for_beside t f rows l Argument h b = h
for_beside t f rows l (Alloca c) h b = h
for_beside t f rows l (Object g) h b = h
for_beside t f rows l (Brought k) h b = (h.0, b k refl, h.2, h.3)

pub filled_room : (f : FuncState) (old t : BasesState) (count : ℕ) → HasRoom old f → AreFilled f old count t → HasRoom t f
filled_room f old t count room a =
    subst (λ (b : BasesState). HasRoom b f) (sym a.same) (record {
      rows = a.len ∙ room.rows;
      sets = λ l. for_beside old f t.rows l (set_of old (Local l)) (room.sets l) (λ k e. a.bits l k e);
      globals = room.globals;
    })

pub filled_all : (f : FuncState) (old t : BasesState) (count : ℕ) → HasRoom old f → AreFilled f old count t → length old.sets ≤ count → IsBases t f
filled_all f old t count room a all = record {
  each = λ l. plain_set t f l (set_of t (Local l)) refl ((filled_room f old t count room a).sets l) (λ k e. row l k e);
} where
  row : (l : LocalNo) (k : ℕ) → set_of t (Local l) ≡ Brought k → IsRow t f (Local l) (row_of t l.0)
  row l k e =
      let same : set_of t (Local l) ≡ set_of old (Local l) = ap (λ (b : BasesState). set_of b (Local l)) a.same in
      let within : l.0 < length old.sets = ⊎_elim (λ (lt : l.0 < length old.sets). lt) (λ (ge : length old.sets ≤ l.0). absurd (let none : Nothing ≡ Brought k = sym (get_or_past old.sets l.0 Nothing ge) ∙ sym same ∙ e in cc)) (cases_lt l.0 (length old.sets)) in
      let mine = a.filled l k (omega (arith, within)) (sym same ∙ e) in
      subst (λ (b : BasesState). IsRow b f (Local l) (row_of t l.0)) (sym a.same) (row_beside f old t.rows (Local l) (row_of t l.0) mine)

-- a local without a row of its own
pub filled_skip : (f : FuncState) (old t : BasesState) (l : ℕ) → AreFilled f old l t → ((k : ℕ) → set_of t (local l) ≡ Brought k → ⊥) → AreFilled f old (l + 1) t
filled_skip f old t l a plain = record {
  same = a.same;
  len = a.len;
  bits = a.bits;
  filled = λ j k h e. ⊎_elim
      (λ (is : j.0 ≡ l).
      let P : ℕ → Type 0 = λ n. set_of t (local n) ≡ Brought k in
      let here : set_of t (Local j) ≡ Brought k = ap (λ (b : BasesState). set_of b (Local j)) a.same ∙ e in
      absurd (plain k (subst P is here)))
      (λ (n : j.0 ≡ l → ⊥). a.filled j k (omega (arith, n)) e)
      (cases_eq j.0 l);
}

-- the row of a local that has one
pub row_there : (f : FuncState) (old t : BasesState) (l k : ℕ) → HasRoom old f → AreFilled f old l t → set_of t (local l) ≡ Brought k → length (row_of t l).bits ≡ length old.columns
row_there f old t l k room a e =
    let same : set_of old (local l) ≡ Brought k = sym (ap (λ (b : BasesState). set_of b (local l)) a.same) ∙ e in
    let kind = for_bits old f (record { 0 = l }) k (room.sets (record { 0 = l })) same in
    subst (λ n. length (row_of t n).bits ≡ length old.columns) kind.0 (a.bits (record { 0 = l }) k same)
