-- What operations on numbers give, after LLVM's Language Reference; none where the run is wrong.
use Rattle.std.specs.Prelude.{◌-◌, ◌*◌, ◌/◌, ◌%◌, ◌^◌, ℕ, ℤ, pos, negsuc, ◌+ℤ◌, ◌-ℤ◌, ◌*ℤ◌, neg_ℤ, Bool, not, ◌&&◌, ◌||◌, ◌==◌, nat_lt, nat_le, int_lt, int_le, bit_and, bit_or, bit_xor, Option, Some, None, if◌then◌else◌}
use Rattle.ms_ir.specs.declared.inst.Flags.{Flags}
use Rattle.ms_ir.specs.declared.inst.Op.{Op}
use Rattle.ms_ir.specs.declared.inst.Op.TheVariants.{Add, Sub, Mul, And, Or, Xor, Shl, Lshr, Ashr}
use Rattle.ms_ir.specs.declared.inst.Pred.{Pred}
use Rattle.ms_ir.specs.declared.inst.Pred.TheVariants.{Eq, Ne, Ugt, Uge, Ult, Ule, Sgt, Sge, Slt, Sle}
use Rattle.ms_ir.specs.declared.inst.CastOp.{CastOp}
use Rattle.ms_ir.specs.declared.inst.CastOp.TheVariants.{Zext, Sext, Trunc}
use Rattle.ms_meaning.specs.Values.{wrap, signed}

-- a number, none where something is wrong
abbrev pub unless : Bool → ℕ → Option ℕ
unless wrong n = if wrong then None else Some n

-- z is no unsigned value of m bits, or no signed one
abbrev pub leaves_unsigned : ℕ → ℤ → Bool
leaves_unsigned m z = int_lt z (pos 0) || int_le (pos (2 ^ m)) z

abbrev pub leaves_signed : ℕ → ℤ → Bool
leaves_signed m z = int_lt z (neg_ℤ (pos (2 ^ (m - 1)))) || int_le (pos (2 ^ (m - 1))) z

-- a sum, difference or product of m bits, from the unsigned result and the signed one
abbrev pub arithmetic : Flags → ℕ → ℤ → ℤ → Option ℕ
arithmetic g m unsigned z = unless ((g.nuw && leaves_unsigned m unsigned) || (g.nsw && leaves_signed m z)) (wrap m unsigned)

-- the quotient by 2 to the power b, rounded down
abbrev pub halved : ℤ → ℕ → ℤ
halved (pos n) b = pos (n / 2 ^ b)
halved (negsuc n) b = negsuc (n / 2 ^ b)

-- a shift to the left, and shifts to the right with zeros and with the sign, by less than m bits
abbrev pub shifted_left : Flags → ℕ → ℕ → ℕ → Option ℕ
shifted_left g m a b = arithmetic g m (pos (a * 2 ^ b)) (signed m a *ℤ pos (2 ^ b))

abbrev pub loses_bits : Flags → ℕ → ℕ → Bool
loses_bits g a b = g.exact && not (a % 2 ^ b == 0)

abbrev pub shifted : Op → Flags → ℕ → ℕ → ℕ → Option ℕ
shifted Shl g m a b = shifted_left g m a b
shifted Lshr g m a b = unless (loses_bits g a b) (a / 2 ^ b)
shifted Ashr g m a b = unless (loses_bits g a b) (wrap m (halved (signed m a) b))
shifted Add g m a b = None
shifted Sub g m a b = None
shifted Mul g m a b = None
shifted And g m a b = None
shifted Or g m a b = None
shifted Xor g m a b = None

-- an operation on two numbers of m bits
abbrev pub operated : Op → Flags → ℕ → ℕ → ℕ → Option ℕ
operated Add g m a b = arithmetic g m (pos a +ℤ pos b) (signed m a +ℤ signed m b)
operated Sub g m a b = arithmetic g m (pos a -ℤ pos b) (signed m a -ℤ signed m b)
operated Mul g m a b = arithmetic g m (pos a *ℤ pos b) (signed m a *ℤ signed m b)
operated And g m a b = Some (bit_and a b)
operated Or g m a b = unless (g.disjoint && not (bit_and a b == 0)) (bit_or a b)
operated Xor g m a b = Some (bit_xor a b)
operated Shl g m a b = if nat_le m b then None else shifted Shl g m a b
operated Lshr g m a b = if nat_le m b then None else shifted Lshr g m a b
operated Ashr g m a b = if nat_le m b then None else shifted Ashr g m a b

-- whether a predicate holds of two numbers of m bits
abbrev pub holds : Pred → ℕ → ℕ → ℕ → Bool
holds Eq m a b = a == b
holds Ne m a b = not (a == b)
holds Ugt m a b = nat_lt b a
holds Uge m a b = nat_le b a
holds Ult m a b = nat_lt a b
holds Ule m a b = nat_le a b
holds Sgt m a b = int_lt (signed m b) (signed m a)
holds Sge m a b = int_le (signed m b) (signed m a)
holds Slt m a b = int_lt (signed m a) (signed m b)
holds Sle m a b = int_le (signed m a) (signed m b)

abbrev pub is_negative : ℕ → ℕ → Bool
is_negative m a = int_lt (signed m a) (pos 0)

abbrev pub differ : Bool → Bool → Bool
differ a b = (a && not b) || (b && not a)

abbrev pub number_of_bool : Bool → ℕ
number_of_bool b = if b then 1 else 0

abbrev pub compared : Pred → Flags → ℕ → ℕ → ℕ → Option ℕ
compared pred g m a b = unless (g.samesign && differ (is_negative m a) (is_negative m b)) (number_of_bool (holds pred m a b))

-- a number of m bits as one of k bits
abbrev pub changes_sign_value : ℕ → ℕ → ℕ → Bool
changes_sign_value m k a = leaves_signed k (signed m a)

abbrev pub converted : CastOp → Flags → ℕ → ℕ → ℕ → Option ℕ
converted Zext g m k a = unless (g.nneg && is_negative m a) a
converted Sext g m k a = Some (wrap k (signed m a))
converted Trunc g m k a = unless ((g.nuw && nat_le (2 ^ k) a) || (g.nsw && changes_sign_value m k a)) (a % 2 ^ k)
