-- The class of a byte.
use Rattle.std.specs.Prelude.{ℕ, cond, eqb}
use Rattle.law.specs.Bytes.{permitted}
use Rattle.text.specs.declared.ByteClass.{ByteClass}
use Rattle.text.specs.declared.ByteClass.TheVariants.{Space, Quote, Permitted, Forbidden}

-- space and quote are permitted too; the four classes are disjoint
unfoldable pub class_of : ℕ → ByteClass
unfolding permitted
class_of b = cond (eqb b 32) Space (cond (eqb b 34) Quote (cond (permitted b) Permitted Forbidden))
