-- `form_layouts::field_type` meets its contract: a field's letter stands behind the digit. Assumes nothing.
use Prim.Native.Nat.{ℕ, ◌+◌, ◌<◌}
use mathlib.Core.Path.{◌≡◌, ap, ◌∙◌}
use mathlib.Core.List.{List}
use native.Mathlib.Omega.{arith}
use mir.Syntax.{w64}
use mir.Val.{Fits}
use borrow.Author.Rules.{rules}
use lib.ListN.{length, get_or}
use Rattle.law.specs.Layouts.{types_of}
use Rattle.form_layouts.specs.Letters.{row_of, type_at, type_named}
use Rattle.law.specs.declared.Rules.{Rules}
use Rattle.law.specs.declared.FieldType.{FieldType}
use Rattle.form_layouts.proofs.KindLaws.{seven, type_letter, named}
use Rattle.form_layouts.proofs.field_type.Goals as goal

module _ (v : Rules) (k i : ℕ) (h : i < length (types_of v k)) where
  fits : Fits w64 (i + 1)
  fits = omega (arith, seven v k)

  inside : i + 1 < 8
  inside = omega (arith, seven v k)

  is : (row : List ℕ) → row ≡ row_of v k → (t : FieldType) → t ≡ type_named (get_or row (i + 1) 0) → t ≡ type_at (types_of v k) i
  is row e t m = m ∙ ap type_named (type_letter v k row e i h (omega (arith, seven v k))) ∙ named (type_at (types_of v k) i)

ruleset laws = (fits, inside, is, rules)

pub bounds-row-i : goal.bounds-row-i
bounds-row-i c = search laws

pub type_of-requires : goal.type_of-requires
type_of-requires c = search laws

pub returns : goal.returns
returns c = search laws

pub overflow_add-i : goal.overflow_add-i
overflow_add-i c = search laws
