-- Laws of what the texts of a row name, as the code leaves them.
use Prim.Native.Nat.{ℕ}
use mathlib.Core.Path.{◌≡◌, sym, ap, ◌∙◌}
use mathlib.Core.List.{List}
use mathlib.Core.Bool.{Bool, true, false}
use mir.Syntax.{w64}
use mir.Val.{SFits}
use mir.ValLaws.{to_z-of_z}
use lib.IntN.{ℤ}
use Rattle.basics.proofs.Bools.{and_left, and_right}
use Rattle.basics.proofs.Bytes.{bytes_true}
use Rattle.basics.proofs.Integers.{back}
use Rattle.names_slots.specs.Hashes.{hashed}
use Rattle.rows.specs.Columns.{geometry_start, geometry_length, part_start, part_length, reference_start, reference_length}
use Rattle.law.specs.declared.Texts.TheVariants.{Reference}
use Rattle.law.specs.declared.FieldType.TheVariants.{Text}
use Rattle.rows_texts.specs.Texts.{text_at, text_is, same_texts}
use Rattle.rows_texts.specs.Names.{geometry_in, part_in, same_geometry, same_part, same_names, key_of, refers}

-- the same name has the same hash
pub same_key : (f : List ℕ) (x : List ℤ) (h : List ℕ) (y : List ℤ) → same_names f x h y ≡ true → key_of f x ≡ key_of h y
unfolding same_names same_texts key_of
same_key f x h y e =
    let a : geometry_in f x ≡ geometry_in h y = bytes_true _ _ (and_left (same_geometry f x h y) _ e) in
    let b : part_in f x ≡ part_in h y = bytes_true _ _ (and_right (same_geometry f x h y) _ e) in
    ap (λ (s : List ℕ). hashed (hashed 0 s) (part_in f x)) a ∙ ap (λ (s : List ℕ). hashed (hashed 0 (geometry_in h y)) s) b
