-- A row that fits in some file fits in a library; so every row of a list that a file may say does.
use Prim.Native.Nat.{ℕ, ◌+◌}
use mathlib.Core.Path.{◌≡◌, refl}
use mathlib.Core.List.{List, [], ◌∷◌}
use mathlib.Core.Bool.{Bool, true, false, not, cond, ◌&&◌, false≢true}
use lib.Dec.{leb}
use lib.IntN.{ℤ, nat_abs}
use lib.ListN.{length}
use Rattle.rows.specs.Columns.{column_at, type_in_row, point_in, kind_column}
use Rattle.basics.proofs.Bools.{and_left, and_right, and_both}
use Rattle.law.specs.Limits.{below}
use Rattle.law.specs.Values.{text}
use Rattle.form_layouts.specs.Letters.{width_of, is_kind}
use Rattle.law.specs.Layouts.{types_of}
use Rattle.law.specs.Fits.{under, barred, meaning, largest, within, fits}
use Rattle.law.specs.declared.Rules.{Rules}
use Rattle.law.specs.declared.FileType.{FileType}
use Rattle.law.specs.declared.Limit.{Limit}
use Rattle.law.specs.declared.Limit.TheVariants.{Length as L, NotBelow as L0, Above as Lp, Included as A, Rotation as R, Version as Ver}
use Rattle.law.specs.declared.Texts.TheVariants.{Plain, Reference, Hole}
use Rattle.law.specs.declared.FieldType.{FieldType}
use Rattle.law.specs.declared.FieldType.TheVariants.{Text as T, Date as D, Integer as I, Number as N, Word as W}
use Rattle.order.specs.Automaton.{accepted, type_at, stepped}
use Rattle.order.specs.declared.State.{State}
use Rattle.order.specs.declared.Reason.{Reason}
use Rattle.std.specs.Prelude.{Result, Ok as Next, Err as Refused}
use Rattle.order.specs.declared.Reason.TheVariants.{Unfit}
use Rattle.rows_texts.specs.Texts.{text_at}
use Rattle.write_columns.specs.Columns.{lies_in, range_fits, field_fits, column_fits, fields_fit, kind_in, row_fits}
use Rattle.write_lines.specs.LineText.{anywhere}
use Rattle.write.specs.Writable.{row_step, carries}
use Rattle.write.specs.Outcomes.{all_fit}

module _ (v : Rules) (u : FileType) (bytes : List ℕ) where
  bytes_any : (t : FieldType) (s : List ℕ) → fits (under v u) t (text s) ≡ true → fits (anywhere v) t (text s) ≡ true
  unfolding fits barred
  bytes_any (T Plain) s h = h
  bytes_any (T Reference) s h = and_right (not (barred (under v u) Reference s)) _ h
  bytes_any (T Hole) s h = h
  bytes_any D s h = h
  bytes_any I s h = h
  bytes_any (N l) s h = h
  bytes_any (W l) s h = h

  range_any : (t : FieldType) (a b : ℤ) → range_fits (under v u) t bytes a b ≡ true → range_fits (anywhere v) t bytes a b ≡ true
  unfolding range_fits
  range_any t a b h = and_both _ _ (and_left (lies_in (length bytes) a b) _ h) (bytes_any t (meaning t (text_at bytes a b)) (and_right (lies_in (length bytes) a b) _ h))

  within_any : (l : Limit) (z : ℤ) → within (under v u) l z ≡ true → within (anywhere v) l z ≡ true
  unfolding within
  within_any L z h = h
  within_any L0 z h = h
  within_any Lp z h = h
  within_any A z h = h
  within_any R z h = h
  within_any Ver z h = h

  field_any : (t : FieldType) (a b : ℤ) → field_fits (under v u) t bytes a b ≡ true → field_fits (anywhere v) t bytes a b ≡ true
  unfolding fits
  field_any (T k) a b h = range_any (T k) a b h
  field_any D a b h = range_any D a b h
  field_any I a b h = h
  field_any (N l) a b h = and_both _ _ (and_left (leb (nat_abs a) (largest l)) _ h) (within_any l a (and_right (leb (nat_abs a) (largest l)) _ h))
  field_any (W l) a b h = h

  fields_any : (row : List ℤ) (ts : List FieldType) (i : ℕ) → fields_fit (under v u) bytes row ts i ≡ true → fields_fit (anywhere v) bytes row ts i ≡ true
  unfolding fields_fit
  fields_any row [] i h = h
  fields_any row (t ∷ ts) i h =
      let a = column_fits (under v u) t bytes row i in
      and_both _ _ (field_any t (column_at row i) (column_at row (i + 1)) (and_left a _ h)) (fields_any row ts (i + width_of t) (and_right a (fields_fit (under v u) bytes row ts (i + width_of t)) h))

  row_any : (row : List ℤ) → row_fits (under v u) bytes row ≡ true → row_fits (anywhere v) bytes row ≡ true
  unfolding row_fits
  row_any row h =
      let a = not (below (kind_column row)) in
      let b = is_kind v (kind_in row) in
      let k = and_right a (b && fields_fit (under v u) bytes row (types_of v (kind_in row)) 1) h in
      and_both _ _ (and_left a _ h) (and_both _ _ (and_left b _ k) (fields_any row (types_of v (kind_in row)) 1 (and_right b _ k)))

module _ (v : Rules) (bytes : List ℕ) where
  pub carries_fit : (xs : List (List ℤ)) (st : State) → carries v bytes st xs ≡ true → all_fit v bytes xs ≡ true
  unfolding carries all_fit row_step
  carries_fit [] st h = refl
  carries_fit (x ∷ xs) st h = go (row_fits (under v (type_at st)) bytes x) refl (stepped v st (kind_in x) (type_in_row x) (point_in x)) h (λ t k. carries_fit xs t k)
    where
      go : (b : Bool) → row_fits (under v (type_at st)) bytes x ≡ b → (o : Result State Reason) → accepted (cond b o (Refused Unfit)) (λ t. carries v bytes t xs) ≡ true
          → ((t : State) → carries v bytes t xs ≡ true → all_fit v bytes xs ≡ true) → row_fits (anywhere v) bytes x && all_fit v bytes xs ≡ true
      go true e (Next t) k rec = and_both _ _ (row_any v (type_at st) bytes x e) (rec t k)
      go true e (Refused r) k rec = absurd (false≢true k)
      go false e o k rec = absurd (false≢true k)
