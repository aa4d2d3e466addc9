-- A line's row agrees with what the line says: the row holds the values of its record, and both go on to the same state or are refused by the same number.
use Prim.Native.Nat.{ℕ, suc, ◌-◌}
use mathlib.Core.Path.{◌≡◌, refl, sym, ap, ◌∙◌}
use mathlib.Core.List.{List, [], ◌∷◌}
use mathlib.Core.Option.{some}
use mathlib.Core.Bool.{Bool, true, false, cond, ◌&&◌}
use native.Mathlib.Omega.{arith}
use borrow.Author.Tests.{eqb-true}
use lib.Dec.{eqb}
use lib.IntN.{ℤ}
use lib.ListN.{length}
use Rattle.rows.specs.Columns.{point_in, type_in_row}
use Rattle.rows.specs.declared.Point.{Point}
use Rattle.std.specs.Prelude.{Result, Ok, Err, Ok as next, Err as stops}
use Rattle.law.specs.Refusals.{number_of}
use Rattle.law.specs.declared.refusals.Refusal.{Refusal}
use Rattle.law.specs.declared.refusals.Refusal.TheVariants.{Misplaced, FieldCount}
use Rattle.law.specs.Fields.{Field}
use Rattle.text_fields.specs.FirstField.{field_of}
use Rattle.text_fields.specs.Fields.{fields_of}
use Rattle.law.specs.Values.{Value, Rec}
use Rattle.form.specs.Values.{Reply, good, refused}
use Rattle.law.specs.Kinds.{role_of}
use Rattle.law.specs.declared.Role.TheVariants.{Title as title, Point as point, Prop as prop}
use Rattle.law.specs.Layouts.{types_of}
use Rattle.law.specs.Fits.{under, WellFormed}
use Rattle.form.specs.Reading.{read_fields, Line, free, bad, key_line, data_line, line_as, keyword_of}
use Rattle.law.specs.declared.Rules.{Rules}
use Rattle.law.specs.declared.Context.{Context}
use Rattle.law.specs.declared.FieldType.{FieldType}
use Rattle.law.specs.declared.FileType.{FileType}
use Rattle.line_rows.specs.LineKinds.{is_prop, behind, kind_by, kind_of}
use Rattle.line_rows.specs.Rows.{filled}
use Rattle.law.specs.Rows.{Holds}
use Rattle.line_rows.specs.Meaning.{Agrees, Part}
use Rattle.line_rows.specs.declared.Filling.{Filling}
use Rattle.line_rows.proofs.RowMeaning.{row_means}
use Rattle.order.specs.Marks.{point_of}
use Rattle.law.specs.Records.{type_in, names_a_component}
use Rattle.order.specs.Places.{data_kind, key_kind}
use Rattle.order.specs.Automaton.{is_role, refusal_of, type_at, may_stand, moved, stepped, unless, advance, admit}
use Rattle.order.specs.declared.State.{State}
use Rattle.order.specs.declared.State.TheVariants.{Between as between, Inside as inside}
use Rattle.order.specs.declared.Reason.{Reason}
use Rattle.order.proofs.Steps.{advance_stepped, point_only, title_only}
use Rattle.shown_spelling.proofs.KeywordLaws.{keyword_is}
use Rattle.shown_spelling.proofs.RecordSpelling.{record_fits}
use Rattle.walk.specs.Judging.{refused_by, free_by, moved_row, filled_by, of_kind, data_by, judged_by, judged}
use Rattle.walk.specs.declared.Found.TheVariants.{Row, Nothing, Refused}
use Rattle.walk.specs.declared.JudgedLine.{JudgedLine}
use Rattle.shown_told.specs.Told.{Said, nothing, says, wrong, free_in, said_of, said_by, said_at, said_as, line_says}
use Rattle.shown_told.proofs.Fronts.{stands_known}
use Rattle.shown_told.proofs.LineSound.{Known, Behind, data_known, key_behind, record_spelled}
use Rattle.shown_read.proofs.FieldTails.{From, from_start, from_behind, Listed, line_listed}
use Rattle.shown_read.proofs.RowColumns.{point_in_lem, type_in_lem}

-- a line that says nothing, one with a record, and one that is refused, as they are judged
pub record Passed (st : State) (j : JudgedLine) : Type 0 where
  pub found : j.found ≡ Nothing
  pub state : j.state ≡ st

pub record Taken (v : Rules) (file : List ℕ) (r : Rec) (t : State) (j : JudgedLine) : Type 0 where
  pub found : j.found ≡ Row
  pub state : j.state ≡ t
  pub holds : Holds file r.kind (types_of v r.kind) j.row r.values

pub record Barred (st : State) (n : ℕ) (j : JudgedLine) : Type 0 where
  pub refusal : Refusal
  pub found : j.found ≡ Refused refusal
  pub number : number_of refusal ≡ n
  pub state : j.state ≡ st

-- a line judged in a state agrees with what it says there
abbrev pub Joined : Rules → List ℕ → State → Said → JudgedLine → Type 0
Joined v file st nothing j = Passed st j
Joined v file st (says r t) j = Taken v file r t j
Joined v file st (wrong n) j = Barred st n j

miscounted : (c : Context) (ts : List FieldType) (fs : List Field) → eqb (length fs) (length ts) ≡ false → read_fields c ts fs ≡ refused FieldCount
unfolding read_fields
miscounted c ts fs h = rw h

free_joined : (v : Rules) (file : List ℕ) (st : State) → Joined v file st (free_in st) (free_by st)
free_joined v file (between g) = record { found = refl; state = refl }
free_joined v file (inside g s p) = record { refusal = Misplaced; found = refl; number = refl; state = refl }

module _ (v : Rules) (st : State) where
  -- where no name is used, a record does what it does names aside
  pub admit_fresh : (r : Rec) → admit v [] st r ≡ advance v st r
  admit_fresh r = go (names_a_component v r.kind) (advance v st r)
    where
      go : (b : Bool) (o : Result State Reason) → unless (b && false) o ≡ o
      go true (next t) = refl
      go true (stops e) = refl
      go false (next t) = refl
      go false (stops e) = refl

  module _ (file : List ℕ) where
    module _ (k : ℕ) (m : may_stand v st k ≡ true) (row : List ℤ) (vs : List Value) (h : Holds file k (types_of v k) row vs) where
      abbrev its : Rec
      its = record { kind = k; values = vs }

      -- the point counts only where the row has it, and so does the type
      point_moves : WellFormed (under v (type_at st)) its → (t : FileType) (b : Bool) → is_role (role_of v k) point ≡ b → moved v st k t (point_of its) ≡ moved v st k t (point_in row)
      point_moves w t true e = ap (moved v st k t) (sym (point_in_lem file v k row vs h (type_at st) w e))
      point_moves w t false e = point_only v st k t (point_of its) (point_in row) e

      title_moves : (d : Point) (b : Bool) → is_role (role_of v k) title ≡ b → moved v st k (type_in its) d ≡ moved v st k (type_in_row row) d
      title_moves d true e = ap (λ (t : FileType). moved v st k t d) (sym (type_in_lem file v k row vs h e))
      title_moves d false e = title_only v st k (type_in its) (type_in_row row) d m e

      -- so the row does what the record does
      pub row_steps : WellFormed (under v (type_at st)) its → admit v [] st its ≡ stepped v st k (type_in_row row) (point_in row)
      unfolding stepped
      row_steps w =
          admit_fresh its ∙ advance_stepped v st its w
          ∙ rw m (point_moves w (type_in its) (is_role (role_of v k) point) refl ∙ title_moves (point_in row) (is_role (role_of v k) title) refl)

      moved_joined : WellFormed (under v (type_at st)) its
          → Joined v file st (said_of its (admit v [] st its)) (moved_row st row (stepped v st k (type_in_row row) (point_in row)))
      moved_joined w = rw (row_steps w) (go (stepped v st k (type_in_row row) (point_in row)))
        where
          go : (o : Result State Reason) → Joined v file st (said_of its o) (moved_row st row o)
          go (next t) = record { found = refl; state = refl; holds = h }
          go (stops e) = record { refusal = refusal_of e Misplaced; found = refl; number = refl; state = refl }

    -- a line of kind k by its filled row
    filled_joined : (k : ℕ) → may_stand v st k ≡ true → (x : Result Filling Refusal) (a : Reply (List Value)) → Agrees file k (types_of v k) x a
        → ((vs : List Value) → a ≡ good vs → WellFormed (under v (type_at st)) (record { kind = k; values = vs }))
        → Joined v file st (said_by v [] st k a) (filled_by v st k x)
    unfolding filled_by
    filled_joined k m x (good vs) (f, i, g) w = rw i (moved_joined k m f.row vs g.holds (w vs refl))
    filled_joined k m x (refused e) i w = rw i (record { refusal = e; found = refl; number = refl; state = refl })

    module _ (s : List ℕ) (b : ℕ) (p : Part file b s) where
      -- and by its fields gs, which stand from the place m on
      kind_joined : (k n m : ℕ) (gs : List Field) → n ≡ length gs → From s m gs → (Known v k → Behind v k (line_as s) gs)
          → Joined v file st (said_at v [] st k gs) (of_kind v st k s b n m)
      unfolding said_at of_kind
      kind_joined k n m gs e x y = go (may_stand v st k) refl
        where
          fill : may_stand v st k ≡ true → (t : Bool) → eqb n (length (types_of v k)) ≡ t
              → Joined v file st (said_by v [] st k (read_fields (under v (type_at st)) (types_of v k) gs))
              (cond t (filled_by v st k (filled (under v (type_at st)) k b s m)) (refused_by st FieldCount))
          fill h true i =
              let u = stands_known v st k h in
              filled_joined k h (filled (under v (type_at st)) k b s m) (read_fields (under v (type_at st)) (types_of v k) gs)
              (row_means (under v (type_at st)) file b s p k m gs x.within x.fields (omega (arith, eqb-true n (length (types_of v k)) i)))
              (λ vs r. record_fits (record_spelled v [] st s k gs vs u (y u) r))
          fill h false i = rw (miscounted (under v (type_at st)) (types_of v k) gs (rw e at i)) (record { refusal = FieldCount; found = refl; number = refl; state = refl })

          go : (t : Bool) → may_stand v st k ≡ t
              → Joined v file st (cond t (said_by v [] st k (read_fields (under v (type_at st)) (types_of v k) gs)) (wrong 5))
              (cond t (cond (eqb n (length (types_of v k))) (filled_by v st k (filled (under v (type_at st)) k b s m)) (refused_by st FieldCount)) (refused_by st Misplaced))
          go true h = fill h (eqb n (length (types_of v k))) refl
          go false h = record { refusal = Misplaced; found = refl; number = refl; state = refl }

      -- a data line with its first field f: a property begins behind it
      data_joined : (f : Field) (gs : List Field) → line_as s ≡ data_line (f ∷ gs) → fields_of s ≡ some (f ∷ gs)
          → Joined v file st (said_as v [] st (data_line (f ∷ gs))) (data_by v st s b (is_prop (f ∷ gs)) (length (f ∷ gs)) (behind (field_of s)))
      unfolding data_by
      data_joined f gs i e = go (data_kind v st (is_prop (f ∷ gs))) (is_role (role_of v (data_kind v st (is_prop (f ∷ gs)))) prop) (λ h. rw i (data_known v st (f ∷ gs) h))
        where
          go : (k : ℕ) (t : Bool) → (Known v k → Behind v k (line_as s) (cond t gs (f ∷ gs)))
              → Joined v file st (said_at v [] st k (cond t gs (f ∷ gs))) (cond t (of_kind v st k s b (suc (length gs) - 1) (behind (field_of s))) (of_kind v st k s b (suc (length gs)) 0))
          go k true y = kind_joined k _ (behind (field_of s)) gs (omega arith) (from_behind s f gs e) y
          go k false y = kind_joined k _ 0 (f ∷ gs) refl (from_start s (f ∷ gs) e) y

      as_joined : (x : Line) → line_as s ≡ x → Listed s x → Joined v file st (said_as v [] st x) (judged_by v st s b (kind_by x (behind (field_of s))))
      as_joined free i y = free_joined v file st
      as_joined (bad e) i y = record { refusal = e; found = refl; number = refl; state = refl }
      as_joined (key_line w fs) i (f, e) =
          kind_joined (key_kind v (keyword_of w)) (suc (length fs) - 1) (behind (field_of s)) fs (omega arith) (from_behind s f fs e)
          (λ h. rw i (key_behind v w fs (keyword_of w) (keyword_is w) h))
      as_joined (data_line fs) i (f, gs, z, e) = rw z (data_joined f gs (rw z at i) (rw z at e))

      -- a line that stands in the file from b on, where no name is used
      pub line_joined : Joined v file st (line_says v [] st s) (judged v st b s)
      unfolding line_says judged kind_of
      line_joined = as_joined (line_as s) refl (line_listed s)
