-- The row of a line that says a record is the row of the record by that line.
use Prim.Native.Nat.{ℕ, suc, ◌+◌, ◌-◌}
use mathlib.Core.Path.{◌≡◌, refl, sym, ap, subst, ◌∙◌}
use mathlib.Core.List.{List, [], ◌∷◌, ◌++◌, map}
use mathlib.Core.Option.{some}
use mathlib.Core.Bool.{Bool, true, false, cond}
use native.Mathlib.Omega.{arith}
use lib.Dec.{eqb}
use lib.IntN.{ℤ, pos}
use lib.ListN.{length, take, drop, replicate, length-drop, length-append, length-replicate}
use Rattle.std.specs.Prelude.{Result, Ok, Err, Some, None, Ok as next, Err as stops}
use Rattle.law.specs.declared.refusals.Refusal.{Refusal}
use Rattle.law.specs.declared.refusals.Refusal.TheVariants.{Misplaced, FieldCount}
use Rattle.law.specs.Fields.{Field, field}
use Rattle.text_fields.specs.FirstField.{FirstField, field_of}
use Rattle.text_fields.specs.Fields.{fields_by, fields_in, fields_of}
use Rattle.text_fields.proofs.FieldSpelling.{sound_in}
use Rattle.law.specs.Values.{Value}
use Rattle.form.specs.Values.{Reply, good, refused}
use Rattle.law.specs.Kinds.{role_of}
use Rattle.law.specs.declared.Role.TheVariants.{Prop as prop}
use Rattle.law.specs.Layouts.{types_of}
use Rattle.law.specs.Fits.{under}
use Rattle.form.specs.Reading.{read_fields, Line, free, bad, key_line, data_line, line_as, keyword_of}
use Rattle.law.specs.declared.Rules.{Rules}
use Rattle.law.specs.declared.Context.{Context}
use Rattle.law.specs.declared.FieldType.{FieldType}
use Rattle.line_rows.specs.LineKinds.{is_prop, behind, kind_by, kind_of}
use Rattle.line_rows.specs.Rows.{filled}
use Rattle.line_rows.specs.declared.Filling.{Filling}
use Rattle.line_rows.proofs.LookLaws.{got_lies, some_before}
use Rattle.basics.proofs.Bools.{none_some}
use Rattle.order.specs.Places.{data_kind, key_kind}
use Rattle.order.specs.Automaton.{is_role, type_at, may_stand, stepped, admit}
use Rattle.order.specs.declared.State.{State}
use Rattle.order.specs.declared.State.TheVariants.{Between as between, Inside as inside}
use Rattle.order.specs.declared.Reason.{Reason}
use Rattle.law.specs.RecordSpelling.{SpellsFields, none as no_fields, more}
use Rattle.shown_spelling.proofs.ValueSpelling.{values_sound}
use Rattle.rows.specs.Columns.{point_in, type_in_row}
use Rattle.walk.specs.Judging.{refused_by, free_by, moved_row, filled_by, of_kind, data_by, judged_by, judged}
use Rattle.walk.specs.declared.Found.TheVariants.{Row}
use Rattle.walk.specs.declared.JudgedLine.{JudgedLine}
use Rattle.shown_told.specs.Told.{Said, nothing, says, wrong, free_in, said_of, said_by, said_at, said_as, line_says}
use Rattle.shown_read.proofs.FieldTails.{From, from_start, from_behind, Listed, line_listed}
use Rattle.law.specs.FieldPlaces.{Spot, SpelledAt}
use Rattle.law.specs.RowPlaces.{columns_of_all, RowOf}
use Rattle.shown_places.proofs.Spots.{field_in, map_many, placed, places_found, spots_by, spots_in, spots_in_lem}
use Rattle.shown_places.proofs.Fills.{row_fills}

-- the fields gs that a line has from the place m on, with their places and with what stands before them
record Own (b : ℕ) (s : List ℕ) (m : ℕ) (gs : List Field) : Type 0 where
  front : List Spot
  own : List Spot
  spelled : SpelledAt b (front ++ own) s
  are : map field_in own ≡ gs
  found : spots_in (suc (length (drop m s))) (b + m) (drop m s) ≡ own

own_start : (b : ℕ) (s : List ℕ) (fs : List Field) → fields_of s ≡ some fs → Own b s 0 fs
own_start b s fs e =
    let h = places_found b s fs e in
    let z : b + 0 ≡ b = omega arith in
    record { front = []; own = h.spots; spelled = h.spelled; are = h.are; found = rw z (spots_in_lem h.spelled (suc (length s)) (omega arith)) }

own_behind : (b : ℕ) (s : List ℕ) (f : Field) (fs : List Field) → fields_of s ≡ some (f ∷ fs) → Own b s (behind (field_of s)) fs
unfolding fields_of fields_in spots_in
own_behind b s f fs e =
    let h = places_found b s (f ∷ fs) e in
    go (field_of s) refl e h.spots h.spelled (spots_in_lem h.spelled (suc (length s)) (omega arith))
  where
    go : (x : FirstField) → field_of s ≡ x → fields_by x s (λ n. fields_in (length s) (drop n s)) ≡ some (f ∷ fs) → (ps : List Spot) → SpelledAt b ps s
        → spots_by x b s (λ n. spots_in (length s) (b + n) (drop n s)) ≡ ps → Own b s (behind x) fs
    go (Ok None) i h ps sp t = let z : ◌≡◌ {A = ℕ} 0 1 = cc in absurd (omega arith)
    go (Ok (Some c)) i h ps sp t =
        let r = got_lies s c i in
        let d = length-drop c.next s in
        let g = some_before (field c.quoted (take c.len (drop c.start s))) (fields_in (length s) (drop c.next s)) (f ∷ fs) h in
        let k = g.2 in
        let w : g.0 ≡ fs = cc in
        let y = placed (b + c.next) (sound_in (length s) (drop c.next s) fs (g.1 ∙ ap some w)) in
        let o : spots_in (length s) (b + c.next) (drop c.next s) ≡ y.spots = spots_in_lem y.spelled (length s) (omega (arith, r.past, r.within)) in
        record {
          front = record { at = b + c.start; what = field c.quoted (take c.len (drop c.start s)) } ∷ [];
          own = y.spots;
          spelled = subst (λ (u : List Spot). SpelledAt b u s) (sym t ∙ ap (λ (u : List Spot). record { at = b + c.start; what = field c.quoted (take c.len (drop c.start s)) } ∷ u) o) sp;
          are = y.are;
          found = spots_in_lem y.spelled (suc (length (drop c.next s))) (omega arith);
        }
    go (Err b) i h ps sp t = absurd (none_some h)

pub fields_many : {c : Context} {ts : List FieldType} {vs : List Value} {fs : List Field} → SpellsFields c ts vs fs → length fs ≡ length vs
fields_many no_fields = refl
fields_many (more x xs) = ap suc (fields_many xs)

-- the row of a record was filled, and no field was refused
abbrev Rows : ℕ → List ℕ → ℕ → List Value → Result Filling Refusal → Type 0
Rows b s k vs x = (g : Filling) × (x ≡ Ok g) × RowOf b s (record { kind = k; values = vs }) g.row

-- a row that was filled from such fields
row_of : (c : Context) (b : ℕ) (s : List ℕ) (k m : ℕ) (fs : List Field) (vs : List Value) → Own b s m fs → From s m fs → read_fields c (types_of c.rules k) fs ≡ good vs
    → Rows b s k vs (filled c k b s m)
row_of c b s k m fs vs o x e =
    let h = row_fills c b s k m fs vs x.fields e in
    let i : h.0.row ≡ pos k ∷ (columns_of_all vs o.own ++ replicate h.2.left (pos 0)) = rw o.found at h.2.is in
    let j : length (columns_of_all vs o.own) + h.2.left ≡ 9 = rw o.found at h.2.room in (
      h.0,
      h.1,
      record {
        front = o.front;
        own = o.own;
        left = h.2.left;
        spelled = o.spelled;
        each = omega (arith, map_many o.own, ap length o.are, fields_many (values_sound (types_of c.rules k) fs e));
        is = i;
        ten = ap length i ∙ omega (arith, j, length-append (columns_of_all vs o.own) (replicate h.2.left (pos 0)), length-replicate h.2.left (pos 0));
      },
    )

-- a line that says a record and is judged to have a row has the record's row
abbrev pub Rowed : ℕ → List ℕ → Said → JudgedLine → Type 0
Rowed b s nothing j = Unit {0}
Rowed b s (says r t) j = j.found ≡ Row → RowOf b s r j.row
Rowed b s (wrong n) j = Unit {0}

module _ (v : Rules) (st : State) (s : List ℕ) (b : ℕ) where
  refused_rowed : (x : Said) (n : Refusal) → Rowed b s x (refused_by st n)
  refused_rowed nothing n = tt
  refused_rowed (says r t) n = λ h. let z : ◌≡◌ {A = ℕ} 0 1 = cc in absurd (omega arith)
  refused_rowed (wrong m) n = tt

  moved_rowed : (k : ℕ) (vs : List Value) (row : List ℤ) (o p : Result State Reason) → RowOf b s (record { kind = k; values = vs }) row
      → Rowed b s (said_of (record { kind = k; values = vs }) o) (moved_row st row p)
  moved_rowed k vs row (next t) (next u) r = λ h. r
  moved_rowed k vs row (next t) (stops e) r = λ h. let z : ◌≡◌ {A = ℕ} 0 1 = cc in absurd (omega arith)
  moved_rowed k vs row (stops e) p r = tt

  filled_rowed : (k : ℕ) (x : Result Filling Refusal) (a : Reply (List Value)) → ((vs : List Value) → a ≡ good vs → Rows b s k vs x)
      → Rowed b s (said_by v [] st k a) (filled_by v st k x)
  unfolding filled_by
  filled_rowed k x (refused n) g = tt
  filled_rowed k x (good vs) g =
      let h = g vs refl in
      rw h.1 (moved_rowed k vs h.0.row (admit v [] st (record { kind = k; values = vs })) (stepped v st k (type_in_row h.0.row) (point_in h.0.row)) h.2)

  kind_rowed : (k n m : ℕ) (gs : List Field) → Own b s m gs → From s m gs → Rowed b s (said_at v [] st k gs) (of_kind v st k s b n m)
  unfolding said_at of_kind
  kind_rowed k n m gs o x = go (may_stand v st k) (eqb n (length (types_of v k)))
    where
      go : (t u : Bool) → Rowed b s (cond t (said_by v [] st k (read_fields (under v (type_at st)) (types_of v k) gs)) (wrong 5))
          (cond t (cond u (filled_by v st k (filled (under v (type_at st)) k b s m)) (refused_by st FieldCount)) (refused_by st Misplaced))
      go true true = filled_rowed k (filled (under v (type_at st)) k b s m) (read_fields (under v (type_at st)) (types_of v k) gs) (λ vs e. row_of (under v (type_at st)) b s k m gs vs o x e)
      go true false = refused_rowed (said_by v [] st k (read_fields (under v (type_at st)) (types_of v k) gs)) FieldCount
      go false u = tt

  data_rowed : (f : Field) (gs : List Field) → fields_of s ≡ some (f ∷ gs)
      → Rowed b s (said_as v [] st (data_line (f ∷ gs))) (data_by v st s b (is_prop (f ∷ gs)) (length (f ∷ gs)) (behind (field_of s)))
  unfolding data_by
  data_rowed f gs e = go (data_kind v st (is_prop (f ∷ gs))) (is_role (role_of v (data_kind v st (is_prop (f ∷ gs)))) prop)
    where
      go : (k : ℕ) (t : Bool) → Rowed b s (said_at v [] st k (cond t gs (f ∷ gs))) (cond t (of_kind v st k s b (suc (length gs) - 1) (behind (field_of s))) (of_kind v st k s b (suc (length gs)) 0))
      go k true = kind_rowed k _ (behind (field_of s)) gs (own_behind b s f gs e) (from_behind s f gs e)
      go k false = kind_rowed k _ 0 (f ∷ gs) (own_start b s (f ∷ gs) e) (from_start s (f ∷ gs) e)

  free_rowed : (u : State) → Rowed b s (free_in u) (free_by u)
  free_rowed (between g) = tt
  free_rowed (inside g n p) = tt

  as_rowed : (x : Line) → Listed s x → Rowed b s (said_as v [] st x) (judged_by v st s b (kind_by x (behind (field_of s))))
  as_rowed free y = free_rowed st
  as_rowed (bad n) y = tt
  as_rowed (key_line w fs) (f, e) = kind_rowed (key_kind v (keyword_of w)) (suc (length fs) - 1) (behind (field_of s)) fs (own_behind b s f fs e) (from_behind s f fs e)
  as_rowed (data_line fs) (f, gs, z, e) = rw z (data_rowed f gs (rw z at e))

  pub line_rowed : Rowed b s (line_says v [] st s) (judged v st b s)
  unfolding line_says judged kind_of
  line_rowed = as_rowed (line_as s) (line_listed s)
