-- Laws of a line in a state, as the code leaves them.
use Prim.Native.Nat.{ℕ, ◌+◌, ◌-◌, ◌^◌, ◌≤◌, ◌<◌}
use mathlib.Core.Path.{◌≡◌, refl, sym, ap, ◌∙◌}
use mathlib.Core.List.{List}
use mathlib.Core.Bool.{Bool, true, false, not}
use native.Mathlib.Omega.{arith}
use borrow.Author.Tests.{eq-eqb, ne_eqb, not-true, not-false}
use lib.IntN.{ℤ}
use lib.ListN.{length, take}
use lib.Seq.{length-take-le}
use Rattle.rows.specs.Columns.{point_in, type_in_row}
use Rattle.rows.specs.declared.Point.{Point}
use Rattle.law.specs.Kinds.{role_of}
use Rattle.law.specs.declared.Role.{Role}
use Rattle.law.specs.declared.Role.TheVariants.{Prop as prop}
use Rattle.law.specs.Layouts.{types_of}
use Rattle.std.specs.Prelude.{Result, Ok, Err, Ok as Next, Err as Stops}
use Rattle.law.specs.declared.Rules.{Rules}
use Rattle.law.specs.declared.refusals.Refusal.{Refusal}
use Rattle.law.specs.declared.refusals.Refusal.TheVariants.{Misplaced, FieldCount}
use Rattle.form.specs.declared.Keyword.{Keyword}
use Rattle.law.specs.declared.FileType.{FileType}
use Rattle.line_rows.specs.LineKinds.{kind_of}
use Rattle.line_rows.specs.Rows.{refused_alone, filled, filled_until}
use Rattle.line_rows.proofs.FillLaws.{alone_filled}
use Rattle.line_rows.specs.declared.LineKind.{LineKind}
use Rattle.line_rows.specs.declared.LineKind.TheVariants.{Key}
use Rattle.line_rows.specs.declared.Filling.{Filling}
use Rattle.line_rows.specs.declared.Stop.{Stop}
use Rattle.order.specs.declared.Stage.{Stage}
use Rattle.order.specs.declared.Phase.{Phase}
use Rattle.order.specs.declared.State.{State}
use Rattle.order.specs.declared.State.TheVariants.{Between, Inside}
use Rattle.order.specs.declared.Reason.{Reason}
use Rattle.order.specs.Places.{data_kind, key_kind}
use Rattle.order.specs.Automaton.{refusal_of, type_at, may_stand, stepped, is_role, moved}
use Rattle.walk.specs.declared.Found.{Found}
use Rattle.walk.specs.declared.Found.TheVariants.{Row, Nothing}
use Rattle.walk.specs.declared.JudgedLine.{JudgedLine}
use Rattle.walk.specs.Judging.{no_row, refused_by, free_by, moved_row, filled_by, of_kind, data_by, judged_by, judged}
use Rattle.walk.proofs.Rooms.{stand_small, key_few, key_some, key_within, data_some, data_within}

pub free_between : (st : State) (g : Stage) → st ≡ Between g → record { found = Nothing; row = no_row; state = st } ≡ free_by st
free_between st g h = rw h

pub free_inside : (st : State) (g : Stage) (s : ℕ) (p : Phase) (r : JudgedLine) → st ≡ Inside g s p → r ≡ refused_by st Misplaced → r ≡ free_by st
free_inside st g s p r h e = let z : refused_by st Misplaced ≡ free_by st = rw h in e ∙ z

pub free_is : (st : State) (f : Found) → f ≡ (free_by st).found → record { found = f; row = no_row; state = st } ≡ free_by st
free_is (Between g) f e = rw e (free_between (Between g) g refl)
free_is (Inside g s p) f e = rw e (free_inside (Inside g s p) g s p (refused_by (Inside g s p) Misplaced) refl refl)

pub moved_next : (st t : State) (row : List ℤ) (o : Result State Reason) → o ≡ Next t → record { found = Row; row = row; state = t } ≡ moved_row st row o
moved_next st t row o h = rw h

pub moved_not : (st : State) (row : List ℤ) (o : Result State Reason) (e : Reason) (n : Refusal) (r : JudgedLine) → o ≡ Stops e → n ≡ refusal_of e Misplaced → r ≡ refused_by st n
    → r ≡ moved_row st row o
moved_not st row o e n r h f g = rw (h, sym f) g

-- fields that were read, or refused
module _ (v : Rules) (st : State) (k : ℕ) (x : Result Filling Stop) (r : JudgedLine) where
  pub filled_bad : (e : Stop) → x ≡ Err e → r ≡ refused_by st e.refusal → r ≡ filled_by v st k (refused_alone x)
  unfolding filled_by
  filled_bad e h i = rw h i

  pub filled_good : (f : Filling) (t : FileType) (d : Point) (o : Result State Reason) → may_stand v st k ≡ true → x ≡ Ok f → t ≡ type_in_row f.row → d ≡ point_in f.row
      → o ≡ moved v st k t d → r ≡ moved_row st f.row o → r ≡ filled_by v st k (refused_alone x)
  unfolding filled_by stepped
  filled_good f t d o y h a b c e = rw (h, sym a, sym b, y, sym c) e

-- a line of a kind
pub kind_stands : (v : Rules) (st : State) (k : ℕ) (x : Bool) → x ≡ may_stand v st k → not x ≡ false → may_stand v st k ≡ true
kind_stands v st k x e h = sym e ∙ not-false x h

module _ (v : Rules) (st : State) (k : ℕ) (s : List ℕ) (b n m : ℕ) (x : Bool) (e : x ≡ may_stand v st k) (r : JudgedLine) where
  pub kind_misplaced : not x ≡ true → r ≡ refused_by st Misplaced → r ≡ of_kind v st k s b n m
  unfolding of_kind
  kind_misplaced h q = rw (sym e ∙ not-true x h) q

  module _ (h : not x ≡ false) (c : ℕ) (i : c ≡ length (types_of v k)) where
    pub kind_count : (n ≡ c → ⊥) → r ≡ refused_by st FieldCount → r ≡ of_kind v st k s b n m
    unfolding of_kind
    kind_count g q = rw (sym e ∙ not-false x h, ne_eqb n (length (types_of v k)) (λ z. g (z ∙ sym i))) q

    pub kind_filled : (t : FileType) (f : Result Filling Stop) → n ≡ c → t ≡ type_at st → f ≡ filled_until (record { rules = v; file = t }) k b s m → r ≡ filled_by v st k (refused_alone f)
        → r ≡ of_kind v st k s b n m
    unfolding of_kind
    kind_filled t f g a d q =
        let z : refused_alone f ≡ filled (record { rules = v; file = t }) k b s m = ap refused_alone d ∙ alone_filled (record { rules = v; file = t }) k b s m in
        rw (sym e ∙ not-false x h, eq-eqb n (length (types_of v k)) (g ∙ i), sym a, sym z) q

-- a data line
module _ (v : Rules) (st : State) (s : List ℕ) (b n m : ℕ) (marked : Bool) (k : ℕ) (j : Role) (x : Bool) (e : k ≡ data_kind v st marked) (i : j ≡ role_of v k) (y : x ≡ is_role j prop) (r : JudgedLine) where
  pub data_prop : x ≡ true → r ≡ of_kind v st k s b (n - 1) m → r ≡ data_by v st s b marked n m
  unfolding data_by
  data_prop h q = let z : is_role j prop ≡ true = sym y ∙ h in rw (sym e, sym i, z) q

  pub data_plain : x ≡ false → r ≡ of_kind v st k s b n 0 → r ≡ data_by v st s b marked n m
  unfolding data_by
  data_plain h q = let z : is_role j prop ≡ false = sym y ∙ h in rw (sym e, sym i, z) q

-- a line by what it is
pub judged_at : (v : Rules) (st : State) (s : List ℕ) (b : ℕ) (x y : Result LineKind Refusal) (r : JudgedLine) → x ≡ kind_of s → x ≡ y → r ≡ judged_by v st s b y → r ≡ judged v st b s
unfolding judged
judged_at v st s b x y r e h q = rw (sym e ∙ h) q

pub judged_key : (v : Rules) (st : State) (s : List ℕ) (b : ℕ) (x : Result LineKind Refusal) (w : Keyword) (n m k : ℕ) (r : JudgedLine) → x ≡ kind_of s → x ≡ Ok (Key w n m) → k ≡ key_kind v w
    → r ≡ of_kind v st k s b (n - 1) m → r ≡ judged v st b s
unfolding judged
judged_key v st s b x w n m k r e h i q = rw (sym e ∙ h, sym i) q

-- the front of a part
pub front_long : (n : ℕ) (s : List ℕ) → n ≤ length s → n ≡ length (take n s)
front_long n s h = sym (length-take-le n s h)

pub front_room : (b n : ℕ) (s : List ℕ) → n ≤ length s → b + length s < 2 ^ 62 → b + length (take n s) < 2 ^ 62
front_room b n s h f = omega (arith, length-take-le n s h)

-- what each function of the code is proved by
pub ruleset filled_laws = (filled_bad, filled_good)

pub ruleset kind_laws = (stand_small, kind_misplaced, kind_stands, kind_count, kind_filled)

pub ruleset data_laws = (data_prop, data_plain)

pub ruleset judged_laws = (key_few, key_some, key_within, data_some, data_within, judged_at, judged_key)
