-- A loop that passes the fields of a line one by one, by calls of `field` on the part that is left.
use Prim.Native.Nat.{ℕ, zero, suc, pred, ◌+◌, ◌-◌, ◌≤◌, ◌<◌}
use mathlib.Core.Path.{◌≡◌, refl, sym, subst, ◌∙◌}
use mathlib.Core.List.{List, [], ◌∷◌, ◌++◌, append_assoc, append-nil}
use mathlib.Core.Option.{Option, none, some}
use native.Mathlib.Nat.{not-suc-le-zero}
use native.Mathlib.Omega.{arith}
use lib.ListN.{length, take, drop, length-drop, length-append}
use lib.Seq.{drop-drop}
use Rattle.basics.proofs.Lists.{rest}
use Rattle.law.specs.Fields.{Field, field}
use Rattle.text_fields.specs.FirstField.{FirstField, field_of}
use Rattle.text_fields.specs.Fields.{before, fields_by, fields_in, fields_of}
use Rattle.std.specs.Prelude.{Some, None, Ok, Err}
use Rattle.text_fields.specs.declared.FoundField.{FoundField}
use Rattle.text_fields.specs.declared.BrokenQuoting.{BrokenQuoting}
use Rattle.text_fields.proofs.Bounds.{Lies, Bounded, bounded}

-- fields in front of others, if there are others
abbrev pub behind : List Field → Option (List Field) → Option (List Field)
behind fs none = none
behind fs (some gs) = some (fs ++ gs)

behind_nil : (r : Option (List Field)) → r ≡ behind [] r
behind_nil none = refl
behind_nil (some gs) = refl

behind_before : (fs : List Field) (f : Field) (r : Option (List Field)) → behind fs (before f r) ≡ behind (fs ++ (f ∷ [])) r
behind_before fs f none = refl
behind_before fs f (some gs) = simp append_assoc

-- one turn, where any fuel is left
fields_step : (fuel : ℕ) (s : List ℕ) → 0 < fuel → fields_in fuel s ≡ fields_by (field_of s) s (λ n. fields_in (pred fuel) (drop n s))
unfolding fields_in
fields_step zero s h = absurd (not-suc-le-zero h)
fields_step (suc fuel) s h = refl

-- The fields that end before `at` are `done`, and some fuel is enough for what is left
pub record Walking (line : List ℕ) (at : ℕ) (done : List Field) : Type 0 where
  pub within : at ≤ length line
  pub passed : length done ≤ at
  pub fuel : ℕ
  pub enough : length line < at + fuel
  pub left : fields_of line ≡ behind done (fields_in fuel (drop at line))

pub walk_start : (line : List ℕ) → Walking line 0 []
unfolding fields_of
walk_start line = record { within = omega arith; passed = omega arith; fuel = suc (length line); enough = omega arith; left = behind_nil _ }

-- r is what `field` answers at the part from `at`
module _ {line : List ℕ} {at : ℕ} {done : List Field} {r : FirstField} (w : Walking line at done) (e : r ≡ field_of (take (length line - at) (drop at line))) where
  here : {x : FirstField} → r ≡ x → field_of (drop at line) ≡ x
  here h = sym (rw rest at e) ∙ h

  left_by : {x : FirstField} → r ≡ x → fields_of line ≡ behind done (fields_by x (drop at line) (λ m. fields_in (pred w.fuel) (drop m (drop at line))))
  left_by h = rw (fields_step w.fuel (drop at line) (omega arith), here h) at w.left

  pub walk_none : r ≡ Ok None → fields_of line ≡ some done
  walk_none h = rw append-nil at (left_by h)

  pub walk_bad : {b : BrokenQuoting} → r ≡ Err b → fields_of line ≡ none
  walk_bad h = left_by h

  module _ {f : FoundField} (h : r ≡ Ok (Some f)) where
    pub walk_lies : Lies at (length line - at) (at + f.start) f.len (at + f.next)
    walk_lies =
        let b : Lies 0 (length (drop at line)) f.start f.len f.next = subst (Bounded 0 (length (drop at line))) (here h) (bounded (drop at line)) in
        record { past = omega arith; within = omega (arith, length-drop at line); inside = omega arith }

    left_next : fields_of line ≡ behind (done ++ (field f.quoted (take f.len (drop (at + f.start) line)) ∷ [])) (fields_in (pred w.fuel) (drop (at + f.next) line))
    left_next = rw (drop-drop f.start at line, drop-drop f.next at line, behind_before) at (left_by h)

    pub walk_next : Walking line (at + f.next) (done ++ (field f.quoted (take f.len (drop (at + f.start) line)) ∷ []))
    walk_next =
        let b = walk_lies in
        record {
          within = omega arith;
          passed = omega (arith, length-append done (field f.quoted (take f.len (drop (at + f.start) line)) ∷ []));
          fuel = pred w.fuel;
          enough = omega arith;
          left = left_next;
        }
