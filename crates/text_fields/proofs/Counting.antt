-- The loop that counts the fields of a line.
use Prim.Native.Nat.{ℕ, ◌+◌, ◌-◌, ◌^◌, ◌<◌}
use mir.Syntax.{w64}
use mir.Val.{Fits}
use mathlib.Core.Path.{◌≡◌, refl, ap}
use mathlib.Core.List.{List, [], ◌∷◌}
use native.Mathlib.Omega.{arith}
use lib.ListN.{length, take, drop, length-append}
use Rattle.law.specs.Fields.{Field, field}
use Rattle.text_fields.specs.FirstField.{field_of}
use Rattle.text_fields.specs.Fields.{count_of}
use Rattle.std.specs.Prelude.{Option, Some, None, Ok, Err}
use Rattle.text_fields.specs.declared.FoundField.{FoundField}
use Rattle.text_fields.specs.declared.BrokenQuoting.{BrokenQuoting}
use Rattle.text_fields.proofs.Walk.{Walking, walk_start, walk_none, walk_bad, walk_lies, walk_next}
use Rattle.text_fields.proofs.Bounds.{Lies}

pub record Counting (line : List ℕ) (at n : ℕ) : Type 0 where
  pub done : List Field
  pub walk : Walking line at done
  pub is : n ≡ length done

pub count_start : (line : List ℕ) → Counting line 0 0
count_start line = record { done = []; walk = walk_start line; is = refl }

-- by what `field` answers at the part from `at`
module _ {line : List ℕ} {at n : ℕ} (i : Counting line at n) where
  pub count_bad : {b : BrokenQuoting} → Err b ≡ field_of (take (length line - at) (drop at line)) → Err b ≡ count_of line
  unfolding count_of
  count_bad e = rw (walk_bad i.walk e refl)

  module _ {x : Option FoundField} (e : Ok x ≡ field_of (take (length line - at) (drop at line))) where
    pub count_none : x ≡ None → Ok n ≡ count_of line
    unfolding count_of
    count_none h = rw (walk_none i.walk e (ap Ok h), i.is)

    module _ {f : FoundField} (h : x ≡ Some f) where
      pub count_next : Counting line (at + f.next) (n + 1)
      count_next = record {
        done = _;
        walk = walk_next i.walk e (ap Ok h);
        is = omega (arith, i.is, length-append i.done (field f.quoted (take f.len (drop (at + f.start) line)) ∷ []));
      }

      next_within : Lies at (length line - at) (at + f.start) f.len (at + f.next)
      next_within = walk_lies i.walk e (ap Ok h)

      pub next_fits : length line < 2 ^ 64 → Fits w64 (at + f.next)
      next_fits k = let b = next_within in record { fits = omega arith }

      pub count_fits : length line < 2 ^ 64 → Fits w64 (n + 1)
      count_fits k = let b = next_within in let p = i.walk.passed in record { fits = omega (arith, i.is) }

      pub count_less : length line - (at + f.next) < length line - at
      count_less = let b = next_within in omega arith

pub ruleset counting = (count_start, count_none, count_bad, count_next, next_fits, count_fits, count_less)
