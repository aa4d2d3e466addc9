-- Marks of names, by which a walk finds names used twice; no reply depends on them.
use Rattle.std.specs.Prelude.{ℕ, ◌<◌, ◌≡◌, List, Bool, true, false, cond, ◌&&◌, ℤ, length}
use Rattle.rows_texts.specs.Names.{key_of}
use Rattle.rows.specs.RowKinds.{leads_component}
use Rattle.names_slots.specs.Marks.{may_hold, marked}
use Rattle.walk.specs.declared.Turn.{Turn}
use Rattle.walk.specs.Walks.{Trace, done, stop, skip, row, trace_of}
use Rattle.names.specs.Names.{is_named, is_used, repeat_of}

-- where a test passes: a hash may have been marked; with its mark
unfoldable pub held_if : Bool → List ℕ → ℕ → Bool
held_if b marks h = b && may_hold marks h

unfoldable pub marked_if : Bool → List ℕ → ℕ → List ℕ
marked_if b marks h = cond b (marked marks h) marks

-- line n names a doubtful component, one whose hash may have been marked in ds, as a line before it did
unfoldable pub repeats_among : List ℕ → List ℕ → ℕ → Turn → Bool
repeats_among file ds n t = is_named t && (may_hold ds (key_of file t.row) && is_used file n t.row)

-- the first such line, or 0
unfoldable pub repeat_among : List ℕ → List ℕ → Trace → ℕ
repeat_among file ds (done w) = 0
repeat_among file ds (stop k l) = 0
repeat_among file ds (skip l t) = repeat_among file ds t
repeat_among file ds (row l x t) = cond (leads_component x && (may_hold ds (key_of file x) && is_used file l x)) l (repeat_among file ds t)

-- a doubtful name without a mark came on no line before line n
pub record Telling (file : List ℕ) (n : ℕ) (ds marks : List ℕ) : Type 0 where
  pub few : 0 < length ds
  pub room : 0 < length marks
  pub clear : (x : List ℤ) → may_hold ds (key_of file x) ≡ true → may_hold marks (key_of file x) ≡ false → is_used file n x ≡ false

-- the first line that names a component again names a doubtful one, and without a doubt there is no such line
pub record Doubted (file ds : List ℕ) (d : Bool) : Type 0 where
  pub among : repeat_among file ds (trace_of file) ≡ repeat_of file
  pub none : d ≡ false → repeat_of file ≡ 0
