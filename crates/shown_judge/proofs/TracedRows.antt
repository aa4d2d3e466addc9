-- The trace of a file that says a list has a row for each record of the list, and its type.
use Prim.Native.Nat.{ℕ}
use mathlib.Core.Path.{◌≡◌, ap, ◌∙◌, subst}
use mathlib.Core.List.{List, [], ◌∷◌}
use mathlib.Core.Bool.{Bool, true, false, cond}
use lib.IntN.{ℤ}
use Rattle.text.specs.Lines.{lines_of}
use Rattle.shown_told.proofs.ToldSound.{told_typed}
use Rattle.read.specs.Replies.{type_from, type_of}
use Rattle.law.specs.Values.{Rec}
use Rattle.law.specs.Layouts.{types_of}
use Rattle.law.specs.declared.Rules.TheVariants.{Idf3}
use Rattle.law.specs.Rows.{Holds}
use Rattle.law.specs.Records.{Named}
use Rattle.order.specs.Automaton.{repeats, noted, type_at, start}
use Rattle.order.specs.declared.State.{State}
use Rattle.walk.specs.declared.Walk.{Walk}
use Rattle.walk.specs.Walks as walk
use Rattle.walk.specs.Walks.{Trace, trace_of}
use Rattle.shown_told.specs.Told.{says, wrong, Told, ended, broken, after_nothing, after_record, go_on, told_from}
use Rattle.law.specs.Files.{FileSays, titled}
use Rattle.shown_read.proofs.LineUsed.{line_used}
use Rattle.shown_read.proofs.Traced as follows
use Rattle.shown_read.proofs.Traced.{Follows, trace_follows}
use Rattle.shown_told.proofs.WholeFiles.{accepted_exactly}

-- a trace to the end of a file, each row of which holds the values of a record
pub data Holding (file : List ℕ) : List Rec → Trace → Type 0 where
  done : {w : Walk} → Holding file [] (walk.done w)
  skip : {l : ℕ} {rs : List Rec} {t : Trace} → Holding file rs t → Holding file rs (walk.skip l t)
  row : {l : ℕ} {r : Rec} {x : List ℤ} {rs : List Rec} {t : Trace}
      → Holds file r.kind (types_of Idf3 r.kind) x r.values → Holding file rs t → Holding file (r ∷ rs) (walk.row l x t)

module _ (file : List ℕ) where
  -- what an answer says of a trace
  abbrev Told-in : Trace → Told → Type 0
  Told-in t (ended rs st) = Holding file rs t × (type_from t ≡ type_at st)
  Told-in t (broken k n) = Unit {0}

  in_nothing : (l : ℕ) (t : Trace) (y : Told) → Told-in t y → Told-in (walk.skip l t) (after_nothing y)
  unfolding type_from
  in_nothing l t (ended rs st) m = (skip m.0, m.1)
  in_nothing l t (broken k n) m = tt

  in_record : (r : Rec) (l : ℕ) (x : List ℤ) (t : Trace) (y : Told) → Holds file r.kind (types_of Idf3 r.kind) x r.values → Told-in t y → Told-in (walk.row l x t) (after_record r y)
  unfolding type_from
  in_record r l x t (ended rs st) h m = (row h m.0, m.1)
  in_record r l x t (broken k n) h m = tt

  follows_held : {st : State} {ls : List (List ℕ)} {k : ℕ} {t : Trace} → Follows file st ls k t → (used : List Named) → Told-in t (told_from Idf3 used st ls)
  unfolding told_from type_from
  follows_held (follows.done a b) used = (done, ap type_at a)
  follows_held (follows.stop {st = st} {l = l} e) used = rw (line_used Idf3 used st l, e) tt
  follows_held (follows.skip {st = st} {l = l} {ls = ls} {k = k} {t = t} e f) used = rw (line_used Idf3 used st l, e) (in_nothing k t (told_from Idf3 used st ls) (follows_held f used))
  follows_held (follows.row {st = st} {u = u} {l = l} {ls = ls} {k = k} {r = r} {x = x} {t = t} e h f) used =
      rw (line_used Idf3 used st l, e) (go (repeats Idf3 used r) (follows_held f (noted Idf3 used r)))
    where
      go : (b : Bool) → Told-in t (told_from Idf3 (noted Idf3 used r) u ls)
          → Told-in (walk.row k x t) (go_on (cond b (wrong 12) (says r u)) (told_from Idf3 used st ls) (λ q w. told_from Idf3 (noted Idf3 used q) w ls))
      go true m = tt
      go false m = in_record r k x t (told_from Idf3 (noted Idf3 used r) u ls) h m

  module _ (rs : List Rec) (s : FileSays Idf3 rs file) where
    traced : (en : State) → told_from Idf3 [] start (lines_of file) ≡ ended rs en → Told-in (trace_of file) (ended rs en)
    traced en e = subst (Told-in (trace_of file)) e (follows_held (trace_follows file) [])

    pub trace_holds : Holding file rs (trace_of file)
    trace_holds = let w = (accepted_exactly Idf3 file rs).1 s in (traced w.0 w.1).0

    pub trace_typed : type_of file ≡ titled rs
    trace_typed = let w = (accepted_exactly Idf3 file rs).1 s in (traced w.0 w.1).1 ∙ told_typed Idf3 (lines_of file) rs w.0 w.1 w.2
