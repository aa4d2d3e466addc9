-- What names used before change in what a line says: a record that repeats one is refused by 12, and nothing else.
use Prim.Native.Nat.{ℕ}
use mathlib.Core.Path.{◌≡◌, refl}
use mathlib.Core.List.{List, []}
use mathlib.Core.Bool.{Bool, true, false, cond}
use Rattle.law.specs.Fields.{Field}
use Rattle.law.specs.Values.{Value, Rec}
use Rattle.form.specs.Values.{Reply, good, refused}
use Rattle.law.specs.Layouts.{types_of}
use Rattle.law.specs.Fits.{under}
use Rattle.form.specs.Reading.{read_fields, Line, free, bad, key_line, data_line, line_as, keyword_of}
use Rattle.law.specs.declared.Rules.{Rules}
use Rattle.line_rows.specs.LineKinds.{is_prop}
use Rattle.law.specs.Records.{Named}
use Rattle.order.specs.Places.{data_kind, key_kind}
use Rattle.order.specs.Automaton.{type_at, may_stand, repeats, unless, advance}
use Rattle.order.specs.declared.State.{State}
use Rattle.order.specs.declared.State.TheVariants.{Between as between, Inside as inside}
use Rattle.order.specs.declared.Reason.{Reason}
use Rattle.std.specs.Prelude.{Result, Ok as next, Err as stops}
use Rattle.shown_told.specs.Told.{Said, nothing, says, wrong, free_in, said_of, said_by, said_at, own_fields, said_as, line_says}
use Rattle.shown_read.proofs.LineJoined.{admit_fresh}

-- what a line says, after components with these names
abbrev pub unless_used : Rules → List Named → Said → Said
unless_used v used nothing = nothing
unless_used v used (says r t) = cond (repeats v used r) (wrong 12) (says r t)
unless_used v used (wrong n) = wrong n

module _ (v : Rules) (used : List Named) (st : State) where
  of_used : (r : Rec) (b : Bool) (o : Result State Reason) → repeats v used r ≡ b → said_of r (unless b o) ≡ unless_used v used (said_of r o)
  of_used r true (next t) e = rw e
  of_used r false (next t) e = rw e
  of_used r b (stops x) e = refl

  by_used : (k : ℕ) (a : Reply (List Value)) → said_by v used st k a ≡ unless_used v used (said_by v [] st k a)
  by_used k (good vs) = let r : Rec = record { kind = k; values = vs } in rw (admit_fresh v st r) (of_used r (repeats v used r) (advance v st r) refl)
  by_used k (refused n) = refl

  at_used : (k : ℕ) (fs : List Field) → said_at v used st k fs ≡ unless_used v used (said_at v [] st k fs)
  unfolding said_at
  at_used k fs = go (may_stand v st k)
    where
      a : Reply (List Value)
      a = read_fields (under v (type_at st)) (types_of v k) fs

      go : (b : Bool) → cond b (said_by v used st k a) (wrong 5) ≡ unless_used v used (cond b (said_by v [] st k a) (wrong 5))
      go true = by_used k a
      go false = refl

  free_used : (t : State) → free_in t ≡ unless_used v used (free_in t)
  free_used (between g) = refl
  free_used (inside g s p) = refl

  as_used : (x : Line) → said_as v used st x ≡ unless_used v used (said_as v [] st x)
  as_used free = free_used st
  as_used (bad n) = refl
  as_used (key_line w fs) = at_used (key_kind v (keyword_of w)) fs
  as_used (data_line fs) = let k = data_kind v st (is_prop fs) in at_used k (own_fields v k fs)

  -- names add only that a record which repeats one is refused by 12
  pub line_used : (s : List ℕ) → line_says v used st s ≡ unless_used v used (line_says v [] st s)
  unfolding line_says
  line_used s = as_used (line_as s)
