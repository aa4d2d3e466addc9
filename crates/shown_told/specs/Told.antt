-- What a line says in a state, and what the lines of a file say: the whole order of refusals on a line stands here.
use Rattle.std.specs.Prelude.{ℕ, suc, List, [], ◌∷◌, cond, drop, Result, Ok as next, Err as stops}
use Rattle.law.specs.Fields.{Field}
use Rattle.law.specs.Values.{Value, Rec}
use Rattle.form.specs.Values.{Reply, good, refused}
use Rattle.law.specs.Refusals.{number_of}
use Rattle.law.specs.declared.refusals.Refusal.TheVariants.{Misplaced}
use Rattle.law.specs.Kinds.{role_of}
use Rattle.law.specs.declared.Role.TheVariants.{Prop as prop}
use Rattle.law.specs.Layouts.{types_of}
use Rattle.law.specs.Fits.{under}
use Rattle.form.specs.Reading.{read_fields, Line, free, bad, key_line, data_line, line_as, keyword_of}
use Rattle.law.specs.declared.Rules.{Rules}
use Rattle.line_rows.specs.LineKinds.{is_prop}
use Rattle.law.specs.Records.{Named}
use Rattle.order.specs.Places.{data_kind, key_kind}
use Rattle.order.specs.Automaton.{is_role, refusal_of, type_at, may_stand, admit, noted}
use Rattle.order.specs.declared.State.{State}
use Rattle.order.specs.declared.State.TheVariants.{Between as between, Inside as inside}
use Rattle.order.specs.declared.Reason.{Reason}

-- nothing; a record, and the state after it; or the number of a refusal
pub data Said : Type 0 where
  nothing : Said
  says : Rec → State → Said
  wrong : ℕ → Said

-- a comment or blank line stands between sections: else 5
abbrev pub free_in : State → Said
free_in (between g) = nothing
free_in (inside g s p) = wrong 5

-- the loop rule, 11, then names used before, 12
abbrev pub said_of : Rec → Result State Reason → Said
said_of r (next t) = says r t
said_of r (stops e) = wrong (number_of (refusal_of e Misplaced))

abbrev pub said_by : Rules → List Named → State → ℕ → Reply (List Value) → Said
said_by v used st k (good vs) = let r : Rec = record { kind = k; values = vs } in said_of r (admit v used st r)
said_by v used st k (refused e) = wrong (number_of e)

-- a line of kind k: 5 where it cannot stand, 6 for the number of its fields, then each field by 7 to 10
unfoldable pub said_at : Rules → List Named → State → ℕ → List Field → Said
said_at v used st k fs = cond (may_stand v st k) (said_by v used st k (read_fields (under v (type_at st)) (types_of v k) fs)) (wrong 5)

-- PROP itself is no field
abbrev pub own_fields : Rules → ℕ → List Field → List Field
own_fields v k fs = cond (is_role (role_of v k) prop) (drop 1 fs) fs

-- 3 and 4 come before all that
abbrev pub said_as : Rules → List Named → State → Line → Said
said_as v used st free = free_in st
said_as v used st (bad e) = wrong (number_of e)
said_as v used st (key_line w fs) = said_at v used st (key_kind v (keyword_of w)) fs
said_as v used st (data_line fs) = let k = data_kind v st (is_prop fs) in said_at v used st k (own_fields v k fs)

-- what a line says in a state, after components with these names
unfoldable pub line_says : Rules → List Named → State → List ℕ → Said
line_says v used st l = said_as v used st (line_as l)

-- what lines say: their records and the state at the end; or a line, counted from 0, and the number of its refusal
pub data Told : Type 0 where
  ended : List Rec → State → Told
  broken : ℕ → ℕ → Told

abbrev pub after_nothing : Told → Told
after_nothing (ended rs st) = ended rs st
after_nothing (broken k n) = broken (suc k) n

abbrev pub after_record : Rec → Told → Told
after_record r (ended rs st) = ended (r ∷ rs) st
after_record r (broken k n) = broken (suc k) n

abbrev pub go_on : Said → Told → (Rec → State → Told) → Told
go_on nothing t f = after_nothing t
go_on (says r st) t f = after_record r (f r st)
go_on (wrong n) t f = broken 0 n

-- line by line, up to the first that is refused
unfoldable pub told_from : Rules → List Named → State → List (List ℕ) → Told
told_from v used st [] = ended [] st
told_from v used st (l ∷ ls) = go_on (line_says v used st l) (told_from v used st ls) (λ r t. told_from v (noted v used r) t ls)
