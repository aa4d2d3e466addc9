-- Rows carry a state as the records do whose values they hold, and rows that carry a state to an end hold the values of records.
use Prim.Native.Nat.{ℕ}
use mathlib.Core.Path.{◌≡◌, refl, sym, ap, ◌∙◌}
use mathlib.Core.Logic.{◌↔◌}
use mathlib.Core.List.{List, [], ◌∷◌}
use mathlib.Core.Bool.{Bool, true, false, cond, false≢true}
use lib.IntN.{ℤ}
use Rattle.rows.specs.Columns.{type_in_row, point_in}
use Rattle.rows.specs.declared.Point.{Point}
use Rattle.law.specs.Values.{Rec}
use Rattle.law.specs.Layouts.{types_of}
use Rattle.law.specs.Fits.{under, well_formed, WellFormed}
use Rattle.law.specs.declared.Rules.{Rules}
use Rattle.law.specs.declared.FileType.{FileType}
use Rattle.law.specs.Rows.{Holds}
use Rattle.law.specs.Records.{type_in}
use Rattle.order.specs.Marks.{point_of}
use Rattle.order.specs.Automaton.{type_at, may_stand, stepped, advance, accepted, accepts}
use Rattle.order.specs.declared.State.{State}
use Rattle.order.specs.declared.Reason.TheVariants.{Misplaced, Unfit}
use Rattle.order.specs.declared.Reason.{Reason}
use Rattle.std.specs.Prelude.{Result, Ok as Next, Err as Refused}
use Rattle.order.proofs.Steps.{advance_is, advance_stepped}
use Rattle.write_columns.specs.Columns.{kind_in, row_fits}
use Rattle.write_columns.specs.Records.{record_in}
use Rattle.write_columns.proofs.RowRecords.{fits_record}
use Rattle.write_columns.proofs.HeldRecords.{held_fits}
use Rattle.write.specs.Writable.{row_step, carries}
use Rattle.shown_read.proofs.LineJoined.{admit_fresh, row_steps}
use Rattle.shown_write.specs.Texts.{ListMeans, none, more, Wide, a_row}

-- a test of the next state
same_accepted : (o : Result State Reason) (f g : State → Bool) → ((t : State) → f t ≡ g t) → accepted o f ≡ accepted o g
same_accepted (Next t) f g h = h t
same_accepted (Refused e) f g h = refl

module _ (v : Rules) where
  barred : (st : State) (k : ℕ) (t : FileType) (d : Point) → may_stand v st k ≡ false → stepped v st k t d ≡ Refused Misplaced
  unfolding stepped
  barred st k t d h = rw h

  unfit_refused : (st : State) (r : Rec) (f : State → Bool) → well_formed (under v (type_at st)) r ≡ false → accepted (advance v st r) f ≡ false
  unfit_refused st r f e = rw (advance_is v st r, e) (go (may_stand v st r.kind))
    where
      go : (b : Bool) → accepted (cond b (Refused Unfit) (Refused Misplaced)) f ≡ false
      go true = refl
      go false = refl

  module _ (bytes : List ℕ) where
    module _ (st : State) (x : List ℤ) (r : Rec) (h : Holds bytes r.kind (types_of v r.kind) x r.values) where
      kind_is : kind_in x ≡ r.kind
      kind_is = ap kind_in h.is

      row_advances : WellFormed (under v (type_at st)) r → stepped v st (kind_in x) (type_in_row x) (point_in x) ≡ advance v st r
      row_advances w = rw kind_is (go (may_stand v st r.kind) refl)
        where
          go : (b : Bool) → may_stand v st r.kind ≡ b → stepped v st r.kind (type_in_row x) (point_in x) ≡ advance v st r
          go true m = sym (row_steps v st bytes r.kind m x r.values h w) ∙ admit_fresh v st r
          go false m = barred st r.kind (type_in_row x) (point_in x) m ∙ sym (advance_stepped v st r w ∙ barred st r.kind (type_in r) (point_of r) m)

      row_does : (f : State → Bool) → accepted (row_step v bytes st x) f ≡ accepted (advance v st r) f
      unfolding row_step
      row_does f = rw (held_fits (under v (type_at st)) bytes x r h) (go (well_formed (under v (type_at st)) r) refl)
        where
          go : (b : Bool) → well_formed (under v (type_at st)) r ≡ b
              → accepted (cond b (stepped v st (kind_in x) (type_in_row x) (point_in x)) (Refused Unfit)) f ≡ accepted (advance v st r) f
          go true e = ap (λ (o : Result State Reason). accepted o f) (row_advances e)
          go false e = sym (unfit_refused st r f e)

    pub carries_is : {rs : List Rec} {xs : List (List ℤ)} → ListMeans v bytes rs xs → (st : State) → carries v bytes st xs ≡ accepts v st rs
    unfolding carries
    carries_is none st = refl
    carries_is (more {r = r} {rs = rs} {x = x} {xs = xs} h m) st =
        row_does st x r h (λ t. carries v bytes t xs) ∙ same_accepted (advance v st r) (λ t. carries v bytes t xs) (λ t. accepts v t rs) (λ t. carries_is m t)

    carries_means : (xs : List (List ℤ)) (st : State) → Wide xs → carries v bytes st xs ≡ true → (rs : List Rec) × ListMeans v bytes rs xs
    unfolding carries row_step
    carries_means [] st w c = ([], none)
    carries_means (x ∷ xs) st (a_row h w) c = go (row_fits (under v (type_at st)) bytes x) refl c (λ t. carries_means xs t w)
      where
        rest : (o : Result State Reason) → accepted o (λ t. carries v bytes t xs) ≡ true → ((t : State) → carries v bytes t xs ≡ true → (rs : List Rec) × ListMeans v bytes rs xs)
            → (rs : List Rec) × ListMeans v bytes rs xs
        rest (Next t) c ih = ih t c
        rest (Refused e) c ih = absurd (false≢true c)

        go : (b : Bool) → row_fits (under v (type_at st)) bytes x ≡ b
            → accepted (cond b (stepped v st (kind_in x) (type_in_row x) (point_in x)) (Refused Unfit)) (λ t. carries v bytes t xs) ≡ true
            → ((t : State) → carries v bytes t xs ≡ true → (rs : List Rec) × ListMeans v bytes rs xs)
            → (rs : List Rec) × ListMeans v bytes rs (x ∷ xs)
        go true e c ih =
            let p = rest (stepped v st (kind_in x) (type_in_row x) (point_in x)) c ih in
            (record_in v bytes x ∷ p.0, more (fits_record (under v (type_at st)) bytes x h e).0 p.1)
        go false e c ih = absurd (false≢true c)

    -- rows carry a state to one where a file may end exactly if they hold the values of records that do
    pub carries_iff : (xs : List (List ℤ)) (st : State) → Wide xs → (carries v bytes st xs ≡ true) ↔ ((rs : List Rec) × ListMeans v bytes rs xs × (accepts v st rs ≡ true))
    carries_iff xs st w = (
      λ c. let p = carries_means xs st w c in (p.0, p.1, sym (carries_is p.1 st) ∙ c),
      λ p. carries_is p.1 st ∙ p.2,
    )
