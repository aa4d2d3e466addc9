-- A line is refused by a number exactly where the rules say that it is faulty by it.
use Prim.Native.Nat.{ℕ}
use mathlib.Core.Path.{◌≡◌, refl, sym, ap, ◌∙◌, subst}
use mathlib.Core.Logic.{◌≢◌, ◌⊎◌, inl, inr}
use mathlib.Core.List.{List, [], ◌∷◌, ◌++◌}
use Rattle.std.specs.Prelude.{Option, Some as some, None as none, Result, Ok as next, Err as stops}
use mathlib.Core.Bool.{Bool, true, false, cond}
use native.Mathlib.Omega.{arith}
use lib.Dec.{eqb}
use lib.ListN.{length}
use Rattle.law.specs.Refusals.{number_of}
use Rattle.law.specs.declared.refusals.Refusal.{Refusal}
use Rattle.law.specs.declared.refusals.Refusal.TheVariants.{Misplaced, FieldCount}
use Rattle.law.specs.Bytes.{permitted, All}
use Rattle.law.specs.Fields.{Field, Spelled}
use Rattle.law.specs.Lines.{Free}
use Rattle.law.specs.Values.{Value, Rec}
use Rattle.form.specs.Values.{Reply, good, refused}
use Rattle.law.specs.Kinds.{role_of}
use Rattle.law.specs.declared.Role.TheVariants.{Point as point}
use Rattle.law.specs.Layouts.{types_of}
use Rattle.law.specs.Fits.{under, WellFormed}
use Rattle.form.specs.Reading.{read_fields, Line, free, bad, key_line, data_line, by_first, line_as}
use Rattle.law.specs.declared.Rules.{Rules}
use Rattle.law.specs.declared.FileType.{FileType}
use Rattle.order_loops.specs.Loops.{loop_after, complete}
use Rattle.order_loops.specs.declared.LoopState.{LoopState}
use Rattle.rows.specs.declared.Point.{Point}
use Rattle.law.specs.Records.{many_loops, type_in, Named}
use Rattle.order.specs.Marks.{point_of}
use Rattle.order.specs.Automaton.{start, is_role, refusal_of, after_point, only_if, moved_in, moved, advance, type_at, may_stand, repeats, noted, unless, admit}
use Rattle.order.specs.declared.Phase.{Phase}
use Rattle.order.specs.declared.Phase.TheVariants.{AwaitTitle as await_title, AwaitName as await_name, HeaderFull as header_full, AwaitLead as await_lead, InPoints as in_points, InProps as in_props, InList as in_list, AwaitPart as await_part, AwaitPosition as await_position}
use Rattle.order.specs.declared.State.{State}
use Rattle.order.specs.declared.State.TheVariants.{Between as between, Inside as inside}
use Rattle.order.specs.declared.Reason.{Reason}
use Rattle.order.specs.declared.Reason.TheVariants.{BadLoop as bad_loop}
use Rattle.order.proofs.Steps.{advance_is}
use Rattle.law.specs.Lists.{Permitted, Distinct, names_of}
use Rattle.basics.proofs.Bools.{not_both}
use Rattle.shown_lists.proofs.Names.{Unused, unused_none, unused_differ, differ_unused}
use Rattle.shown_lists.proofs.FirstLine.{taken, unused_on, unused_back, leads_one}
use Rattle.shown_lists.proofs.Complete.{permitted_accepted}
use Rattle.shown_lists.proofs.CompletePoints.{Leads, here, step}
use Rattle.law.specs.RecordSpelling.{SpellsFields}
use Rattle.shown_spelling.proofs.ValueSpelling.{values_sound, values_complete}
use Rattle.shown_spelling.proofs.RecordSpelling.{record_fits}
use Rattle.shown_told.specs.Told.{Said, nothing, says, wrong, free_in, said_of, said_by, said_at, said_as, line_says}
use Rattle.law.specs.Files.{titled}
use Rattle.shown_told.proofs.Fronts.{stands_known, zero_unknown}
use Rattle.shown_told.proofs.FreeLines.{free_line_lem, line_free}
use Rattle.shown_told.proofs.LineSound.{Known, Behind, line_sound, record_spelled}
use Rattle.law.specs.LineSpelling.{Where}
use Rattle.law.specs.LineSpelling as at
use Rattle.shown_told.proofs.ToldSound.{where_of, leads_where}
use Rattle.shown_told.proofs.Readings.{Through, done, pass, take_in}
use Rattle.law.specs.FieldFaults.{FaultyFields}
use Rattle.law.specs.LineFaults.{HasFields, where_after, Suits, IsOf, LineOf, HasRecord, Faulty, by_3, by_4, by_5, free_5, by_6, by_field, by_11, by_12}
use Rattle.shown_spelling.proofs.FieldNumbers.{fields_fault, fields_miscounted, fields_refused}
use Rattle.shown_told.proofs.Apart.{refused_next, stands_may, accepts_part, accepts_one}
use Rattle.shown_told.proofs.Standing.{carries_on}
use Rattle.shown_told.proofs.Looks.{Seen, line_seen, line_of, first_not_bad}
use Rattle.shown_told.proofs.KindOf.{kind_in, own_in, kind_behind, suits_may, is_of_lem, one_kind}
use Rattle.shown_told.proofs.Titles.{titled_fields}

one_wrong : {m n : ℕ} → wrong m ≡ wrong n → m ≡ n
one_wrong {m} {n} e = cc

nothing_wrong : {n : ℕ} → nothing ≡ wrong n → ⊥
nothing_wrong {n} e = let z : ◌≡◌ {A = ℕ} 0 1 = cc in omega arith

says_wrong : {r : Rec} {t : State} {n : ℕ} → says r t ≡ wrong n → ⊥
says_wrong {r} {t} {n} e = let z : ◌≡◌ {A = ℕ} 0 1 = cc in omega arith

-- A line that may stand and is well formed breaks the loop rule only
moved_loop : (v : Rules) (st : State) (k : ℕ) (t : FileType) (d : Point) (e : Reason) → moved v st k t d ≡ stops e → e ≡ bad_loop
unfolding moved
moved_loop v (between g) k t d e h = absurd (refused_next (sym h))
moved_loop v (inside g s p) k t d e h = phase p h
  where
    on : (b : Bool) (x : State) → only_if b (next x) ≡ stops e → e ≡ bad_loop
    on true x h = absurd (refused_next (sym h))
    on false x h = cc

    at_point : (o : Option LoopState) → after_point g s o ≡ stops e → e ≡ bad_loop
    at_point none h = cc
    at_point (some l) h = absurd (refused_next (sym h))

    among : (b : Bool) (l : LoopState) (x : State) → cond b (after_point g s (loop_after (many_loops s) l d)) (only_if (complete l) (next x)) ≡ stops e → e ≡ bad_loop
    among true l x h = at_point (loop_after (many_loops s) l d) h
    among false l x h = on (complete l) x h

    phase : (p : Phase) → moved_in g s p (role_of v k) t d ≡ stops e → e ≡ bad_loop
    phase await_title h = absurd (refused_next (sym h))
    phase (await_name u) h = absurd (refused_next (sym h))
    phase (header_full u) h = absurd (refused_next (sym h))
    phase await_lead h = absurd (refused_next (sym h))
    phase (in_points l) h = among (is_role (role_of v k) point) l _ h
    phase in_props h = absurd (refused_next (sym h))
    phase in_list h = absurd (refused_next (sym h))
    phase await_part h = absurd (refused_next (sym h))
    phase await_position h = absurd (refused_next (sym h))

bad_loop_lem : (v : Rules) (st : State) (r : Rec) (e : Reason) → may_stand v st r.kind ≡ true → WellFormed (under v (type_at st)) r → advance v st r ≡ stops e → e ≡ bad_loop
bad_loop_lem v st r e m w h = moved_loop v st r.kind (type_in r) (point_of r) e (sym (rw (m, w) at (advance_is v st r)) ∙ h)

module _ (v : Rules) where
  -- Names: those of a list after names used before it
  abbrev pub used_by : List Named → List Rec → List Named
  used_by used [] = used
  used_by used (r ∷ rs) = used_by (noted v used r) rs

  unused_new : (used : List Named) (rs : List Rec) (r : Rec) → Unused used (names_of v (rs ++ (r ∷ []))) → repeats v (used_by used rs) r ≡ false
  unused_new used [] r u = (unused_back v used r [] u).0
  unused_new used (q ∷ rs) r u = unused_new (noted v used q) rs r (unused_back v used q (rs ++ (r ∷ [])) u).1

  new_unused : {used : List Named} {st en : State} {ls : List (List ℕ)} {rs : List Rec} (r : Rec) → Through v used st ls rs en → repeats v (used_by used rs) r ≡ false
      → Unused used (names_of v (rs ++ (r ∷ [])))
  new_unused {used} r done h = unused_on v used r [] h unused_none
  new_unused r (pass e k) h = new_unused r k h
  new_unused {used} {st} r (take_in {mid = t} {l = l} {r = q} {rs = rs} e k) h =
      unused_on v used q (rs ++ (r ∷ [])) (taken v used st t q (line_sound v used st l q t e).1).is_new (new_unused r k h)

  -- the records of lines lead where the lines do
  pub through_leads : {used : List Named} {st en : State} {ls : List (List ℕ)} {rs : List Rec} → Through v used st ls rs en → Leads v st rs en
  through_leads done = here
  through_leads (pass e k) = through_leads k
  through_leads {used} {st} (take_in {mid = t} {l = l} {r = q} e k) = step (taken v used st t q (line_sound v used st l q t e).1).moves (through_leads k)

  through_where : {used : List Named} {st en : State} {ls : List (List ℕ)} {rs : List Rec} → Through v used st ls rs en → where_after v (where_of st) rs ≡ where_of en
  through_where done = refl
  through_where (pass e k) = through_where k
  through_where {used} {st} (take_in {mid = t} {l = l} {r = q} {rs = rs} e k) =
      ap (λ (w : Where). where_after v w rs) (leads_where v used st t q (line_sound v used st l q t e).1) ∙ through_where k

  module _ {ls : List (List ℕ)} {rs : List Rec} {st : State} (th : Through v [] start ls rs st) where
    abbrev used : List Named
    used = used_by [] rs

    y : Leads v start rs st
    y = through_leads th

    -- a permitted list that goes on with a record moves the state by it
    moves_on_lem : (r : Rec) (more : List Rec) → Permitted v (rs ++ (r ∷ more)) → (t : State) × (advance v st r ≡ next t)
    moves_on_lem r more p =
        let w = accepts_part v rs (r ∷ more) start (permitted_accepted v p) in
        let t = accepts_one v r more w.0 w.2 in
        (t.0, subst (λ (x : State). advance v x r ≡ next t.0) (leads_one v w.1 y) t.1)

    module _ (l : List ℕ) where
      -- Sound
      module _ (n : ℕ) where
        free_faulty : (s : State) → st ≡ s → free_in s ≡ wrong n → Free l → Faulty v rs l n
        free_faulty (between g) i e f = absurd (nothing_wrong e)
        free_faulty (inside g s p) i e f = subst (Faulty v rs l) (one_wrong e) (free_5 f (through_where th ∙ ap where_of i))

        module _ (x : Line) (i : line_as l ≡ x) (fs : List Field) (hf : HasFields l fs) (e : x ≡ by_first fs) where
          abbrev k : ℕ
          k = kind_in v st x

          abbrev gs : List Field
          gs = own_in v st x

          line_of_kind : may_stand v st k ≡ true → LineOf v rs l k gs
          line_of_kind m = record { fields = fs; has = hf; is = is_of_lem v rs st y fs x e m }

          -- a record whose fields are good
          record_faulty : (m : may_stand v st k ≡ true) (vs : List Value) → read_fields (under v (type_at st)) (types_of v k) gs ≡ good vs
              → said_of (record { kind = k; values = vs }) (admit v used st (record { kind = k; values = vs })) ≡ wrong n → Faulty v rs l n
          record_faulty m vs h z = go (repeats v used r) (advance v st r) refl refl z
            where
              r : Rec
              r = record { kind = k; values = vs }

              good_fields : SpellsFields (under v (titled rs)) (types_of v k) vs gs
              good_fields = values_sound (types_of v k) gs (sym (titled_fields v k gs y m) ∙ h)

              has : HasRecord v rs l r
              has = record { own = gs; line = line_of_kind m; good = good_fields }

              u : Known v k
              u = stands_known v st k m

              fits : WellFormed (under v (type_at st)) r
              fits = record_fits (record_spelled v used st l k gs vs u (subst (λ (w : Line). Behind v k w gs) (sym i) (kind_behind v st x u)) h)

              go : (b : Bool) (o : Result State Reason) → repeats v used r ≡ b → advance v st r ≡ o → said_of r (unless b o) ≡ wrong n → Faulty v rs l n
              go b (stops q) p a z =
                  let w : q ≡ bad_loop = bad_loop_lem v st r q m fits a in
                  let t : 11 ≡ n = one_wrong (ap (λ (c : Reason). wrong (number_of (refusal_of c Misplaced))) (sym w) ∙ z) in
                  subst (Faulty v rs l) t (by_11 {r = r} has (λ more d. refused_next (sym a ∙ (moves_on_lem r more d).1)))
              go true (next t) p a z =
                  let w = carries_on v r y a in
                  subst (Faulty v rs l) (one_wrong z) (by_12 {r = r} w.0 has w.1 (λ d. not_both p (unused_new [] rs r (differ_unused d))))
              go false (next t) p a z = absurd (says_wrong z)

          at_faulty : said_at v used st k gs ≡ wrong n → Faulty v rs l n
          unfolding said_at
          at_faulty h = go (may_stand v st k) refl (read_fields (under v (type_at st)) (types_of v k) gs) refl h
            where
              counted : (m : may_stand v st k ≡ true) (j : Refusal) → ((length gs ≢ length (types_of v k)) × (j ≡ FieldCount)) ⊎ ((length gs ≡ length (types_of v k)) × FaultyFields (under v (titled rs)) (types_of v k) gs (number_of j))
                  → Faulty v rs l (number_of j)
              counted m j (inl (d, z)) = subst (λ (e : Refusal). Faulty v rs l (number_of e)) (sym z) (by_6 (line_of_kind m) d)
              counted m j (inr (d, f)) = by_field (line_of_kind m) d f

              go : (b : Bool) → may_stand v st k ≡ b → (a : Reply (List Value)) → read_fields (under v (type_at st)) (types_of v k) gs ≡ a → cond b (said_by v used st k a) (wrong 5) ≡ wrong n → Faulty v rs l n
              go true m (good vs) a z = record_faulty m vs a z
              go true m (refused j) a z = subst (Faulty v rs l) (one_wrong z) (counted m j (fields_fault (under v (titled rs)) (types_of v k) gs j (sym (titled_fields v k gs y m) ∙ a)))
              go false m a b z = subst (Faulty v rs l) (one_wrong z) (by_5 hf (λ j hs s. not_both (suits_may v rs st y x e s) m))

        bad_free : (j : Refusal) → line_as l ≡ bad j → Free l → ⊥
        bad_free j e f = let w = free_line_lem f in let z : ◌≡◌ {A = ℕ} 0 1 = cc in omega arith

        as_faulty : (x : Line) → line_as l ≡ x → Seen l x → said_as v used st x ≡ wrong n → Faulty v rs l n
        as_faulty free i s h = free_faulty st refl h s
        as_faulty (bad j) i (inl (z, na)) h = subst (Faulty v rs l) (ap number_of (sym z) ∙ one_wrong h) (by_3 (bad_free j i) na)
        as_faulty (bad j) i (inr (z, a, ns)) h = subst (Faulty v rs l) (ap number_of (sym z) ∙ one_wrong h) (by_4 (bad_free j i) a ns)
        as_faulty (key_line w gs) i (fs, hf, e) h = at_faulty (key_line w gs) i fs hf (sym i ∙ e) h
        as_faulty (data_line gs) i (fs, hf, e) h = at_faulty (data_line gs) i fs hf (sym i ∙ e) h

        -- a refused line is faulty by its number
        pub line_faulty : line_says v used st l ≡ wrong n → Faulty v rs l n
        unfolding line_says
        line_faulty h = as_faulty (line_as l) refl (line_seen l) h

      -- Complete
      zero_stands : {A : Type 0} → may_stand v st 0 ≡ true → A
      zero_stands m = absurd (not_both (rw (zero_unknown v)) (stands_known v st 0 m))

      module _ {fs gs : List Field} {k : ℕ} (hf : HasFields l fs) (o : IsOf v rs fs k gs) where
        stands : may_stand v st k ≡ true
        stands = stands_may v y o.suits.stands

        -- the line says what a line of its kind with its fields says
        said_at_lem : line_says v used st l ≡ said_at v used st k gs
        unfolding line_says
        said_at_lem = go (line_as l) refl (line_of hf)
          where
            go : (x : Line) → line_as l ≡ x → x ≡ by_first fs → said_as v used st x ≡ said_at v used st k gs
            go free i e = zero_stands (suits_may v rs st y free e o.suits)
            go (bad n) i e = zero_stands (suits_may v rs st y (bad n) e o.suits)
            go (key_line w hs) i e =
                let c = one_kind v rs st y (key_line w hs) e o in
                ap (λ (j : ℕ). said_at v used st j (own_in v st (key_line w hs))) c.0 ∙ ap (said_at v used st k) c.1
            go (data_line hs) i e =
                let c = one_kind v rs st y (data_line hs) e o in
                ap (λ (j : ℕ). said_at v used st j (own_in v st (data_line hs))) c.0 ∙ ap (said_at v used st k) c.1

        said_by_lem : (a : Reply (List Value)) → read_fields (under v (titled rs)) (types_of v k) gs ≡ a → line_says v used st l ≡ said_by v used st k a
        unfolding said_at
        said_by_lem a h = said_at_lem ∙ rw (stands, titled_fields v k gs y stands, h)

      module _ {fs gs : List Field} (r : Rec) (hf : HasFields l fs) (o : IsOf v rs fs r.kind gs) (f : SpellsFields (under v (titled rs)) (types_of v r.kind) r.values gs) where
        said_record : line_says v used st l ≡ said_of r (admit v used st r)
        said_record = said_by_lem hf o (good r.values) (values_complete f)

        -- it is well formed in the state
        fits : (x : Line) → line_as l ≡ x → x ≡ by_first fs → WellFormed (under v (type_at st)) r
        fits x i e =
            let k = r.kind in
            let m = stands hf o in
            let c = one_kind v rs st y x e o in
            let u = stands_known v st k m in
            let b : Behind v k x gs = subst (λ (hs : List Field). Behind v k x hs) c.1 (subst (λ (j : ℕ). Behind v j x (own_in v st x)) c.0 (kind_behind v st x (stands_known v st _ (suits_may v rs st y x e o.suits)))) in
            record_fits (record_spelled v used st l k gs r.values u (subst (λ (w : Line). Behind v k w gs) (sym i) b) (titled_fields v k gs y m ∙ values_complete f))

        loop_number : ((more : List Rec) → Permitted v (rs ++ (r ∷ more)) → ⊥) → said_of r (admit v used st r) ≡ wrong 11
        loop_number d = go (repeats v used r) (advance v st r) refl
          where
            go : (b : Bool) (q : Result State Reason) → advance v st r ≡ q → said_of r (unless b q) ≡ wrong 11
            go b (stops q) a = ap (λ (c : Reason). wrong (number_of (refusal_of c Misplaced))) (bad_loop_lem v st r q (stands hf o) (fits (line_as l) refl (line_of hf)) a)
            go b (next t) a = let w = carries_on v r y a in absurd (d w.0 w.1)

        name_number : (more : List Rec) → Permitted v (rs ++ (r ∷ more)) → (Distinct v (rs ++ (r ∷ [])) → ⊥) → said_of r (admit v used st r) ≡ wrong 12
        name_number more p d = let t = moves_on_lem r more p in go (repeats v used r) refl t.0 t.1
          where
            go : (b : Bool) → repeats v used r ≡ b → (t : State) → advance v st r ≡ next t → said_of r (unless b (advance v st r)) ≡ wrong 12
            go true i t a = rw a
            go false i t a = absurd (d (unused_differ (new_unused r th i)))

      no_kind : {fs : List Field} → HasFields l fs → ((k : ℕ) (gs : List Field) → Suits v rs fs k gs → ⊥) → line_says v used st l ≡ wrong 5
      unfolding line_says said_at
      no_kind {fs} hf d = go (line_as l) refl (line_of hf)
        where
          at : (x : Line) → x ≡ by_first fs → (b : Bool) → may_stand v st (kind_in v st x) ≡ b → (a : Said) → cond b a (wrong 5) ≡ wrong 5
          at x e true m a = absurd (d _ _ (is_of_lem v rs st y fs x e m).suits)
          at x e false m a = refl

          go : (x : Line) → line_as l ≡ x → x ≡ by_first fs → said_as v used st x ≡ wrong 5
          go free i e = absurd (hf.not_free (line_free i))
          go (bad n) i e = absurd (first_not_bad fs n e)
          go (key_line w hs) i e = at (key_line w hs) e (may_stand v st (kind_in v st (key_line w hs))) refl _
          go (data_line hs) i e = at (data_line hs) e (may_stand v st (kind_in v st (data_line hs))) refl _

      free_number : (s : State) → where_of s ≡ at.inside → free_in s ≡ wrong 5
      free_number (between g) e = let z : ◌≡◌ {A = ℕ} 0 1 = cc in absurd (omega arith)
      free_number (inside g s p) e = refl

      forbidden : (Free l → ⊥) → (All permitted l → ⊥) → line_says v used st l ≡ wrong 3
      unfolding line_says
      forbidden nf na = go (line_as l) (line_seen l)
        where
          go : (x : Line) → Seen l x → said_as v used st x ≡ wrong 3
          go free s = absurd (nf s)
          go (bad j) (inl (z, d)) = ap (λ (e : Refusal). wrong (number_of e)) z
          go (bad j) (inr (z, a, d)) = absurd (na a)
          go (key_line w hs) (fs, hf, e) = absurd (na hf.clean)
          go (data_line hs) (fs, hf, e) = absurd (na hf.clean)

      unquoted : (Free l → ⊥) → All permitted l → ((fs : List Field) → Spelled fs l → ⊥) → line_says v used st l ≡ wrong 4
      unfolding line_says
      unquoted nf a ns = go (line_as l) (line_seen l)
        where
          go : (x : Line) → Seen l x → said_as v used st x ≡ wrong 4
          go free s = absurd (nf s)
          go (bad j) (inl (z, d)) = absurd (d a)
          go (bad j) (inr (z, b, d)) = ap (λ (e : Refusal). wrong (number_of e)) z
          go (key_line w hs) (fs, hf, e) = absurd (ns fs hf.spelled)
          go (data_line hs) (fs, hf, e) = absurd (ns fs hf.spelled)

      -- a line that is faulty by a number is refused by it
      pub faulty_line : {n : ℕ} → Faulty v rs l n → line_says v used st l ≡ wrong n
      unfolding line_says
      faulty_line (by_3 nf na) = forbidden nf na
      faulty_line (by_4 nf a ns) = unquoted nf a ns
      faulty_line (by_5 hf d) = no_kind hf d
      faulty_line (free_5 f i) = rw (free_line_lem f) (free_number st (sym (through_where th) ∙ i))
      faulty_line (by_6 {k = k} {gs = gs} o d) = said_by_lem o.has o.is (refused FieldCount) (fields_miscounted (under v (titled rs)) (types_of v k) gs d)
      faulty_line (by_field {n = n} o d f) = let r = fields_refused (under v (titled rs)) d f in said_by_lem o.has o.is (refused r.0) r.1 ∙ ap wrong r.2
      faulty_line (by_11 {r = r} h d) = said_record r h.line.has h.line.is h.good ∙ loop_number r h.line.has h.line.is h.good d
      faulty_line (by_12 {r = r} more h p d) = said_record r h.line.has h.line.is h.good ∙ name_number r h.line.has h.line.is h.good more p d
