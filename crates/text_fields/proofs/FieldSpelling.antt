-- The definition of a line's fields gives a list exactly where the rules spell the line from it.
use Prim.Native.Nat.{ℕ, zero, suc, ◌+◌, ◌<◌}
use mathlib.Core.Path.{◌≡◌, refl, sym, ap, subst, ◌∙◌}
use mathlib.Core.List.{List, [], ◌∷◌, ◌++◌, append_assoc, append-nil}
use mathlib.Core.Option.{Option, none, some}
use mathlib.Core.Bool.{Bool, true, false, cond, not}
use native.Mathlib.Nat.{not-suc-le-zero, zero-add}
use native.Mathlib.Omega.{arith}
use borrow.Author.Tests.{eqb-true, not-false}
use lib.Dec.{eqb}
use lib.ListN.{length, take, drop, length-append, take-append-drop}
use lib.Seq.{drop-drop, drop-append_seam, take-append_seam, drop_at}
use Rattle.basics.proofs.Bools.{none_some}
use Rattle.law.specs.Bytes as sp
use Rattle.law.specs.Bytes.{is_space, in_bare, in_quotes, All}
use Rattle.law.specs.Fields.{Field, field, Spells, Spelled, bare, quoted, end, space, last, next}
use Rattle.law.specs.FieldPlaces.{Spot, spot_of}
use Rattle.text_fields.specs.FirstField.{FirstField, span, ends_well, found_if, bare_at, closed_at, quoted_at, one_of, field_at, field_of}
use Rattle.text_fields.specs.Fields.{before, fields_by, fields_in, fields_of, count_of}
use Rattle.std.specs.Prelude.{Some, None, Ok, Err}
use Rattle.text_fields.specs.declared.FoundField.{FoundField}
use Rattle.text_fields.proofs.Bounds.{span_some, span_after}

-- the bytes of a run pass its test
run_all : (p : ℕ → Bool) (s : List ℕ) → All p (take (span p s) s)
unfolding span
run_all p [] = sp.none
run_all p (b ∷ s) = go (p b) refl (run_all p s)
  where
    go : (t : Bool) → p b ≡ t → All p (take (span p s) s) → All p (take (cond t (suc (span p s)) 0) (b ∷ s))
    go true h a = sp.one h a
    go false h a = sp.none

drop_tail : (n : ℕ) (t : List ℕ) (b : ℕ) (v : List ℕ) → drop n t ≡ b ∷ v → (drop (suc n) t ≡ v) × (take (suc n) t ≡ take n t ++ (b ∷ []))
drop_tail zero [] b v e = (cc, cc)
drop_tail zero (c ∷ t) b v e = (cc, cc)
drop_tail (suc n) [] b v e = (cc, cc)
drop_tail (suc n) (c ∷ t) b v e = let h = drop_tail n t b v e in (h.0, ap (λ (l : List ℕ). c ∷ l) h.1)

-- What `field_at` answers, as a property of the answer
record Took (k : ℕ) (u : List ℕ) (a l : ℕ) (q : Bool) (m : ℕ) : Type 0 where
  pub n : ℕ
  pub j : ℕ
  pub stop : m ≡ k + n
  pub start : a ≡ k + j
  pub spells : Spells (field q (take l (drop j u))) (take n u)
  pub ends : ends_well (drop n u) ≡ true

abbrev TookBy : ℕ → List ℕ → FirstField → Type 0
TookBy k u (Ok None) = u ≡ []
TookBy k u (Ok (Some f)) = Took k u f.start f.len f.quoted f.next
TookBy k u (Err e) = Unit {0}

took_by : (k : ℕ) (u : List ℕ) (t : Bool) (a l : ℕ) (q : Bool) (m : ℕ) → (t ≡ true → Took k u a l q m) → TookBy k u (one_of (found_if t a l q m))
took_by k u true a l q m f = f refl
took_by k u false a l q m f = tt

bare_spells : (n b : ℕ) (t : List ℕ) → 0 < n → All in_bare (take n (b ∷ t)) → Spells (field false (take n (b ∷ t))) (take n (b ∷ t))
bare_spells zero b t h a = absurd (not-suc-le-zero h)
bare_spells (suc n) b t h a = bare a

bare_took : (k b : ℕ) (t : List ℕ) → in_bare b ≡ true → TookBy k (b ∷ t) (one_of (bare_at k (b ∷ t)))
unfolding bare_at
bare_took k b t h =
    let n = span in_bare (b ∷ t) in
    took_by k (b ∷ t) (ends_well (drop n (b ∷ t))) k n false (k + n) λ e.
    record {
      n = n;
      j = 0;
      stop = refl;
      start = omega arith;
      spells = bare_spells n b t (omega (arith, span_some in_bare b t h)) (run_all in_bare (b ∷ t));
      ends = e;
    }

quoted_took : (k : ℕ) (t : List ℕ) → TookBy k (34 ∷ t) (one_of (quoted_at (k + 1) t))
unfolding quoted_at closed_at
quoted_took k t = go (drop (span in_quotes t) t) refl
  where
    go : (w : List ℕ) → drop (span in_quotes t) t ≡ w → TookBy k (34 ∷ t) (one_of (closed_at (k + 1) (span in_quotes t) w))
    go [] e = tt
    go (b ∷ v) e =
        let n = span in_quotes t in
        let h = drop_tail n t b v e in
        let q : b ≡ 34 = eqb-true b 34 (not-false _ (span_after in_quotes t b v e)) in
        took_by k (34 ∷ t) (ends_well v) (k + 1) n true (k + 1 + n + 1) λ w.
        record {
          n = suc (suc n);
          j = 1;
          stop = omega arith;
          start = refl;
          spells = rw (h.1, q) (quoted (run_all in_quotes t));
          ends = rw h.0 w;
        }

at_took : (k : ℕ) (u : List ℕ) → ((b : ℕ) (t : List ℕ) → u ≡ b ∷ t → eqb b 32 ≡ false) → TookBy k u (field_at k u)
unfolding field_at
at_took k [] f = refl
at_took k (b ∷ t) f = go (eqb b 34) refl
  where
    go : (w : Bool) → eqb b 34 ≡ w → TookBy k (b ∷ t) (one_of (cond w (quoted_at (k + 1) t) (bare_at k (b ∷ t))))
    go true h = rw (eqb-true b 34 h) (quoted_took k t)
    go false h = bare_took k b t (simp (f b t refl, h))

took : (s : List ℕ) → TookBy (span is_space s) (drop (span is_space s) s) (field_of s)
unfolding field_of
took s = at_took (span is_space s) (drop (span is_space s) s) (span_after is_space s)

-- Spaces in front spell nothing
strip : {fs : List Field} (s : List ℕ) → Spelled fs (drop (span is_space s) s) → Spelled fs s
unfolding span
strip [] r = r
strip {fs} (b ∷ s) r = go (eqb b 32) refl r (strip s)
  where
    go : (t : Bool) → eqb b 32 ≡ t → Spelled fs (drop (cond t (suc (span is_space s)) 0) (b ∷ s)) → (Spelled fs (drop (span is_space s) s) → Spelled fs s) → Spelled fs (b ∷ s)
    go true h r ih = rw (eqb-true b 32 h) (space (ih r))
    go false h r ih = r

-- Nothing spells no field
nil_cons : {b : ℕ} {s : List ℕ} → b ∷ s ≡ [] → ⊥
nil_cons {b} {s} e = let z : ◌≡◌ {A = ℕ} 0 1 = cc in omega arith

none_spelled : {fs : List Field} {s : List ℕ} → Spelled fs s → s ≡ [] → fs ≡ []
none_spelled end e = refl
none_spelled (space r) e = absurd (nil_cons e)
none_spelled (last (bare a)) e = absurd (nil_cons e)
none_spelled (last (quoted a)) e = absurd (nil_cons e)
none_spelled (next (bare a) r) e = absurd (nil_cons e)
none_spelled (next (quoted a) r) e = absurd (nil_cons e)

-- a field, and what spells the fields after it
join : {f : Field} {fs : List Field} (s t : List ℕ) → Spells f s → ends_well t ≡ true → Spelled fs t → Spelled (f ∷ fs) (s ++ t)
unfolding ends_well
join {f} {fs} s [] p e r = rw (none_spelled r refl, append-nil) (last p)
join {f} {fs} s (b ∷ t) p e r = rw (eqb-true b 32 e) (next p (rw (eqb-true b 32 e) at r))

got_spelled : {fs : List Field} {f : FoundField} (s : List ℕ) → field_of s ≡ Ok (Some f) → Spelled fs (drop f.next s)
    → Spelled (field f.quoted (take f.len (drop f.start s)) ∷ fs) s
got_spelled {fs} {f} s h r =
    let k = span is_space s in
    let u = drop k s in
    let t : Took k u f.start f.len f.quoted f.next = subst (TookBy k u) h (took s) in
    let d : drop f.next s ≡ drop t.n u = ap (λ (i : ℕ). drop i s) t.stop ∙ sym (drop-drop t.n k s) in
    let x : drop f.start s ≡ drop t.j u = ap (λ (i : ℕ). drop i s) t.start ∙ sym (drop-drop t.j k s) in
    let y : Spelled (field f.quoted (take f.len (drop t.j u)) ∷ fs) (take t.n u ++ drop t.n u) = join (take t.n u) (drop t.n u) t.spells t.ends (rw d at r) in
    strip s (rw x (rw take-append-drop at y))

by_field : (fuel : ℕ) (s : List ℕ) (fs : List Field) → ((t : List ℕ) (gs : List Field) → fields_in fuel t ≡ some gs → Spelled gs t)
    → (x : FirstField) → field_of s ≡ x → fields_by x s (λ n. fields_in fuel (drop n s)) ≡ some fs → Spelled fs s
by_field fuel s fs ih (Ok None) h e =
    let n : [] ≡ fs = cc in
    let u : drop (span is_space s) s ≡ [] = subst (TookBy (span is_space s) (drop (span is_space s) s)) h (took s) in
    strip s (rw (u, ← n) end)
by_field fuel s fs ih (Ok (Some f)) h e = go (fields_in fuel (drop f.next s)) refl e
  where
    go : (r : Option (List Field)) → fields_in fuel (drop f.next s) ≡ r → before (field f.quoted (take f.len (drop f.start s))) r ≡ some fs → Spelled fs s
    go none i e = absurd (none_some e)
    go (some gs) i e =
        let n : field f.quoted (take f.len (drop f.start s)) ∷ gs ≡ fs = cc in
        rw (← n) (got_spelled s h (ih (drop f.next s) gs i))
by_field fuel s fs ih (Err b) h e = absurd (none_some e)

pub sound_in : (fuel : ℕ) (s : List ℕ) (fs : List Field) → fields_in fuel s ≡ some fs → Spelled fs s
unfolding fields_in
sound_in zero s fs e = absurd (none_some e)
sound_in (suc fuel) s fs e = by_field fuel s fs (sound_in fuel) (field_of s) refl e

-- What the definition gives spells the line
pub fields_sound : (s : List ℕ) (fs : List Field) → fields_of s ≡ some fs → Spelled fs s
unfolding fields_of
fields_sound s fs e = sound_in (suc (length s)) s fs e

-- A run before what does not pass is as long as it looks
stops : (ℕ → Bool) → List ℕ → Type 0
stops p [] = Unit {0}
stops p (b ∷ t) = p b ≡ false

span_append : (p : ℕ → Bool) {s : List ℕ} (t : List ℕ) → All p s → stops p t → span p (s ++ t) ≡ length s
unfolding span stops
span_append p [] sp.none h = refl
span_append p (b ∷ t) sp.none h = simp h
span_append p {s} t (sp.one e a) h = simp (e, span_append p t a h)

-- What `field_of` answers at a spelled field that ends well, and where the field is if the line begins at b
pub record Read (f : Field) (s t : List ℕ) : Type 0 where
  pub a : ℕ
  pub l : ℕ
  pub q : Bool
  pub m : ℕ
  pub is : field_of (s ++ t) ≡ Ok (Some (record { start = a; len = l; quoted = q; next = m }))
  pub same : field q (take l (drop a (s ++ t))) ≡ f
  pub spot : (b : ℕ) → ◌≡◌ {A = Spot} (record { at = b + a; what = field q (take l (drop a (s ++ t))) }) (spot_of b f)
  pub long : m ≡ length s
  pub after : drop m (s ++ t) ≡ t

bare_stops : (t : List ℕ) → ends_well t ≡ true → stops in_bare t
unfolding ends_well stops
bare_stops [] e = tt
bare_stops (b ∷ t) e = simp e

bare_no_space : (b : ℕ) → in_bare b ≡ true → (eqb b 32 ≡ false) × (eqb b 34 ≡ false)
bare_no_space b h = go (eqb b 32) (eqb b 34) h
  where
    go : (x y : Bool) → cond x false (not y) ≡ true → (x ≡ false) × (y ≡ false)
    go true true e = (cc, cc)
    go true false e = (cc, cc)
    go false true e = (cc, cc)
    go false false e = (refl, refl)

span_none : (p : ℕ → Bool) (b : ℕ) (s : List ℕ) → p b ≡ false → span p (b ∷ s) ≡ 0
unfolding span
span_none p b s h = simp h

spot_is : {a c : ℕ} {f g : Field} → a ≡ c → f ≡ g → ◌≡◌ {A = Spot} (record { at = a; what = f }) (record { at = c; what = g })
spot_is x y = λ i. record { at = x i; what = y i }

bare_read : (b : ℕ) (s t : List ℕ) → All in_bare (b ∷ s) → ends_well t ≡ true → Read (field false (b ∷ s)) (b ∷ s) t
unfolding field_of field_at bare_at
bare_read b s t (sp.one h a) e =
    let u = b ∷ (s ++ t) in
    let n = suc (length s) in
    let x = bare_no_space b h in
    let k : span is_space u ≡ 0 = span_none is_space b (s ++ t) x.0 in
    let r : span in_bare u ≡ n = span_append in_bare t (sp.one h a) (bare_stops t e) in
    let d : drop n u ≡ t = drop-append_seam (b ∷ s) t in
    let w : ◌≡◌ {A = Field} (field false (take n u)) (field false (b ∷ s)) = ap (field false) (take-append_seam (b ∷ s) t) in
    record {
      a = 0;
      l = n;
      q = false;
      m = 0 + n;
      is = simp (k, x.1, r, d, e);
      same = w;
      spot = λ c. spot_is (omega arith) w;
      long = omega arith;
      after = ap (λ (i : ℕ). drop i u) (zero-add n) ∙ d;
    }

quoted_read : (s t : List ℕ) → All in_quotes s → ends_well t ≡ true → Read (field true s) (34 ∷ (s ++ (34 ∷ []))) t
unfolding field_of field_at quoted_at closed_at span stops
quoted_read s t a e =
    let r : span in_quotes (s ++ (34 ∷ t)) ≡ length s = span_append in_quotes (34 ∷ t) a refl in
    let w : ◌≡◌ {A = Field} (field true (take (length s) (drop 1 ((34 ∷ (s ++ (34 ∷ []))) ++ t)))) (field true s) = simp (append_assoc, take-append_seam) in
    record {
      a = 1;
      l = length s;
      q = true;
      m = 1 + length s + 1;
      is = simp (append_assoc, r, drop-append_seam, e);
      same = w;
      spot = λ c. spot_is refl w;
      long = omega (arith, length-append s (34 ∷ []));
      after = drop_at (34 ∷ (s ++ (34 ∷ []))) t (1 + length s + 1) (omega (arith, length-append s (34 ∷ [])));
    }

pub read : {f : Field} {s : List ℕ} (t : List ℕ) → Spells f s → ends_well t ≡ true → Read f s t
read t (bare {b = b} {s = s} a) e = bare_read b s t a e
read t (quoted {s = s} a) e = quoted_read s t a e

read_step : {f : Field} {fs : List Field} (s t : List ℕ) (fuel : ℕ) → Read f s t → fields_in fuel t ≡ some fs → fields_in (suc fuel) (s ++ t) ≡ some (f ∷ fs)
unfolding fields_in
read_step s t fuel r e = simp (r.is, r.after, e, r.same)

pub some_spells : {f : Field} {s : List ℕ} → Spells f s → 0 < length s
some_spells (bare a) = omega arith
some_spells (quoted a) = omega arith

-- A space in front moves the answer
abbrev pub shift : FirstField → FirstField
shift (Ok None) = Ok None
shift (Ok (Some f)) = Ok (Some (record { start = suc f.start; len = f.len; quoted = f.quoted; next = suc f.next }))
shift (Err e) = Err e

shift_if : (t : Bool) (a b l : ℕ) (q : Bool) (m n : ℕ) → b ≡ suc a → n ≡ suc m → one_of (found_if t b l q n) ≡ shift (one_of (found_if t a l q m))
shift_if true a b l q m n d e = rw (d, e)
shift_if false a b l q m n d e = refl

shift_bare : (k : ℕ) (u : List ℕ) → one_of (bare_at (suc k) u) ≡ shift (one_of (bare_at k u))
unfolding bare_at
shift_bare k u = shift_if (ends_well (drop (span in_bare u) u)) k (suc k) (span in_bare u) false (k + span in_bare u) (suc k + span in_bare u) refl (omega arith)

shift_closed : (k n : ℕ) (w : List ℕ) → one_of (closed_at (suc k + 1) n w) ≡ shift (one_of (closed_at (k + 1) n w))
unfolding closed_at
shift_closed k n [] = refl
shift_closed k n (b ∷ v) = shift_if (ends_well v) (k + 1) (suc k + 1) n true (k + 1 + n + 1) (suc k + 1 + n + 1) (omega arith) (omega arith)

shift_at : (k : ℕ) (u : List ℕ) → field_at (suc k) u ≡ shift (field_at k u)
unfolding field_at quoted_at
shift_at k [] = refl
shift_at k (b ∷ t) = go (eqb b 34)
  where
    go : (w : Bool) → one_of (cond w (quoted_at (suc k + 1) t) (bare_at (suc k) (b ∷ t))) ≡ shift (one_of (cond w (quoted_at (k + 1) t) (bare_at k (b ∷ t))))
    go true = shift_closed k (span in_quotes t) (drop (span in_quotes t) t)
    go false = shift_bare k (b ∷ t)

pub shift_of : (s : List ℕ) → field_of (32 ∷ s) ≡ shift (field_of s)
unfolding field_of span
shift_of s = shift_at (span is_space s) (drop (span is_space s) s)

shift_by : (x : FirstField) (s : List ℕ) (later : List ℕ → Option (List Field)) → fields_by (shift x) (32 ∷ s) (λ n. later (drop n (32 ∷ s))) ≡ fields_by x s (λ n. later (drop n s))
shift_by (Ok None) s later = refl
shift_by (Ok (Some f)) s later = refl
shift_by (Err e) s later = refl

complete_in : {fs : List Field} {s : List ℕ} → Spelled fs s → (fuel : ℕ) → length s < fuel → fields_in fuel s ≡ some fs
unfolding fields_in field_of field_at span ends_well
complete_in r zero h = absurd (not-suc-le-zero h)
complete_in end (suc fuel) h = refl
complete_in (space {fs = fs} {s = s} r) (suc fuel) h = rw (shift_of s) (shift_by (field_of s) s (fields_in fuel) ∙ complete_in {fs = fs} {s = s} r (suc fuel) (omega arith))
complete_in (last {s = s} p) (suc fuel) h =
    let b = some_spells p in
    let e = read_step s [] fuel (read [] p refl) (complete_in end fuel (omega arith)) in
    rw append-nil at e
complete_in (next {s = s} {t = t} p r) (suc fuel) h =
    let b = some_spells p in
    read_step s (32 ∷ t) fuel (read (32 ∷ t) p refl) (complete_in r fuel (omega (arith, length-append s (32 ∷ t))))

-- Whatever spells the line is what the definition gives
pub fields_complete : (s : List ℕ) (fs : List Field) → Spelled fs s → fields_of s ≡ some fs
unfolding fields_of
fields_complete s fs r = complete_in r (suc (length s)) (omega arith)

-- So at most one list of fields spells a line
pub fields_unique : (s : List ℕ) (fs gs : List Field) → Spelled fs s → Spelled gs s → fs ≡ gs
fields_unique s fs gs p q = let e = fields_complete s fs p in let f = fields_complete s gs q in cc

-- and `count_fields` answers its length, or broken quoting where there is none
pub fields_counted : (s : List ℕ) (fs : List Field) → Spelled fs s → count_of s ≡ Ok (length fs)
unfolding count_of
fields_counted s fs r = rw (fields_complete s fs r)
