-- What a line is read as, by its bytes and fields alone; and a front by the fields behind it.
use Prim.Native.Nat.{ℕ}
use mathlib.Core.Path.{◌≡◌, refl, sym, ap, ◌∙◌, subst}
use mathlib.Core.Logic.{◌⊎◌, inl, inr}
use mathlib.Core.List.{List, [], ◌∷◌}
use mathlib.Core.Option.{Option, none, some}
use mathlib.Core.Bool.{Bool, true, false, cond, false≢true}
use native.Mathlib.Omega.{arith}
use borrow.Author.Tests.{not-true}
use Rattle.law.specs.declared.refusals.Refusal.{Refusal}
use Rattle.law.specs.declared.refusals.Refusal.TheVariants.{ForbiddenByte, BrokenQuoting, Misplaced}
use Rattle.law.specs.Bytes.{permitted, All, all_of, begins}
use Rattle.law.specs.Fields.{Field, field, Spelled}
use Rattle.law.specs.Lines.{Free, comment}
use Rattle.basics.proofs.Lists.{all_sound, all_complete}
use Rattle.text_fields.specs.Fields.{fields_of}
use Rattle.text_fields.proofs.FieldSpelling.{fields_sound, fields_complete}
use Rattle.form.specs.Values.{good}
use Rattle.law.specs.Words.{prop_word, same_bytes, folded}
use Rattle.law.specs.Layouts.{Front, keyword, prop, plain}
use Rattle.form.specs.Reading.{Line, free, bad, key_line, data_line, by_first, by_fields, line_as, after}
use Rattle.basics.proofs.Bytes.{bytes_true, bytes_same}
use Rattle.law.specs.RecordSpelling.{is_data}
use Rattle.shown_spelling.proofs.Logic.{refused_good, cond_good}
use Rattle.shown_spelling.proofs.LineSpelling.{begins_cons}
use Rattle.shown_spelling.proofs.WordSpelling.{case_folds, any_case}
use Rattle.shown_told.proofs.FreeLines.{free_line_lem, line_free}
use Rattle.law.specs.LineFaults.{Fronted, with_keyword, with_prop, as_data, HasFields}
use Rattle.law.specs.WordSpelling.{AnyCase, same, small}

-- what a line's answer says of it
abbrev pub Seen : List ℕ → Line → Type 0
Seen l free = Free l
Seen l (bad n) = ((n ≡ ForbiddenByte) × (All permitted l → ⊥)) ⊎ ((n ≡ BrokenQuoting) × All permitted l × ((fs : List Field) → Spelled fs l → ⊥))
Seen l (key_line w gs) = (fs : List Field) × HasFields l fs × (line_as l ≡ by_first fs)
Seen l (data_line gs) = (fs : List Field) × HasFields l fs × (line_as l ≡ by_first fs)

not_free : {l : List ℕ} {x : Line} → line_as l ≡ x → (x ≡ free → ⊥) → Free l → ⊥
not_free e n f = n (sym e ∙ free_line_lem f)

-- a line that is not free, with fields: read by its first
no_hash : (l : List ℕ) → (Free l → ⊥) → begins 35 l ≡ false
no_hash l n = go (begins 35 l) refl
  where
    go : (b : Bool) → begins 35 l ≡ b → b ≡ false
    go true e = let w = begins_cons 35 l e in absurd (n (subst Free (sym w.1) comment))
    go false e = refl

pub line_of : {l : List ℕ} {fs : List Field} → HasFields l fs → line_as l ≡ by_first fs
unfolding line_as
line_of {l} {fs} h = rw (no_hash l h.not_free, all_complete permitted h.clean, fields_complete l fs h.spelled)

never_bad : (w : List ℕ) (fs : List Field) (n : Refusal) (b : Bool) → cond b (key_line (folded w) fs) (data_line (field false w ∷ fs)) ≡ bad n → ⊥
never_bad w fs n true i = let z : ◌≡◌ {A = ℕ} 0 1 = cc in omega arith
never_bad w fs n false i = let z : ◌≡◌ {A = ℕ} 0 1 = cc in omega arith

pub first_not_bad : (fs : List Field) (n : Refusal) → bad n ≡ by_first fs → ⊥
first_not_bad [] n e = let z : ◌≡◌ {A = ℕ} 0 1 = cc in omega arith
first_not_bad (field true w ∷ fs) n e = let z : ◌≡◌ {A = ℕ} 0 1 = cc in omega arith
first_not_bad (field false w ∷ fs) n e = never_bad w fs n (begins 46 w) (sym e)

pub line_seen : (l : List ℕ) → Seen l (line_as l)
unfolding line_as
line_seen l = go (begins 35 l) refl (all_of permitted l) refl (fields_of l) refl
  where
    by : (x : Line) → line_as l ≡ x → (fs : List Field) → by_first fs ≡ x → All permitted l → Spelled fs l → Seen l x
    by free e fs i a s = line_free e
    by (bad n) e [] i a s = let z : ◌≡◌ {A = ℕ} 0 1 = cc in absurd (omega arith)
    by (bad n) e (field true w ∷ fs) i a s = let z : ◌≡◌ {A = ℕ} 0 1 = cc in absurd (omega arith)
    by (bad n) e (field false w ∷ fs) i a s = absurd (never_bad w fs n (begins 46 w) i)
    by (key_line w gs) e fs i a s = (fs, record { not_free = not_free e (λ z. let y : ◌≡◌ {A = ℕ} 0 1 = cc in omega arith); clean = a; spelled = s }, e ∙ sym i)
    by (data_line gs) e fs i a s = (fs, record { not_free = not_free e (λ z. let y : ◌≡◌ {A = ℕ} 0 1 = cc in omega arith); clean = a; spelled = s }, e ∙ sym i)

    go : (t : Bool) → begins 35 l ≡ t → (u : Bool) → all_of permitted l ≡ u → (o : Option (List Field)) → fields_of l ≡ o → Seen l (cond t free (cond u (by_fields o) (bad ForbiddenByte)))
    go true h u i o e = line_free (rw h)
    go false h true i none e = inr (refl, all_sound permitted l i, λ fs s. let y = fields_complete l fs s in let z : ◌≡◌ {A = ℕ} 0 1 = cc in omega arith)
    go false h true i (some fs) e = by (by_first fs) (rw (h, i, e)) fs refl (all_sound permitted l i) (fields_sound l fs e)
    go false h false i o e = inl (refl, λ a. false≢true (sym i ∙ all_complete permitted a))

-- Fronts
prop_not_key : {p : List ℕ} → AnyCase prop_word p → begins 46 p ≡ false
unfolding begins
prop_not_key (same h m) = refl
prop_not_key (small h m) = refl

pub fronted_after : {f : Front} {fs gs : List Field} → Fronted f fs gs → after f (by_first fs) ≡ good gs
unfolding begins folded is_data
fronted_after (with_keyword {k} {w} m) = rw (case_folds m, bytes_same (46 ∷ k) (46 ∷ k) refl)
fronted_after (with_prop h) = rw (prop_not_key h, case_folds h, bytes_same prop_word prop_word refl)
fronted_after (as_data {gs} h) = go gs h
  where
    go : (gs : List Field) → is_data gs ≡ true → after plain (by_first gs) ≡ good gs
    go [] h = absurd (false≢true h)
    go (field true s ∷ gs) h = refl
    go (field false s ∷ gs) h = rw (not-true (begins 46 s) h)

pub after_fronted : (f : Front) (fs gs : List Field) → after f (by_first fs) ≡ good gs → Fronted f fs gs
unfolding is_data folded
after_fronted f [] gs e = absurd (refused_good e)
after_fronted (keyword k) (field true s ∷ fs) gs e = absurd (refused_good e)
after_fronted prop (field true s ∷ fs) gs e = absurd (refused_good e)
after_fronted plain (field true s ∷ fs) gs e = let z : gs ≡ field true s ∷ fs = cc in rw z (as_data refl)
after_fronted f (field false s ∷ fs) gs e = go f (begins 46 s) refl e
  where
    go : (f : Front) (b : Bool) → begins 46 s ≡ b → after f (cond b (key_line (folded s) fs) (data_line (field false s ∷ fs))) ≡ good gs → Fronted f (field false s ∷ fs) gs
    go (keyword k) true h e =
        let c = begins_cons 46 s h in
        let w = cond_good Misplaced (same_bytes (46 ∷ k) (folded s)) e in
        let x : 46 ∷ k ≡ 46 ∷ folded c.0 = bytes_true (46 ∷ k) (folded s) w.0 ∙ ap folded c.1 in
        let y : k ≡ folded c.0 = cc in
        let z : gs ≡ fs = cc w.1 in
        rw (c.1, z) (with_keyword (any_case y))
    go (keyword k) false h e = absurd (refused_good e)
    go prop true h e = absurd (refused_good e)
    go prop false h e =
        let w = cond_good Misplaced (same_bytes prop_word (folded s)) e in
        let z : gs ≡ fs = cc w.1 in
        rw z (with_prop (any_case (bytes_true prop_word (folded s) w.0)))
    go plain true h e = absurd (refused_good e)
    go plain false h e = let z : gs ≡ field false s ∷ fs = cc in rw z (as_data {gs = field false s ∷ fs} (rw h))
