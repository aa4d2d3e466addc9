-- Laws by which the code of a line follows its definition.
use Prim.Native.Nat.{ℕ, suc, ◌+◌, ◌-◌, ◌^◌, ◌≤◌, ◌<◌}
use mathlib.Core.Path.{◌≡◌, refl, sym, ◌∙◌, subst}
use mathlib.Core.List.{List, [], ◌∷◌}
use mathlib.Core.Option.{Option, none, some}
use mathlib.Core.Bool.{Bool, true, false, cond, not}
use native.Mathlib.Omega.{arith}
use borrow.Author.Tests.{not-true, not-false}
use mir.Syntax.{w64}
use mir.Val.{Fits}
use lib.ListN.{length, take, drop}
use Rattle.std.specs.Prelude.{Result, Ok, Err, Option as Maybe, Some, None}
use Rattle.basics.proofs.Bools.{none_some}
use Rattle.law.specs.Bytes.{permitted, all_of, begins}
use Rattle.law.specs.Fields.{Field, field}
use Rattle.text_fields.specs.FirstField.{FirstField, field_of}
use Rattle.text_fields.specs.Fields.{before, fields_by, fields_in, fields_of, count_by, count_of}
use Rattle.text_fields.specs.declared.FoundField.{FoundField}
use Rattle.text_fields.specs.declared.BrokenQuoting.{BrokenQuoting as Unclosed}
use Rattle.text_fields.proofs.Bounds.{Lies, Bounded, bounded}
use Rattle.law.specs.Words.{prop_word, same_bytes, folded}
use Rattle.form.specs.Reading.{key_line, data_line, by_first, by_fields, line_as, keyword_of}
use Rattle.form.specs.declared.Keyword.{Keyword}
use Rattle.line_rows.specs.LineKinds.{behind, kind_by, kind_of, bare_kind, first_by}
use Rattle.line_rows.specs.declared.LineKind.{LineKind}
use Rattle.law.specs.declared.refusals.Refusal.{Refusal}
use Rattle.law.specs.declared.refusals.Refusal.TheVariants.{ForbiddenByte, BrokenQuoting}
use Rattle.line_rows.specs.declared.LineKind.TheVariants.{Free, Key, Data}

module _ (w : List ℕ) (n m : ℕ) (t : Bool) (e : t ≡ begins 46 w) where
  pub bare_key : (k : Keyword) → t ≡ true → k ≡ keyword_of (folded w) → Key k n m ≡ bare_kind w n m
  unfolding bare_kind
  bare_key k h x = rw (sym e ∙ h, x)

  pub bare_data : (p : Bool) → t ≡ false → p ≡ same_bytes prop_word (folded w) → Data p n m ≡ bare_kind w n m
  unfolding bare_kind
  bare_data p h x = rw (sym e ∙ h, x)

-- The first field
pub got_lies : (s : List ℕ) (f : FoundField) → field_of s ≡ Ok (Some f) → Lies 0 (length s) f.start f.len f.next
got_lies s f e = subst (Bounded 0 (length s)) e (bounded s)

module _ (s : List ℕ) (x : FirstField) (e : x ≡ field_of s) (n : ℕ) where
  pub first_none : x ≡ Ok None → Ok Free ≡ first_by (field_of s) s n
  first_none h = rw (sym e ∙ h)

  pub first_broken : {b : Unclosed} → x ≡ Err b → Err BrokenQuoting ≡ first_by (field_of s) s n
  first_broken h = rw (sym e ∙ h)

  module _ (f : FoundField) (h : x ≡ Ok (Some f)) where
    pub first_quoted : f.quoted ≡ true → Ok (Data false n f.next) ≡ first_by (field_of s) s n
    first_quoted t = rw (sym e ∙ h, t)

    pub first_bare : (r : LineKind) → f.quoted ≡ false → r ≡ bare_kind (take (f.start + f.len - f.start) (drop f.start s)) n f.next → Ok r ≡ first_by (field_of s) s n
    first_bare r t k =
        let z : f.start + f.len - f.start ≡ f.len = omega arith in
        let i : r ≡ bare_kind (take f.len (drop f.start s)) n f.next = rw z at k in
        rw (sym e ∙ h, t, i)

    pub first_end : f.start + f.len ≤ length s
    first_end = let b = got_lies s f (sym e ∙ h) in omega arith

    pub first_fits : length s < 2 ^ 64 → Fits w64 (f.start + f.len)
    first_fits g = let b = got_lies s f (sym e ∙ h) in omega arith

    pub first_start : f.start ≤ length s
    first_start = let b = got_lies s f (sym e ∙ h) in omega arith

-- The whole line
pub some_before : (f : Field) (o : Option (List Field)) (fs : List Field) → before f o ≡ some fs → (gs : List Field) × (o ≡ some gs) × (fs ≡ f ∷ gs)
some_before f none fs h = absurd (none_some h)
some_before f (some gs) fs h = (gs, refl, cc)

first_is : (s : List ℕ) (fs : List Field) → fields_of s ≡ some fs → first_by (field_of s) s (length fs) ≡ kind_by (by_first fs) (behind (field_of s))
unfolding fields_of fields_in bare_kind
first_is s fs e = go (field_of s) e
  where
    by : (t : Bool) (w : List ℕ) (gs : List Field) (m : ℕ) → Ok (cond t (Key (keyword_of (folded w)) (suc (length gs)) m) (Data (same_bytes prop_word (folded w)) (suc (length gs)) m)) ≡ kind_by (cond t (key_line (folded w) gs) (data_line (field false w ∷ gs))) m
    by true w gs m = refl
    by false w gs m = refl

    quoted : (q : Bool) (w : List ℕ) (gs : List Field) (m : ℕ) → Ok (cond q (Data false (suc (length gs)) m) (bare_kind w (suc (length gs)) m)) ≡ kind_by (by_first (field q w ∷ gs)) m
    quoted true w gs m = refl
    quoted false w gs m = by (begins 46 w) w gs m

    go : (x : FirstField) → fields_by x s (λ n. fields_in (length s) (drop n s)) ≡ some fs → first_by x s (length fs) ≡ kind_by (by_first fs) (behind x)
    go (Ok None) h = let z : fs ≡ [] = cc in rw z
    go (Ok (Some f)) h =
        let g = some_before (field f.quoted (take f.len (drop f.start s))) (fields_in (length s) (drop f.next s)) fs h in
        rw g.2 (quoted f.quoted (take f.len (drop f.start s)) g.0 f.next)
    go (Err e) h = absurd (none_some h)

module _ (s : List ℕ) (t : Bool) (e : t ≡ begins 35 s) where
  pub line_comment : t ≡ true → Ok Free ≡ kind_of s
  unfolding kind_of line_as
  line_comment h = rw (sym e ∙ h)

  module _ (h : t ≡ false) (u : Bool) (f : u ≡ all_of permitted s) where
    pub line_forbidden : not u ≡ true → Err ForbiddenByte ≡ kind_of s
    unfolding kind_of line_as
    line_forbidden k = rw (sym e ∙ h, sym f ∙ not-true u k)

    module _ (k : not u ≡ false) (c : Result ℕ Unclosed) (x : c ≡ count_of s) where
      pub line_broken : {b : Unclosed} → c ≡ Err b → Err BrokenQuoting ≡ kind_of s
      unfolding kind_of line_as count_of
      line_broken y = rw (sym e ∙ h, sym f ∙ not-false u k) (go (fields_of s) (sym y ∙ x))
        where
          go : (o : Option (List Field)) → {b : Unclosed} → Err b ≡ count_by o → Err BrokenQuoting ≡ kind_by (by_fields o) (behind (field_of s))
          go none z = refl
          go (some fs) z = let w : ◌≡◌ {A = ℕ} 0 1 = cc in absurd (omega arith)

      pub line_fields : (n : ℕ) (r : Result LineKind Refusal) → c ≡ Ok n → r ≡ first_by (field_of s) s n → r ≡ kind_of s
      unfolding kind_of line_as count_of
      line_fields n r y z = rw (sym e ∙ h, sym f ∙ not-false u k) (go (fields_of s) refl (sym y ∙ x))
        where
          go : (o : Option (List Field)) → fields_of s ≡ o → Ok n ≡ count_by o → r ≡ kind_by (by_fields o) (behind (field_of s))
          go none i j = let w : ◌≡◌ {A = ℕ} 0 1 = cc in absurd (omega arith)
          go (some fs) i j = let w : n ≡ length fs = cc in z ∙ rw w (first_is s fs i)
