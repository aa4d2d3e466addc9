-- The canonical line of a record, piece by piece: what stands before its fields, then each field with the byte behind it.
use Prim.Native.Nat.{ℕ, suc, ◌+◌}
use mathlib.Core.Path.{◌≡◌, refl, sym, ap, ◌∙◌}
use mathlib.Core.List.{List, [], ◌∷◌, ◌++◌, append_assoc}
use mathlib.Core.Option.{Option, none, some}
use mathlib.Core.Bool.{Bool, true, false, not, cond, ◌&&◌, false≢true}
use native.Mathlib.Omega.{arith}
use borrow.Author.Tests.{ne_eqb}
use lib.Dec.{leb}
use lib.IntN.{ℤ}
use lib.ListN.{length}
use Rattle.rows.proofs.EachKind.{each_kind}
use Rattle.rows.specs.Columns.{column_at}
use Rattle.basics.proofs.Bytes.{bytes_true}
use Rattle.basics.proofs.Tables.{all_below}
use Rattle.basics.proofs.Bools.{and_left, and_right, same_flag, flag_eq}
use Rattle.law.specs.Fields.{Field}
use Rattle.law.specs.Sections.{section_names, sections}
use Rattle.law.specs.Words.{prop_word, same_bytes, word_at}
use Rattle.law.specs.declared.Role.{Role}
use Rattle.law.specs.Kinds.{section_of, line_of, role_of, last_kind}
use Rattle.law.specs.Layouts.{Front, keyword, prop, plain, Layout, layout_of, types_by, types_of}
use Rattle.form_layouts.specs.Letters.{width_of, known_by, is_kind}
use Rattle.form_words.specs.Padded.{trimmed, keyword_table, no_keyword, keyword_row}
use Rattle.law.specs.Fits.{is_empty}
use Rattle.law.specs.declared.Rules.{Rules}
use Rattle.law.specs.declared.Rules.TheVariants.{Idf3}
use Rattle.law.specs.declared.FieldType.{FieldType}
use Rattle.law.specs.Canonical.{canonical_field, canonical_fields, canonical_line, canonical_by, canonical_record, written, joined, with_front}
use Rattle.order.specs.Automaton.{is_role}
use Rattle.write_columns.specs.Columns.{kind_in}
use Rattle.write_columns.specs.Records.{value_in, values_in}
use Rattle.write_lines.specs.LineText.{line_text, mark_of, name_at, behind_of, front_text, value_text, ended_text, fields_text}

-- fields, each with the byte behind it
abbrev ended : List Field → List ℕ
ended [] = []
ended (f ∷ fs) = written f ++ (behind_of (length fs) ∷ ended fs)

abbrev no_fields : List Field → Bool
no_fields [] = true
no_fields (f ∷ fs) = false

joined_ended : (f : Field) (fs : List Field) → joined (f ∷ fs) ++ 10 ∷ [] ≡ ended (f ∷ fs)
unfolding joined
joined_ended f [] = refl
joined_ended f (g ∷ fs) =
    rw (ne_eqb (suc (length fs)) 0 (λ h. omega arith)) (append_assoc (written f) (32 ∷ joined (g ∷ fs)) (10 ∷ []) ∙ ap (λ (l : List ℕ). written f ++ (32 ∷ l)) (joined_ended g fs))

some_joined : (fs : List Field) → no_fields fs ≡ false → joined fs ++ 10 ∷ [] ≡ ended fs
some_joined [] h = absurd (false≢true (sym h))
some_joined (f ∷ fs) h = joined_ended f fs

-- the fields of a row
module _ (v : Rules) (bytes : List ℕ) (row : List ℤ) where
  as_many : (ts : List FieldType) (i : ℕ) → length (canonical_fields v ts (values_in bytes row ts i)) ≡ length ts
  unfolding canonical_fields values_in
  as_many [] i = refl
  as_many (t ∷ ts) i = ap suc (as_many ts (i + width_of t))

  fields_ended : (ts : List FieldType) (i : ℕ) → ended (canonical_fields v ts (values_in bytes row ts i)) ≡ fields_text v bytes row ts i
  unfolding canonical_fields values_in fields_text ended_text value_text
  fields_ended [] i = refl
  fields_ended (t ∷ ts) i =
      let w = written (canonical_field v t (value_in t bytes (column_at row i) (column_at row (i + 1)))) in
      let b = behind_of (length ts) in
      rw (as_many ts (i + width_of t)) (ap (λ (l : List ℕ). w ++ (b ∷ l)) (fields_ended ts (i + width_of t)) ∙ sym (append_assoc w (b ∷ []) (fields_text v bytes row ts (i + width_of t))))

-- what stands before fields
abbrev word_before : Front → List ℕ
word_before (keyword k) = 46 ∷ k
word_before prop = prop_word
word_before plain = []

front_ended : (r : Front) (fs : List Field) → ended (with_front r fs) ≡ cond (is_empty (word_before r)) [] (word_before r ++ behind_of (length fs) ∷ []) ++ ended fs
unfolding written is_empty
front_ended (keyword k) fs = sym (append_assoc (46 ∷ k) (behind_of (length fs) ∷ []) (ended fs))
front_ended prop fs = sym (append_assoc prop_word (behind_of (length fs) ∷ []) (ended fs))
front_ended plain fs = refl

-- what the tables say of a kind: the word before its fields; and a kind without one has fields
abbrev no_types : List FieldType → Bool
no_types [] = true
no_types (t ∷ ts) = false

abbrev right_by : Option Layout → Role → ℕ → Bool
right_by none n s = true
right_by (some l) n s =
    same_bytes (word_before l.front) (mark_of n ++ trimmed (name_at n s))
    && (same_flag (is_empty (word_before l.front)) (is_empty (mark_of n)) && not (is_empty (word_before l.front) && no_types l.types))

abbrev right : Rules → ℕ → Bool
right v k = right_by (layout_of v k) (role_of v k) (section_of v k)

table_right : (v : Rules) → all_below (suc last_kind) (right v) ≡ true
unfolding layout_of role_of section_of line_of sections section_names word_at trimmed keyword_row keyword_table no_keyword same_bytes is_empty
table_right Idf3 = refl

beyond : (v : Rules) (k : ℕ) → leb k last_kind ≡ false → right v k ≡ true
unfolding layout_of section_of
beyond Idf3 k h = rw h

all_right : (v : Rules) (k : ℕ) → right v k ≡ true
all_right v = each_kind (right v) (table_right v) (beyond v)

some_fields : (v : Rules) (r : Front) (ts : List FieldType) (bytes : List ℕ) (row : List ℤ) (i : ℕ) → not (is_empty (word_before r) && no_types ts) ≡ true
    → no_fields (with_front r (canonical_fields v ts (values_in bytes row ts i))) ≡ false
unfolding is_empty canonical_fields values_in
some_fields v (keyword k) ts bytes row i h = refl
some_fields v prop ts bytes row i h = refl
some_fields v plain [] bytes row i h = absurd (false≢true h)
some_fields v plain (t ∷ ts) bytes row i h = refl

-- the line of a row of a kind that some section has
module _ (v : Rules) (bytes : List ℕ) (row : List ℤ) (known : is_kind v (kind_in row) ≡ true) where
  abbrev k : ℕ
  k = kind_in row

  abbrev role : Role
  role = role_of v k

  pub line_pieces : line_text v bytes row ≡ front_text role (section_of v k) (length (types_of v k)) ++ fields_text v bytes row (types_of v k) 1
  unfolding line_text canonical_record canonical_line types_of is_kind front_text
  line_pieces = go (layout_of v k) known (all_right v k)
    where
      go : (o : Option Layout) → known_by o ≡ true → right_by o role (section_of v k) ≡ true
          → canonical_by v o (values_in bytes row (types_by o) 1) ++ 10 ∷ []
          ≡ cond (is_empty (mark_of role)) [] (mark_of role ++ (trimmed (name_at role (section_of v k)) ++ behind_of (length (types_by o)) ∷ [])) ++ fields_text v bytes row (types_by o) 1
      go none h r = absurd (false≢true h)
      go (some l) h r =
          let w = word_before l.front in
          let m = mark_of role ++ trimmed (name_at role (section_of v k)) in
          let b = behind_of (length l.types) in
          let a = bytes_true w m (and_left (same_bytes w m) _ r) in
          let q = and_right (same_bytes w m) (same_flag (is_empty w) (is_empty (mark_of role)) && not (is_empty w && no_types l.types)) r in
          let e = flag_eq (is_empty w) (is_empty (mark_of role)) (and_left (same_flag (is_empty w) (is_empty (mark_of role))) _ q) in
          let n = and_right (same_flag (is_empty w) (is_empty (mark_of role))) (not (is_empty w && no_types l.types)) q in
          let fs = canonical_fields v l.types (values_in bytes row l.types 1) in
          some_joined (with_front l.front fs) (some_fields v l.front l.types bytes row 1 n)
          ∙ front_ended l.front fs
          ∙ rw (e, as_many v bytes row l.types 1, fields_ended v bytes row l.types 1, a, append_assoc (mark_of role) (trimmed (name_at role (section_of v k))) (b ∷ []))
