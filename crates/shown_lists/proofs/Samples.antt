-- Well-formed records for the lines that a list may still need.
use Prim.Native.Nat.{ℕ}
use mathlib.Core.Path.{◌≡◌, refl, sym, ap, ◌∙◌, subst}
use mathlib.Core.Logic.{◌≢◌}
use mathlib.Core.List.{List, [], ◌∷◌}
use mathlib.Core.Bool.{Bool, true, false, not, ◌&&◌}
use native.Mathlib.Omega.{arith}
use lib.Dec.{leb}
use lib.IntN.{ℤ, pos, nat_abs}
use Rattle.basics.proofs.Bytes.{bytes_self}
use Rattle.basics.proofs.Integers.{eq_z_true, eq_z_false}
use Rattle.basics.proofs.Bools.{both}
use Rattle.basics.specs.Integers.{eq_z}
use Rattle.law.specs.Bytes.{all_of, ascii}
use Rattle.law.specs.Limits.{largest_length}
use Rattle.law.specs.Dates.{date_pieces, is_two, fits_in, is_date}
use Rattle.law.specs.Values.{Value, number, word, text, Rec}
use Rattle.law.specs.Words.{same_bytes, named, is_in, folded}
use Rattle.law.specs.Kinds.{kind_at, section_of, role_of}
use Rattle.law.specs.declared.Role.{Role}
use Rattle.law.specs.declared.Role.TheVariants.{Lead as lead, Point as point, Part as part, Unknown as unknown}
use Rattle.law.specs.Layouts.{types_of}
use Rattle.law.specs.Fits.{version_of, is_board, under, within, text_byte, barred, good_text, meaning, fits, fits_all, well_formed, WellFormed, is_name}
use Rattle.law.specs.declared.Rules.{Rules}
use Rattle.law.specs.declared.FileType.{FileType}
use Rattle.law.specs.declared.FileType.TheVariants.{Board as board, Panel as panel, Library as library}
use Rattle.law.specs.declared.Context.{Context}
use Rattle.law.specs.declared.Limit.{Limit}
use Rattle.law.specs.declared.Limit.TheVariants.{Length, NotBelow, Above, Included, Rotation, Version}
use Rattle.law.specs.declared.Texts.TheVariants.{Plain, Reference, Hole}
use Rattle.law.specs.declared.FieldType.{FieldType}
use Rattle.law.specs.declared.FieldType.TheVariants.{Text, Date, Integer, Number, Word}
use Rattle.law.specs.Records.{shape_of, Place, label_of, place_of, angle_of, names_a_component}
use Rattle.order.specs.Places.{point_line}
use Rattle.order.specs.Automaton.{is_role}
use Rattle.law.specs.Lists.{Line}
use Rattle.shown_lists.proofs.Roles.{is_section, has_points, point_line_lem}
use Rattle.shown_lists.proofs.Fields.{length_second, origin, set_x, fits_all_any, has_label, has_x, set_fits}
use Rattle.shown_lists.proofs.Tables.{section_at_lem, role_at, named_lead, first_word, version_fits, pointable, Laid, laid}

abbrev a_date : List ℕ
a_date = ascii "2026/01/01.00:00:00"

abbrev sample_number : Rules → Limit → ℤ
sample_number v Length = pos 0
sample_number v NotBelow = pos 0
sample_number v Above = pos 1
sample_number v Included = pos 0
sample_number v Rotation = pos 0
sample_number v Version = pos (version_of v)

-- texts are w throughout
abbrev sample_value : Rules → List ℕ → FieldType → Value
sample_value v w (Text Plain) = text w
sample_value v w (Text Reference) = text []
sample_value v w (Text Hole) = text []
sample_value v w Date = text a_date
sample_value v w Integer = number (pos 0)
sample_value v w (Number l) = number (sample_number v l)
sample_value v w (Word l) = word 0

abbrev pub samples : Rules → List ℕ → List FieldType → List Value
samples v w [] = []
samples v w (f ∷ fs) = sample_value v w f ∷ samples v w fs

-- a point with label and angle 0, at 0 0
abbrev pub origin_at : ℕ → Rec
origin_at k = record { kind = k; values = origin }

-- a point with another x
abbrev shifted : Rec → ℤ → Rec
shifted r z = record { kind = r.kind; values = set_x r.values z }

set_label : (k : ℕ) (vs : List Value) (z : ℤ) → label_of (shifted (record { kind = k; values = vs }) z) ≡ label_of (record { kind = k; values = vs })
set_label k [] z = refl
set_label k (p ∷ []) z = refl
set_label k (p ∷ w ∷ vs) z = refl

set_angle : (k : ℕ) (vs : List Value) (z : ℤ) → angle_of (shifted (record { kind = k; values = vs }) z) ≡ angle_of (record { kind = k; values = vs })
set_angle k [] z = refl
set_angle k (p ∷ []) z = refl
set_angle k (p ∷ w ∷ vs) z = refl

never_board : (t : FileType) → (not (is_board t && false) && true) ≡ true
never_board board = refl
never_board panel = refl
never_board library = refl

module _ (v : Rules) where
  -- a well_formed_lem record by the layout of its kind
  laid_fits : (t : FileType) (r : Rec) (l : Laid v r.kind) → fits_all (under v t) l.layout.types r.values ≡ true → WellFormed (under v t) r
  unfolding well_formed
  laid_fits t r l h = rw l.is_layout h

  fits_laid : (t : FileType) (r : Rec) (l : Laid v r.kind) → WellFormed (under v t) r → fits_all (under v t) l.layout.types r.values ≡ true
  unfolding well_formed
  fits_laid t r l h = rw l.is_layout at h

  -- a line whose fields do not depend on the file's type
  pub retype : {t : FileType} {s : ℕ} {a : Role} {r : Rec} (u : FileType) → is_role a unknown ≡ false → is_role a part ≡ false → Line v t s a r
      → Line v u s a r
  retype {t} {s} {a} {r} u e f k =
      let l = laid v r.kind (rw k.has_role e) in
      record {
        in_section = k.in_section;
        has_role = k.has_role;
        is_good = laid_fits u r l (sym (fits_all_any v t u l.layout.types r.values (l.free (rw k.has_role f))) ∙ fits_laid t r l k.is_good);
      }

  abbrev pub sample : List ℕ → ℕ → Rec
  sample w k = record { kind = k; values = samples v w (types_of v k) }

  number_fits : (t : FileType) (l : Limit) → fits (under v t) (Number l) (number (sample_number v l)) ≡ true
  unfolding fits within
  number_fits t Length = refl
  number_fits t NotBelow = refl
  number_fits t Above = refl
  number_fits t Included = refl
  number_fits t Rotation = refl
  number_fits t Version = version_fits v t

  module _ (w : List ℕ) (e : all_of text_byte w ≡ true) where
    sample_fits : (t : FileType) (f : FieldType) → fits (under v t) f (sample_value v w f) ≡ true
    unfolding fits good_text meaning is_name named is_in folded all_of same_bytes barred is_date is_two fits_in date_pieces
    sample_fits t (Text Plain) = rw (e, bytes_self w)
    sample_fits t (Text Reference) = never_board t
    sample_fits t (Text Hole) = refl
    sample_fits t Date = refl
    sample_fits t Integer = refl
    sample_fits t (Number l) = number_fits t l
    sample_fits t (Word l) = first_word v l

    samples_fit : (t : FileType) (fs : List FieldType) → fits_all (under v t) fs (samples v w fs) ≡ true
    unfolding fits_all
    samples_fit t [] = refl
    samples_fit t (f ∷ fs) = rw (sample_fits t f) (samples_fit t fs)

    pub sample_line : (t : FileType) (s : ℕ) (a : Role) (k : ℕ) → is_role a unknown ≡ false → section_of v k ≡ s → role_of v k ≡ a
        → Line v t s a (sample w k)
    unfolding types_of
    sample_line t s a k u i h =
        let l = laid v k (rw h u) in
        record { in_section = i; has_role = h; is_good = laid_fits t (sample w k) l (rw l.is_layout (samples_fit t l.layout.types)) }

  point_fits : (l : List FieldType) → pointable v l ≡ true → (length_second l ≡ true) × (fits_all (under v library) l origin ≡ true)
  point_fits l h = both (length_second l) (fits_all (under v library) l origin) h

  -- a point at 0, 0
  pub origin_line : (t : FileType) (s : ℕ) → is_section v s ≡ true → has_points (shape_of v s) ≡ true
      → Line v t s point (origin_at (kind_at v s (point_line (shape_of v s))))
  origin_line t s i h =
      let n = point_line (shape_of v s) in
      let w = point_line_lem (shape_of v s) h in
      let e : role_of v (kind_at v s n) ≡ point = role_at v s n i w.1 ∙ w.0 in
      let l = laid v (kind_at v s n) (rw e) in
      let fs = l.layout.types in
      record {
        in_section = section_at_lem v s n i w.1;
        has_role = e;
        is_good = laid_fits t (origin_at (kind_at v s n)) l (fits_all_any v t library fs origin (l.free (rw e)) ∙ (point_fits fs (l.measured e)).1);
      }

  -- a point line elsewhere, with the label and the angle of a given one
  pub record Elsewhere (t : FileType) (s : ℕ) (a : Rec) : Type 0 where
    pub there : Rec
    pub is_line : Line v t s point there
    pub same_label : label_of there ≡ label_of a
    pub same_angle : angle_of there ≡ angle_of a
    pub other_place : place_of there ≢ place_of a

  module _ {t : FileType} {s : ℕ} {a : Rec} (z : ℤ) (k : Line v t s point a) where
    point_laid : Laid v a.kind
    point_laid = laid v a.kind (rw k.has_role)

    set_x_lem : (c : Context) (fs : List FieldType) (vs : List Value) → length_second fs ≡ true → fits_all c fs vs ≡ true
        → (place_of (shifted (record { kind = a.kind; values = vs }) z)).x ≡ z
    set_x_lem c fs [] m h = absurd (has_label c fs m h)
    set_x_lem c fs (p ∷ []) m h = absurd (has_x c fs p m h)
    set_x_lem c fs (p ∷ w ∷ vs) m h = refl

    shifted_to : leb (nat_abs z) largest_length ≡ true → (place_of a).x ≢ z → Elsewhere t s a
    shifted_to e n =
        let l = point_laid in
        let m = (point_fits l.layout.types (l.measured k.has_role)).0 in
        let h = fits_laid t a l k.is_good in
        record {
          there = shifted a z;
          is_line =
              record {
                in_section = k.in_section;
                has_role = k.has_role;
                is_good = laid_fits t (shifted a z) l (set_fits (under v t) l.layout.types a.values z e m h);
              };
          same_label = set_label a.kind a.values z;
          same_angle = set_angle a.kind a.values z;
          other_place = λ y. n (sym (ap (λ (p : Place). p.x) y) ∙ set_x_lem (under v t) l.layout.types a.values m h);
        }

  pub elsewhere : {t : FileType} {s : ℕ} {a : Rec} → Line v t s point a → Elsewhere t s a
  elsewhere {t} {s} {a} k = go (eq_z (place_of a).x (pos 0)) refl
    where
      go : (b : Bool) → eq_z (place_of a).x (pos 0) ≡ b → Elsewhere t s a
      go true e = shifted_to (pos 1) k refl (λ h. let z : pos 0 ≡ pos 1 = sym (eq_z_true _ _ e) ∙ h in let y : ◌≡◌ {A = ℕ} 0 1 = cc in omega arith)
      go false e = shifted_to (pos 0) k refl (eq_z_false _ _ e)

  -- only the leading line of a component names one
  pub no_name : {t : FileType} {s : ℕ} {a : Role} {r : Rec} → is_role a lead ≡ false → Line v t s a r → names_a_component v r.kind ≡ false
  no_name {a = a} {r} e k = go (names_a_component v r.kind) refl
    where
      go : (b : Bool) → names_a_component v r.kind ≡ b → b ≡ false
      go false h = refl
      go true h = let z : a ≡ lead = sym k.has_role ∙ named_lead v r.kind h in subst (λ (x : Role). is_role x lead ≡ false) z e
