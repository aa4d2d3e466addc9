-- What holds of the tables: words and names differ, are of bytes that stand bare, and a layout's front can be written. One computed test for each table.
use Prim.Native.Nat.{ℕ, zero, suc, ◌≤◌}
use mathlib.Core.Path.{◌≡◌, refl}
use mathlib.Core.List.{List, [], ◌∷◌}
use mathlib.Core.Option.{Option, none, some}
use mathlib.Core.Bool.{Bool, true, false, cond, not, ◌&&◌, false≢true, true≢false}
use borrow.Author.Tests.{leb-true, not-true}
use lib.Dec.{leb, eqb}
use lib.ListN.{length}
use Rattle.basics.proofs.Lists.{all_sound, all_complete}
use Rattle.basics.proofs.Bools.{and_left, and_right, none_some}
use Rattle.law.specs.Bytes as by
use Rattle.law.specs.Bytes.{permitted, All, all_of}
use Rattle.law.specs.Words.{words_of, end_word, same_bytes, is_in, word_at}
use Rattle.law.specs.Sections.{section_names, SectionForm, sections, nth, section_at}
use Rattle.law.specs.declared.Role.TheVariants as role
use Rattle.law.specs.Kinds.{role_in, section_of, line_of}
use Rattle.law.specs.declared.Role.{Role}
use Rattle.law.specs.Layouts.{Front, keyword, prop, plain, Layout, owner_field, open_word, close_word, front_of, data_layout, line_in, line_by, layout_of}
use Rattle.law.specs.Fits.{is_empty}
use Rattle.law.specs.declared.Rules.{Rules}
use Rattle.law.specs.declared.Rules.TheVariants.{Idf3}
use Rattle.law.specs.declared.Words.{Words}
use Rattle.law.specs.declared.Words.TheVariants.{FileTypes, Units, Owners, Faces, Sides, Layers, Plates, Statuses}
use Rattle.law.specs.declared.FieldType.{FieldType}
use Rattle.law.specs.WordSpelling.{Listed, here, there}
use Rattle.shown_spelling.proofs.WordSpelling.{differ}
use Rattle.shown_spelling.proofs.BareBytes.{tight, safe, name_byte, all_append, name_case}

-- A test over a list
abbrev pub every : {A : Type 0} → (A → Bool) → List A → Bool
every p [] = true
every p (x ∷ l) = p x && every p l

at_nth : {A : Type 0} (p : A → Bool) (l : List A) (n : ℕ) (x : A) → every p l ≡ true → nth l n ≡ some x → p x ≡ true
at_nth p [] n x h e = absurd (none_some e)
at_nth p (y ∷ l) zero x h e = let z : x ≡ y = cc in rw z (and_left (p y) _ h)
at_nth p (y ∷ l) (suc n) x h e = at_nth p l n x (and_right (p y) _ h) e

-- the word at a place: one of the list, or no bytes
at_word : (p : List ℕ → Bool) (l : List (List ℕ)) (n : ℕ) → every p l ≡ true → p [] ≡ true → p (word_at l n) ≡ true
unfolding word_at
at_word p [] n h e = e
at_word p (w ∷ l) zero h e = and_left (p w) _ h
at_word p (w ∷ l) (suc n) h e = at_word p l n (and_right (p w) _ h) e

-- Words: bytes that can stand bare, so at least one, and are capital letters or underscores
abbrev pub is_word : List ℕ → Bool
is_word w = all_of tight w && (safe w && all_of name_byte w)

words_good : (v : Rules) (l : Words) → differ (words_of v l) && every is_word (words_of v l) ≡ true
unfolding words_of same_bytes is_in all_of permitted
words_good Idf3 FileTypes = refl
words_good Idf3 Units = refl
words_good Idf3 Owners = refl
words_good Idf3 Faces = refl
words_good Idf3 Sides = refl
words_good Idf3 Layers = refl
words_good Idf3 Plates = refl
words_good Idf3 Statuses = refl

pub words_differ : (v : Rules) (l : Words) → differ (words_of v l) ≡ true
words_differ v l = and_left (differ (words_of v l)) _ (words_good v l)

pub words_stand : (v : Rules) (l : Words) → every is_word (words_of v l) ≡ true
words_stand v l = and_right (differ (words_of v l)) _ (words_good v l)

word_some : (w : List ℕ) → is_word w ≡ true → is_empty w ≡ false
unfolding is_empty all_of
word_some [] h = absurd (false≢true h)
word_some (b ∷ w) h = refl

-- a place that is spelled holds a word, and a place that holds bytes spells by them
pub listed_some : {ws : List (List ℕ)} {n : ℕ} {s : List ℕ} → every is_word ws ≡ true → Listed ws n s → is_empty (word_at ws n) ≡ false
unfolding word_at
listed_some h (here {w} e) = word_some w (and_left (is_word w) _ h)
listed_some h (there {w} r) = listed_some (and_right (is_word w) _ h) r

pub word_listed : (ws : List (List ℕ)) (n : ℕ) → every is_word ws ≡ true → is_empty (word_at ws n) ≡ false → (is_word (word_at ws n) ≡ true) × Listed ws n (word_at ws n)
unfolding word_at is_empty
word_listed [] n h k = absurd (true≢false k)
word_listed (w ∷ ws) zero h k =
    let g = and_left (is_word w) _ h in
    (g, here (name_case w (all_sound name_byte w (and_right (safe w) _ (and_right (all_of tight w) _ g)))))
word_listed (w ∷ ws) (suc n) h k =
    let i = word_listed ws n (and_right (is_word w) _ h) k in
    (i.0, there i.1)

-- Names: of capital letters and underscores, and none begins as a closing keyword does
abbrev pub starts_with : List ℕ → List ℕ → Bool
starts_with [] s = true
starts_with (a ∷ p) [] = false
starts_with (a ∷ p) (b ∷ s) = eqb a b && starts_with p s

abbrev is_name : List ℕ → Bool
is_name k = all_of name_byte k && not (starts_with end_word k)

names_good : differ section_names && every is_name section_names ≡ true
unfolding section_names same_bytes is_in all_of sections
names_good = refl

pub names_differ : differ section_names ≡ true
names_differ = and_left (differ section_names) _ names_good

name_at_lem : (n : ℕ) → is_name (word_at section_names n) ≡ true
unfolding all_of
name_at_lem n = at_word is_name section_names n (and_right (differ section_names) _ names_good) refl

pub name_no_end : (n : ℕ) → starts_with end_word (word_at section_names n) ≡ false
name_no_end n = not-true _ (and_right (all_of name_byte (word_at section_names n)) _ (name_at_lem n))

open_name : (s : ℕ) → All name_byte (open_word s)
open_name zero = by.none
open_name (suc n) = all_sound name_byte (word_at section_names n) (and_left _ _ (name_at_lem n))

close_name : (s : ℕ) → All name_byte (close_word s)
unfolding all_of
close_name s = all_append (all_sound name_byte end_word refl) (open_name s)

-- Layouts: a keyword is a name, and a data line that nothing stands before has a field
unfoldable pub good_front : Front → List FieldType → Bool
good_front (keyword k) ts = all_of name_byte k
good_front prop ts = true
good_front plain [] = false
good_front plain (t ∷ ts) = true

abbrev has_field : List FieldType → Bool
has_field [] = false
has_field (t ∷ ts) = true

abbrev all_have : SectionForm → Bool
all_have d = every has_field d.lines

sections_good : (v : Rules) → every all_have (sections v) && leb (length (sections v)) (length section_names) ≡ true
unfolding sections section_names
sections_good Idf3 = refl

-- and every section has a name
pub sections_named : (v : Rules) → length (sections v) ≤ length section_names
sections_named v = leb-true (length (sections v)) (length section_names) (and_right (every all_have (sections v)) _ (sections_good v))

data_front : (r : Role) (ts : List FieldType) → has_field ts ≡ true → good_front (front_of r) ts ≡ true
unfolding good_front
data_front r [] h = absurd (false≢true h)
data_front role.Opening (t ∷ ts) h = refl
data_front role.Closing (t ∷ ts) h = refl
data_front role.Title (t ∷ ts) h = refl
data_front role.Name (t ∷ ts) h = refl
data_front role.Lead (t ∷ ts) h = refl
data_front role.Point (t ∷ ts) h = refl
data_front role.Prop (t ∷ ts) h = refl
data_front role.Entry (t ∷ ts) h = refl
data_front role.Part (t ∷ ts) h = refl
data_front role.Position (t ∷ ts) h = refl
data_front role.Unknown (t ∷ ts) h = refl

line_front : (n s : ℕ) (d : SectionForm) (l : Layout) → all_have d ≡ true → line_in n s d ≡ some l → good_front l.front l.types ≡ true
unfolding good_front
line_front zero s d l h e =
    let z : l ≡ record { front = keyword (open_word s); types = owner_field d.owned } = cc in
    rw z (all_complete name_byte (open_name s))
line_front (suc n) s d l h e = go (eqb n 8) e
  where
    by_lines : (o : Option (List FieldType)) → nth d.lines n ≡ o → data_layout (role_in d.shape (suc n)) o ≡ some l → good_front l.front l.types ≡ true
    by_lines none i e = absurd (none_some e)
    by_lines (some ts) i e =
        let z : l ≡ record { front = front_of (role_in d.shape (suc n)); types = ts } = cc in
        rw z (data_front (role_in d.shape (suc n)) ts (at_nth has_field d.lines n ts h i))

    go : (t : Bool) → cond t (some (record { front = keyword (close_word s); types = [] })) (data_layout (role_in d.shape (suc n)) (nth d.lines n)) ≡ some l → good_front l.front l.types ≡ true
    go true e =
        let z : l ≡ record { front = keyword (close_word s); types = [] } = cc in
        rw z (all_complete name_byte (close_name s))
    go false e = by_lines (nth d.lines n) refl e

pub layout_front : (v : Rules) (k : ℕ) (l : Layout) → layout_of v k ≡ some l → good_front l.front l.types ≡ true
unfolding layout_of
layout_front v k l e = go (section_of v k) e
  where
    by_section : (n : ℕ) (o : Option SectionForm) → nth (sections v) n ≡ o → line_by (line_of v k) (suc n) o ≡ some l → good_front l.front l.types ≡ true
    by_section n none h e = absurd (none_some e)
    by_section n (some d) h e = line_front (line_of v k) (suc n) d l (at_nth all_have (sections v) n d (and_left _ _ (sections_good v)) h) e

    go : (s : ℕ) → line_by (line_of v k) s (section_at v s) ≡ some l → good_front l.front l.types ≡ true
    go zero e = absurd (none_some e)
    go (suc n) e = by_section n (nth (sections v) n) refl e
