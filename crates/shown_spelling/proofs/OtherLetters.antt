-- What differs from lines in the letter case of words and names alone spells the same records; a name in a record stands in capitals, and BOARD is
-- in no letter case a board's reference.
use Prim.Native.Nat.{ℕ, zero, suc}
use mathlib.Core.Path.{◌≡◌, refl, sym, ap, ◌∙◌, subst}
use mathlib.Core.List.{List, [], ◌∷◌}
use mathlib.Core.Option.{some}
use mathlib.Core.Bool.{Bool, true, false, not, false≢true}
use native.Mathlib.Omega.{arith}
use borrow.Author.Tests.{not-true}
use lib.ListN.{drop, get_or}
use Rattle.basics.proofs.Bools.{and_left, and_right, not_both, none_some}
use Rattle.basics.proofs.Bytes.{bytes_true, bytes_same}
use Rattle.basics.proofs.Lists.{all_sound, all_complete}
use Rattle.basics.proofs.Letters.{folded_permitted, folded_begins}
use Rattle.law.specs.Bytes.{permitted, All, all_of, begins}
use Rattle.law.specs.Fields.{Field, field, Spelled}
use Rattle.text_fields.proofs.FieldSpelling.{fields_unique}
use Rattle.law.specs.Values.{Value, number, word, text, Rec}
use Rattle.law.specs.Records.{bytes_of}
use Rattle.law.specs.Sections.{nth}
use Rattle.law.specs.Words.{board_word, named, same_bytes, is_in, folded}
use Rattle.law.specs.Layouts.{Front}
use Rattle.law.specs.Fits.{under, is_name, meaning, barred, text_byte, good_text, fits, fits_all}
use Rattle.law.specs.WordSpelling.{Listed, here, there, AnyCase}
use Rattle.law.specs.RecordSpelling.{SpellsField, as_text, as_word, SpellsFields, SpellsLine, as_line}
use Rattle.law.specs.RecordSpelling as spells
use Rattle.law.specs.LineSpelling as lines
use Rattle.law.specs.LineSpelling.{Where, SpellsLines}
use Rattle.law.specs.Files.{FileSays}
use Rattle.law.specs.FieldFaults.{NoValue, FaultyField, barred_board}
use Rattle.law.specs.LineFaults.{Fronted, with_keyword, with_prop, as_data}
use Rattle.law.specs.Letters as letters
use Rattle.law.specs.Letters.{OtherField, as_it_is, a_word, a_name, OtherFields, OtherLines, OtherFile}
use Rattle.law.specs.declared.Rules.{Rules}
use Rattle.law.specs.declared.Context.{Context}
use Rattle.law.specs.declared.FileType.TheVariants.{Board}
use Rattle.law.specs.declared.Texts.{Texts}
use Rattle.law.specs.declared.Texts.TheVariants.{Reference}
use Rattle.law.specs.declared.FieldType.{FieldType}
use Rattle.law.specs.declared.FieldType.TheVariants.{Text as T}
use Rattle.shown_spelling.proofs.WordSpelling.{case_folds, any_case}

-- Words and names

listed_again : {ws : List (List ℕ)} {n : ℕ} {s u : List ℕ} → folded s ≡ folded u → Listed ws n s → Listed ws n u
listed_again e (here m) = here (any_case (sym (case_folds m) ∙ e))
listed_again e (there r) = there (listed_again e r)

meant_again : (k : Texts) (s u : List ℕ) → is_name (T k) s ≡ true → folded s ≡ folded u → meaning (T k) s ≡ meaning (T k) u
unfolding meaning is_name
meant_again k s u h e =
    let i : is_in (folded u) (named k) ≡ true = rw e at h in
    rw (h, i) e

-- Lines

-- the bytes of a line, but for letter case, say whether it begins with # and whether all are permitted
module _ (l m : List ℕ) (e : folded l ≡ folded m) where
  hash_again : begins 35 l ≡ false → begins 35 m ≡ false
  hash_again h = sym (folded_begins 35 m (omega arith)) ∙ ap (begins 35) (sym e) ∙ folded_begins 35 l (omega arith) ∙ h

  clean_again : All permitted l → All permitted m
  clean_again a = all_sound permitted m (sym (folded_permitted m) ∙ ap (all_of permitted) (sym e) ∙ folded_permitted l ∙ all_complete permitted a)

module _ {c : Context} where
  field_again : {t : FieldType} {v : Value} {f g : Field} → OtherField t f g → SpellsField c t v f → SpellsField c t v g
  field_again as_it_is p = p
  field_again (a_word e) (as_word r) = as_word (listed_again e r)
  field_again (a_name {k} {q} {s} {u} h e) (as_text b) =
      let m = meant_again k s u h e in
      subst (λ (w : List ℕ). SpellsField c (T k) (text w) (field q u)) (sym m) (as_text {s = u} (rw m at b))

  fields_again : {ts : List FieldType} {vs : List Value} {fs gs : List Field} → OtherFields ts fs gs → SpellsFields c ts vs fs → SpellsFields c ts vs gs
  fields_again letters.none spells.none = spells.none
  fields_again (letters.more o r) (spells.more p q) = spells.more (field_again o p) (fields_again r q)

  module _ {ts : List FieldType} {vs : List Value} {l m : List ℕ} (e : folded l ≡ folded m) where
    line_again : {f : Front} {fields others own its : List Field} → Spelled fields l → Spelled others m → Fronted f fields own → Fronted f others its → OtherFields ts own its
        → SpellsLine c f ts vs l → SpellsLine c f ts vs m
    line_again {own = own} p q (with_keyword a) (with_keyword b) o (spells.with_keyword {fs = fs} d r s g) =
        let i : fs ≡ own = ap (drop 1) (fields_unique l _ _ s p) in
        spells.with_keyword b (fields_again o (rw i at r)) q (clean_again l m e g)
    line_again {own = own} p q (with_prop a) (with_prop b) o (spells.with_prop {fs = fs} d r s g) =
        let i : fs ≡ own = ap (drop 1) (fields_unique l _ _ s p) in
        spells.with_prop b (fields_again o (rw i at r)) q (clean_again l m e g)
    line_again {own = own} p q (as_data a) (as_data b) o (spells.as_data {fs = fs} d h r s g) =
        let i : fs ≡ own = fields_unique l _ _ s p in
        spells.as_data b (hash_again l m e h) (fields_again o (rw i at r)) q (clean_again l m e g)

  -- both spell the records
  lines_again : {w : Where} {rs : List Rec} {ls ms : List (List ℕ)} → OtherLines c w rs ls ms → SpellsLines c w rs ls × SpellsLines c w rs ms
  lines_again letters.end = (lines.end, lines.end)
  lines_again (letters.free f g o) = let p = lines_again o in (lines.free f p.0, lines.free g p.1)
  lines_again (letters.line y s k o) =
      let p = lines_again o in
      (lines.line (as_line y s) p.0, lines.line (as_line y (line_again k.letters k.spelled k.respelled k.fronted k.refronted k.each s)) p.1)

-- both files say the list
pub letters_say : {v : Rules} {rs : List Rec} {file other : List ℕ} → OtherFile v rs file other → FileSays v rs file × FileSays v rs other
letters_say o =
    let p = lines_again o.letters in (
      record { lines = o.lines; made = o.made; say = record { spelled = p.0; permitted = o.permitted; distinct = o.distinct } },
      record { lines = o.others; made = o.remade; say = record { spelled = p.1; permitted = o.permitted; distinct = o.distinct } },
    )

-- Names in records

pub fits_at_lem : (c : Context) (ts : List FieldType) (vs : List Value) (i : ℕ) (t : FieldType) → fits_all c ts vs ≡ true → nth ts i ≡ some t → fits c t (get_or vs i (word 0)) ≡ true
unfolding fits_all
fits_at_lem c [] vs i t h e = absurd (none_some e)
fits_at_lem c (x ∷ ts) [] i t h e = absurd (false≢true h)
fits_at_lem c (x ∷ ts) (v ∷ vs) zero t h e = let z : t ≡ x = cc in rw z (and_left (fits c x v) _ h)
fits_at_lem c (x ∷ ts) (v ∷ vs) (suc i) t h e = fits_at_lem c ts vs i t (and_right (fits c x v) _ h) e

-- a name in some letter case means its capitals
name_means : (k : Texts) (s w : List ℕ) → is_in w (named k) ≡ true → AnyCase w s → meaning (T k) s ≡ w
unfolding meaning is_name
name_means k s w h m = rw (case_folds m, h)

-- a text that a record holds means itself, so a name stands there in capitals
module _ (c : Context) (k : Texts) (w : List ℕ) (h : is_in w (named k) ≡ true) where
  held_capitals : (v : Value) → fits c (T k) v ≡ true → AnyCase w (bytes_of v) → bytes_of v ≡ w
  unfolding fits good_text
  held_capitals (text s) f m = sym (bytes_true (meaning (T k) s) s (and_right (all_of text_byte s) _ (and_right (not (barred c k s)) _ f))) ∙ name_means k s w h m
  held_capitals (number z) f m = absurd (false≢true f)
  held_capitals (word n) f m = absurd (false≢true f)

  pub capitals_at : (ts : List FieldType) (vs : List Value) (i : ℕ) → fits_all c ts vs ≡ true → nth ts i ≡ some (T k) → AnyCase w (bytes_of (get_or vs i (word 0))) → bytes_of (get_or vs i (word 0)) ≡ w
  capitals_at ts vs i f e m = held_capitals (get_or vs i (word 0)) (fits_at_lem c ts vs i (T k) f e) m

-- BOARD, in a board

is_named_lem : is_in board_word (named Reference) ≡ true
unfolding is_in named same_bytes
is_named_lem = refl

barred_there : (v : Rules) (s : List ℕ) → s ≡ board_word → barred (under v Board) Reference s ≡ true
unfolding barred
barred_there v s e = bytes_same s board_word e

pub board_faulty : {v : Rules} {q : Bool} {s : List ℕ} → AnyCase board_word s → FaultyField (under v Board) (T Reference) (field q s) 9
board_faulty {v} {q} {s} m = barred_board no
  where
    no : NoValue (under v Board) (T Reference) (field q s)
    no x (as_text b) = not_both (barred_there v _ (name_means Reference s board_word is_named_lem m)) b

pub board_held : (v : Rules) (x : Value) → fits (under v Board) (T Reference) x ≡ true → AnyCase board_word (bytes_of x) → ⊥
unfolding fits
board_held v (text s) f m =
    let e = held_capitals (under v Board) Reference board_word is_named_lem (text s) f m in
    not_both (barred_there v s e) (not-true _ (and_left (not (barred (under v Board) Reference s)) _ f))
board_held v (number z) f m = absurd (false≢true f)
board_held v (word n) f m = absurd (false≢true f)
