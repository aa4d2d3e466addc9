-- A row by its line means the values of its record: that rows mean the list of their file follows from the places.
use Prim.Native.Nat.{ℕ, ◌+◌, ◌≤◌}
use mathlib.Core.Path.{◌≡◌, refl, sym, ap, subst, ◌∙◌}
use mathlib.Core.List.{List, [], ◌∷◌, ◌++◌, map, append_assoc}
use mathlib.Core.Bool.{false}
use native.Mathlib.Omega.{arith}
use lib.IntN.{ℤ, pos}
use lib.ListN.{length, take, drop, replicate, length-append, length-replicate}
use lib.Seq.{take_all, take-append_seam}
use Rattle.law.specs.Fields.{Field, field, Spells, Spelled, bare, quoted}
use Rattle.law.specs.Lines.{File, place_behind}
use Rattle.text.specs.Lines.{line_end}
use Rattle.text_fields.proofs.FieldSpelling.{fields_unique}
use Rattle.law.specs.Values.{Value, text, Rec}
use Rattle.law.specs.Layouts.{Front, types_of}
use Rattle.law.specs.Fits.{under, meaning}
use Rattle.law.specs.declared.Rules.TheVariants.{Idf3}
use Rattle.law.specs.declared.Context.{Context}
use Rattle.law.specs.declared.FileType.{FileType}
use Rattle.law.specs.declared.FieldType.{FieldType}
use Rattle.law.specs.declared.FieldType.TheVariants.{Text as T}
use Rattle.law.specs.Rows as column
use Rattle.law.specs.Rows.{Means, a_number, a_word, a_date, a_text, Holds, RowsMean}
use Rattle.line_rows.specs.Meaning.{Part}
use Rattle.line_rows.proofs.MeaningLaws.{part_bytes, part_cut, part_within}
use Rattle.law.specs.RecordSpelling.{SpellsField, SpellsFields, SpellsLine, SpellsRecord, as_text, as_date, as_integer, as_number, as_word, none as no_fields, more, with_keyword, with_prop, as_data, as_line}
use Rattle.shown_told.proofs.Fronts.{types_laid}
use Rattle.law.specs.FieldPlaces.{Spot, spot_of, SpelledAt, end, space, last, next, bytes_of}
use Rattle.law.specs.RowPlaces as rows
use Rattle.law.specs.RowPlaces.{columns_of, columns_of_all, RowOf, RowsAt, RowsOf}
use Rattle.shown_places.proofs.Spots.{field_in, map_many, erased}
use Rattle.shown_places.proofs.LineRows.{fields_many}
use Rattle.shown_places.proofs.OneRow.{ends_one}
use Rattle.shown_places.proofs.ReaderPlaces.{first_is, some_left}
use Rattle.shown_places.proofs.LinePlaces.{behind}

-- One row

-- a field's bytes stand at its place
record Stands (file : List ℕ) (p : Spot) : Type 0 where
  within : p.at + length (bytes_of p.what) ≤ length file
  bytes : take (length (bytes_of p.what)) (drop p.at file) ≡ bytes_of p.what

data All (file : List ℕ) : List Spot → Type 0 where
  none : All file []
  one : {p : Spot} {ps : List Spot} → Stands file p → All file ps → All file (p ∷ ps)

part_front : {file : List ℕ} {b : ℕ} (s t : List ℕ) → Part file b (s ++ t) → Part file b s
part_front s t p = record { front = p.front; rest = t ++ p.rest; is = p.is ∙ ap (λ (u : List ℕ). p.front ++ u) (append_assoc s t p.rest); at = p.at }

part_behind : {file : List ℕ} {b : ℕ} (s t : List ℕ) → Part file b (s ++ t) → Part file (b + length s) t
part_behind s t p = record {
  front = p.front ++ s;
  rest = p.rest;
  is = p.is ∙ ap (λ (u : List ℕ). p.front ++ u) (append_assoc s t p.rest) ∙ sym (append_assoc p.front s (t ++ p.rest));
  at = omega (arith, length-append p.front s, p.at);
}

spells_stands : {file : List ℕ} (b : ℕ) {f : Field} {s : List ℕ} → Spells f s → Part file b s → Stands file (spot_of b f)
spells_stands {file} b (bare {b = c} {s = s} a) p =
    let z : b + 0 ≡ b = omega arith in
    let e = part_bytes p 0 (length (c ∷ s)) (omega arith) in
    let w = part_within p 0 (length (c ∷ s)) (omega arith) in
    record { within = omega (arith, w); bytes = (rw z at e) ∙ take_all (length (c ∷ s)) (c ∷ s) (omega arith) }
spells_stands {file} b (quoted {s = s} a) p =
    let n = length-append s (34 ∷ []) in
    record { within = part_within p 1 (length s) (omega (arith, n)); bytes = part_bytes p 1 (length s) (omega (arith, n)) ∙ take-append_seam s (34 ∷ []) }

all_stand : {file : List ℕ} {b : ℕ} {ps : List Spot} {s : List ℕ} → SpelledAt b ps s → Part file b s → All file ps
all_stand end p = none
all_stand (space {s = s} r) p = all_stand r (part_behind (32 ∷ []) s p)
all_stand (last {b = b} q) p = one (spells_stands b q p) none
all_stand (next {b = b} {s = s} {t = t} q r) p = one (spells_stands b q (part_front s (32 ∷ t) p)) (all_stand r (part_behind s (32 ∷ t) p))

all_behind : {file : List ℕ} (ps qs : List Spot) → All file (ps ++ qs) → All file qs
all_behind [] qs a = a
all_behind (p ∷ ps) qs (one h a) = all_behind ps qs a

module _ {c : Context} {file : List ℕ} where
  field_means : {t : FieldType} {v : Value} {f : Field} {ts : List FieldType} {cs : List ℤ} {vs : List Value} (p : Spot) → SpellsField c t v f → p.what ≡ f → Stands file p
      → Means file ts cs vs → Means file (t ∷ ts) (columns_of v p ++ cs) (v ∷ vs)
  field_means {ts = ts} {cs = cs} {vs = vs} p (as_text {k = k} i) e h m =
      subst (λ (u : List ℕ). Means file (T k ∷ ts) (pos p.at ∷ pos (length (bytes_of p.what)) ∷ cs) (text (meaning (T k) u) ∷ vs)) (h.bytes ∙ ap bytes_of e) (a_text h.within m)
  field_means {t = t} {ts = ts} {cs = cs} {vs = vs} p (as_date i) e h m =
      subst (λ (u : List ℕ). Means file (t ∷ ts) (pos p.at ∷ pos (length (bytes_of p.what)) ∷ cs) (text u ∷ vs)) (h.bytes ∙ ap bytes_of e) (a_date h.within m)
  field_means p (as_integer i) e h m = a_number refl m
  field_means p (as_number i j) e h m = a_number refl m
  field_means p (as_word i) e h m = a_word m

  fields_mean : {ts : List FieldType} {vs : List Value} {fs : List Field} (ps : List Spot) → SpellsFields c ts vs fs → map field_in ps ≡ fs → All file ps → Means file ts (columns_of_all vs ps) vs
  unfolding columns_of_all
  fields_mean [] no_fields e none = column.none
  fields_mean (p ∷ ps) no_fields e a = absurd (omega (arith, ap length e))
  fields_mean [] (more x xs) e a = absurd (omega (arith, ap length e))
  fields_mean (p ∷ ps) (more x xs) e (one h a) = field_means p x (cc) h (fields_mean ps xs (cc) a)

-- the fields of a record's line, behind what stands before them
record Fields (c : Context) (ts : List FieldType) (vs : List Value) (l : List ℕ) : Type 0 where
  fore : List Field
  own : List Field
  spelled : Spelled (fore ++ own) l
  values : SpellsFields c ts vs own

line_fields : {c : Context} {f : Front} {ts : List FieldType} {vs : List Value} {l : List ℕ} → SpellsLine c f ts vs l → Fields c ts vs l
line_fields (with_keyword {w = w} {fs = fs} m r p a) = record { fore = field false (46 ∷ w) ∷ []; own = fs; spelled = p; values = r }
line_fields (with_prop {p = w} {fs = fs} h r p a) = record { fore = field false w ∷ []; own = fs; spelled = p; values = r }
line_fields (as_data {fs = fs} d h r p a) = record { fore = []; own = fs; spelled = p; values = r }

map_both : (ps qs : List Spot) → map field_in (ps ++ qs) ≡ map field_in ps ++ map field_in qs
map_both [] qs = refl
map_both (p ∷ ps) qs = ap (λ (u : List Field). p.what ∷ u) (map_both ps qs)

-- the row of a record by a line that stands in the file and spells the record holds its values
row_holds : {c : Context} {file : List ℕ} {b : ℕ} {l : List ℕ} {r : Rec} {x : List ℤ} → SpellsRecord c r l → Part file b l → RowOf b l r x → Holds file r.kind (types_of c.rules r.kind) x r.values
row_holds {c} {file} {b} {l} {r} {x} (as_line {l = y} k s) p q =
    let f = line_fields s in
    let n : length (map field_in q.own) ≡ length f.own = omega (arith, map_many q.own, q.each, fields_many f.values) in
    let e = fields_unique l _ _ (erased q.spelled) f.spelled in
    let o : map field_in q.own ≡ f.own = ends_one (map field_in q.front) (map field_in q.own) f.fore f.own n (sym (map_both q.front q.own) ∙ e) in
    let m : Means file y.types (columns_of_all r.values q.own) r.values = fields_mean q.own f.values o (all_behind q.front q.own (all_stand q.spelled p)) in
    record {
      columns = columns_of_all r.values q.own;
      left = q.left;
      is = q.is;
      ten = omega (arith, q.ten, ap length q.is, length-append (columns_of_all r.values q.own) (replicate q.left (pos 0)), length-replicate q.left (pos 0));
      means = rw (types_laid c.rules r.kind y k) m;
    }

-- The rows of lines that stand in the file from b on

line_part : (file : List ℕ) (b : ℕ) {l : List ℕ} {more : List (List ℕ)} → File (l ∷ more) (drop b file) → Part file b l
line_part file b m = subst (Part file b) (first_is m) (part_cut file b (line_end (drop b file)).content (omega (arith, some_left file b m)))

rows_hold : {t : FileType} (file : List ℕ) (b : ℕ) {n : ℕ} {ls : List (List ℕ)} {rs : List Rec} {xs : List ℤ} → File ls (drop b file) → RowsAt (under Idf3 t) file b n ls rs xs → RowsMean file rs xs
rows_hold file b m rows.end = column.none
rows_hold file b m (rows.free {l = l} f q) = rows_hold file (place_behind file b l) (behind file b refl m).rest q
rows_hold file b m (rows.line {n = n} {l = l} h x q) = column.row (pos n) (row_holds h (line_part file b m) x) (rows_hold file (place_behind file b l) (behind file b refl m).rest q)

-- of all lines of a file
pub rows_meant : {t : FileType} {file : List ℕ} {ls : List (List ℕ)} {rs : List Rec} {xs : List ℤ} → File ls file → RowsOf (under Idf3 t) file ls rs xs → RowsMean file rs xs
rows_meant {file = file} m p = rows_hold file 0 m p
