-- What judging finds in the rows of two files is what the records say: the entries, the placements.
use Prim.Native.Nat.{ℕ, ◌+◌}
use mathlib.Core.Path.{◌≡◌, refl, ap}
use mathlib.Core.List.{List, [], ◌∷◌, ◌++◌}
use mathlib.Core.Bool.{Bool, true, false, cond, ◌&&◌, ◌||◌, false≢true}
use borrow.Author.Tests.{eqb-true}
use lib.Dec.{eqb}
use lib.IntN.{ℤ, pos}
use lib.ListN.{replicate}
use Rattle.rows_texts.specs.Names.{same_names, refers, reference_in}
use Rattle.rows.specs.Columns.{kind_column}
use Rattle.basics.specs.Integers.{eq_z}
use Rattle.law.specs.Values.{Value, Rec}
use Rattle.law.specs.Sections.{sections}
use Rattle.law.specs.Kinds.{section_of, line_of, part_kind}
use Rattle.law.specs.Layouts.{layout_of, types_of}
use Rattle.law.specs.Fits.{meaning}
use Rattle.law.specs.declared.Rules.TheVariants.{Idf3}
use Rattle.law.specs.declared.Texts.TheVariants.{Plain, Reference}
use Rattle.law.specs.declared.FieldType.{FieldType}
use Rattle.basics.proofs.Meanings.{plain_meaning}
use Rattle.law.specs.declared.FieldType.TheVariants.{Text as T}
use Rattle.law.specs.Rows.{Means, none, a_number, a_text, Holds}
use Rattle.law.specs.Records.{Named, names_a_component, name_in}
use Rattle.order.specs.Automaton.{same_name}
use Rattle.walk.specs.Walks.{Trace, trace_of}
use Rattle.rows_texts.specs.Texts.{text_is, same_texts}
use Rattle.shown_read.proofs.RowColumns.{name_at, name_in_lem}
use Rattle.judge.specs.Entries.{entry_in, has_entry, lacks_entry}
use Rattle.law.specs.Answers.{verdict}
use Rattle.judge.specs.Verdicts.{placed_from}
use Rattle.law.specs.Judging.{Placement, placement_in, placements_of}
use Rattle.shown_judge.specs.JudgeLists.{has_entry_of, lacks_in, placed_behind}
use Rattle.shown_judge.proofs.TracedRows.{Holding, done, skip, row}

-- a row begins with the kind of its record
kind_is : (file : List ℕ) (k : ℕ) (ts : List FieldType) (x : List ℤ) (vs : List Value) → Holds file k ts x vs → (n : ℕ) → eq_z (kind_column x) (pos n) ≡ eqb k n
unfolding eq_z
kind_is file k ts x vs h n = rw h.is

-- Entries: a row of kind k with the names of a placement

module _ (board library : List ℕ) (x : List ℤ) (k : ℕ) (c : names_a_component Idf3 k ≡ true) where
  entry_said : {qs : List Rec} {t : Trace} → Holding library qs t → entry_in board library (pos k) x t ≡ has_entry_of k (name_at board x) qs
  unfolding entry_in same_names same_texts text_is
  entry_said done = refl
  entry_said (skip h) = entry_said h
  entry_said (row {r = q} {x = y} {rs = qs} {t = t} h m) = rw (kind_is library q.kind _ y q.values h k, entry_said m) (go (eqb q.kind k) refl)
    where
      go : (b : Bool) → eqb q.kind k ≡ b
          → (b && same_name (name_at library y) (name_at board x) || has_entry_of k (name_at board x) qs) ≡ (b && same_name (name_in q) (name_at board x) || has_entry_of k (name_at board x) qs)
      go true e =
          let n : names_a_component Idf3 q.kind ≡ true = rw (eqb-true q.kind k e) c in
          ap (λ (a : Named). same_name a (name_at board x) || has_entry_of k (name_at board x) qs) (name_in_lem library Idf3 q.kind y q.values h n)
      go false e = refl

-- Placements: three texts

abbrev placement_at : List ℕ → List ℤ → Placement
placement_at file x = record { name = name_at file x; reference = meaning (T Reference) (reference_in file x) }

part_types : types_of Idf3 part_kind ≡ T Plain ∷ T Plain ∷ T Reference ∷ []
unfolding types_of layout_of section_of line_of sections
part_types = refl

placement_columns : {file : List ℕ} (zs : List ℤ) {cs : List ℤ} {vs : List Value} → Means file (T Plain ∷ T Plain ∷ T Reference ∷ []) cs vs
    → placement_at file (pos part_kind ∷ (cs ++ zs)) ≡ placement_in (record { kind = part_kind; values = vs })
placement_columns zs (a_number h m) = absurd (false≢true h)
placement_columns zs (a_text p (a_number i m)) = absurd (false≢true i)
placement_columns zs (a_text p (a_text q (a_number j m))) = absurd (false≢true j)
placement_columns zs (a_text p (a_text q (a_text r none))) = rw (plain_meaning _, plain_meaning _)

placement_held : (file : List ℕ) (k : ℕ) (x : List ℤ) (vs : List Value) → k ≡ part_kind → Holds file k (types_of Idf3 k) x vs → placement_at file x ≡ placement_in (record { kind = k; values = vs })
placement_held file k x vs e h =
    let m : Means file (types_of Idf3 part_kind) h.columns vs = rw e at h.means in
    rw (h.is, e) (placement_columns (replicate h.left (pos 0)) (rw part_types at m))

module _ (board library : List ℕ) (qs : List Rec) (u : Holding library qs (trace_of library)) where
  lacks_said : (x : List ℤ) → lacks_entry board library x ≡ lacks_in qs (placement_at board x)
  unfolding lacks_entry refers text_is has_entry names_a_component
  lacks_said x = rw (entry_said board library x 151 refl u, entry_said board library x 141 refl u)

  pub placed_said : {rs : List Rec} {t : Trace} → Holding board rs t → (n : ℕ) → placed_from board library n t ≡ placed_behind qs n (placements_of rs)
  unfolding placed_from
  placed_said done n = refl
  placed_said (skip h) n = placed_said h n
  placed_said (row {r = r} {x = x} {rs = rs} {t = t} h m) n =
      rw (kind_is board r.kind _ x r.values h part_kind, lacks_said x, placed_said m n, placed_said m (n + 1)) (go (eqb r.kind part_kind) refl)
    where
      go : (b : Bool) → eqb r.kind part_kind ≡ b
          → cond b (cond (lacks_in qs (placement_at board x)) (verdict 16 0 (n + 1) 1) (placed_behind qs (n + 1) (placements_of rs))) (placed_behind qs n (placements_of rs))
          ≡ placed_behind qs n (cond b (placement_in r ∷ placements_of rs) (placements_of rs))
      go true e =
          ap (λ (p : Placement). cond (lacks_in qs p) (verdict 16 0 (n + 1) 1) (placed_behind qs (n + 1) (placements_of rs)))
          (placement_held board r.kind x r.values (eqb-true r.kind part_kind e) h)
      go false e = refl
