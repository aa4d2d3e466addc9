-- Laws of a library's entries and of what placements need, as the code leaves them.
use Prim.Native.Nat.{ℕ}
use mathlib.Core.Path.{◌≡◌, refl, sym, ap, ◌∙◌}
use mathlib.Core.List.{List}
use mathlib.Core.Bool.{Bool, true, false, not, ◌&&◌, true≢false, false≢true, and_assoc}
use mir.Syntax.{w64}
use mir.Val.{SFits}
use mir.ValLaws.{to_z-of_z}
use lib.IntN.{ℤ, pos}
use Rattle.law.specs.Kinds.{electrical_kind, mechanical_kind, part_kind}
use Rattle.rows_texts.specs.Names.{same_names, refers}
use Rattle.rows.specs.Columns.{kind_column}
use Rattle.basics.specs.Integers.{eq_z}
use Rattle.basics.proofs.Integers.{back}
use Rattle.law.specs.Words.{board_word, no_reference}
use Rattle.walk.specs.declared.Found.{Found}
use Rattle.walk.specs.declared.Found.TheVariants.{Row, Nothing, Refused}
use Rattle.walk.specs.declared.Turn.{Turn}
use Rattle.walk.specs.declared.steps.Turns.{Turns}
use Rattle.walk.specs.Turns.{Took, Over}
use Rattle.walk.specs.Walks.{begun, stops_by, is_row, Trace, trace_by, trace_at}
use Rattle.walk.proofs.TurnsLaws.{Left, over_trace, took_left, took_trace}
use Rattle.judge.specs.Entries.{is_of, is_entry, entry_in, has_entry, lacks_entry, lacks}

-- a row of a kind
module _ (t : Turn) (k : ℤ) (x : Bool) (e : x ≡ is_row t.found) where
  pub of_none : x ≡ false → false ≡ is_of t k
  unfolding is_of
  of_none h = rw (sym e ∙ h)

  pub of_by : (r : Bool) → x ≡ true → SFits w64 k → r ≡ eq_z (kind_column t.row) (back k) → r ≡ is_of t k
  unfolding is_of
  of_by r h g i = rw (sym e ∙ h) (i ∙ rw (to_z-of_z w64 k g))

-- the entry of a placement, line by line
module _ (board library : List ℕ) (t : Turn) (k : ℤ) (x : List ℤ) (p : Bool) (f : SFits w64 k) (e : p ≡ is_of t (back k)) where
  pub no_entry : p ≡ false → false ≡ is_entry board library t k x
  unfolding is_entry
  no_entry h = rw (sym (e ∙ ap (is_of t) (to_z-of_z w64 k f)) ∙ h)

  pub entry_here : (q : Bool) → p ≡ true → q ≡ same_names library t.row board x → q ≡ is_entry board library t k x
  unfolding is_entry
  entry_here q h i = rw (sym (e ∙ ap (is_of t) (to_z-of_z w64 k f)) ∙ h) i

module _ (board library : List ℕ) (k : ℤ) (x : List ℤ) (l : ℕ) (y : List ℤ) (t : Trace) where
  entry_on : (f : Found) → stops_by f ≡ false → (is_row f && (eq_z (kind_column y) k && same_names library y board x)) ≡ false
      → entry_in board library k x (trace_by f l y t) ≡ entry_in board library k x t
  unfolding entry_in
  entry_on Row h g = rw g
  entry_on Nothing h g = refl
  entry_on (Refused m) h g = absurd (true≢false h)

  entry_found : (f : Found) → (is_row f && (eq_z (kind_column y) k && same_names library y board x)) ≡ true → entry_in board library k x (trace_by f l y t) ≡ true
  unfolding entry_in
  entry_found Row g = rw g
  entry_found Nothing g = absurd (false≢true g)
  entry_found (Refused m) g = absurd (false≢true g)

  entry_none : (f : Found) → stops_by f ≡ true → entry_in board library k x (trace_by f l y t) ≡ false
  unfolding entry_in
  entry_none Row h = absurd (false≢true h)
  entry_none Nothing h = absurd (false≢true h)
  entry_none (Refused m) h = refl

-- what is left of a library tells whether it has the entry
pub record Seeking (board library : List ℕ) (k : ℤ) (x : List ℤ) (v : Turns) : Type 0 where
  pub of : Left library v
  pub left : entry_in board library k x (trace_at library v.walk) ≡ has_entry board library k x

pub seek_start : (board library : List ℕ) (k : ℤ) (x : List ℤ) (v : Turns) → v.file.now ≡ library → v.walk ≡ begun → Seeking board library k x v
unfolding has_entry
seek_start board library k x v f e = record { of = record { of = f }; left = rw e }

module _ (board library : List ℕ) (k : ℤ) (x : List ℤ) (v : Turns) (s : Seeking board library k x v) where
  module _ (t : Turn) (u : Turns) (o : Took v t u) where
    sought : entry_in board library k x (trace_by t.found t.line t.row (trace_at library u.walk)) ≡ has_entry board library k x
    sought = sym (ap (entry_in board library k x) (took_trace library v s.of t u o)) ∙ s.left

    stop_none : stops_by t.found ≡ true → false ≡ has_entry board library k x
    stop_none j = sym (entry_none board library k x t.line t.row (trace_at library u.walk) t.found j) ∙ sought

    module _ (z : Bool) (d : z ≡ is_entry board library t k x) where
      here : z ≡ (is_row t.found && (eq_z (kind_column t.row) k && same_names library t.row board x))
      unfolding is_entry is_of
      here = d ∙ and_assoc (is_row t.found) (eq_z (kind_column t.row) k) (same_names library t.row board x)

      here_found : z ≡ true → true ≡ has_entry board library k x
      here_found j = sym (entry_found board library k x t.line t.row (trace_at library u.walk) t.found (sym here ∙ j)) ∙ sought

      pub seek_more : (y : Bool) → y ≡ stops_by t.found → y ≡ false → z ≡ false → Seeking board library k x u
      seek_more y i j q = record {
        of = took_left library v s.of t u o;
        left = sym (entry_on board library k x t.line t.row (trace_at library u.walk) t.found (sym i ∙ j) (sym here ∙ q)) ∙ sought;
      }

  over_none : (u : Turns) → Over v u → false ≡ has_entry board library k x
  unfolding entry_in
  over_none u o = sym (ap (entry_in board library k x) (over_trace library v s.of u o)) ∙ s.left

-- the loop holds the kind as a word
module _ (board library : List ℕ) (k : ℤ) (f : SFits w64 k) (x : List ℤ) (v : Turns) (s : Seeking board library (back k) x v) where
  kind_back : has_entry board library (back k) x ≡ has_entry board library k x
  kind_back = ap (λ (z : ℤ). has_entry board library z x) (to_z-of_z w64 k f)

  module _ (t : Turn) (u : Turns) (o : Took v t u) where
    pub seek_stop : (y : Bool) → y ≡ stops_by t.found → y ≡ true → false ≡ has_entry board library k x
    seek_stop y i j = stop_none board library (back k) x v s t u o (sym i ∙ j) ∙ kind_back

    pub seek_found : (z : Bool) → z ≡ is_entry board library t (back k) x → z ≡ true → true ≡ has_entry board library k x
    seek_found z d j = here_found board library (back k) x v s t u o z d j ∙ kind_back

  pub seek_over : (u : Turns) → Over v u → false ≡ has_entry board library k x
  seek_over u o = over_none board library (back k) x v s u o ∙ kind_back

-- what a placement needs
module _ (board library : List ℕ) (x : List ℤ) (p : Bool) (e : p ≡ refers board x board_word) where
  pub needs_none : p ≡ true → false ≡ lacks_entry board library x
  unfolding lacks_entry
  needs_none h = rw (sym e ∙ h)

  module _ (h : p ≡ false) (q : Bool) (i : q ≡ refers board x no_reference) (r : Bool) where
    pub needs_mechanical : q ≡ true → r ≡ has_entry board library (pos mechanical_kind) x → not r ≡ lacks_entry board library x
    unfolding lacks_entry
    needs_mechanical j k = rw (sym e ∙ h, sym i ∙ j, k)

    pub needs_electrical : q ≡ false → r ≡ has_entry board library (pos electrical_kind) x → not r ≡ lacks_entry board library x
    unfolding lacks_entry
    needs_electrical j k = rw (sym e ∙ h, sym i ∙ j, k)

module _ (board library : List ℕ) (t : Turn) (p : Bool) (e : p ≡ is_of t (pos part_kind)) where
  pub lacks_not : p ≡ false → false ≡ lacks board library t
  unfolding lacks
  lacks_not h = rw (sym e ∙ h)

  pub lacks_by : (r : Bool) → p ≡ true → r ≡ lacks_entry board library t.row → r ≡ lacks board library t
  unfolding lacks
  lacks_by r h i = rw (sym e ∙ h) i
