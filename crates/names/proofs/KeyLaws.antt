-- Laws of the hash of a name, and of the marks that a line leaves.
use Prim.Native.Nat.{ℕ, ◌<◌}
use mathlib.Core.Path.{◌≡◌, refl, sym, ap, ◌∙◌}
use mathlib.Core.List.{List}
use mathlib.Core.Bool.{Bool, true, false, not, ◌&&◌, true≢false, false≢true}
use borrow.Author.Tests.{not-true, not-false}
use lib.ListN.{length}
use Rattle.rows_texts.specs.Names.{key_of}
use Rattle.names_slots.specs.Marks.{may_hold, marked}
use Rattle.names_slots.proofs.MarkLaws.{marking_length, marking_keeps, marking_here}
use Rattle.walk.specs.declared.Turn.{Turn}
use Rattle.names.specs.Names.{is_named, is_used}
use Rattle.names.specs.Marks.{held_if, marked_if, repeats_among, Telling}

-- a name, where there is one, as the code marks it
module _ (b : Bool) (xs : List ℕ) (g : ℕ) where
  module _ (h : not b ≡ true) where
    pub none_held : false ≡ held_if b xs g
    unfolding held_if
    none_held = rw (not-true b h)

    pub none_marked : xs ≡ marked_if b xs g
    unfolding marked_if
    none_marked = rw (not-true b h)

    pub none_again : (ys : List ℕ) → false ≡ held_if (held_if b xs g) ys g
    unfolding held_if
    none_again ys = rw (not-true b h)

    pub none_doubted : (ys : List ℕ) → ys ≡ marked_if (held_if b xs g) ys g
    unfolding held_if marked_if
    none_doubted ys = rw (not-true b h)

  module _ (h : not b ≡ false) (k : ℕ) (e : k ≡ g) where
    pub some_marked : (ys : List ℕ) → ys ≡ marked xs k → ys ≡ marked_if b xs g
    unfolding marked_if
    some_marked ys j = rw (not-false b h, ← e) j

    module _ (m : Bool) (i : m ≡ may_hold xs k) where
      held : held_if b xs g ≡ m
      unfolding held_if
      held = rw (not-false b h, ← e) (sym i)

      pub some_held : m ≡ true → true ≡ held_if b xs g
      some_held l = sym (held ∙ l)

      pub some_clear : m ≡ false → false ≡ held_if b xs g
      some_clear l = sym (held ∙ l)

      module _ (ys : List ℕ) where
        pub some_doubted : m ≡ true → (zs : List ℕ) → zs ≡ marked ys k → zs ≡ marked_if (held_if b xs g) ys g
        unfolding marked_if
        some_doubted l zs j = rw (held ∙ l, ← e) j

        pub some_undoubted : m ≡ false → ys ≡ marked_if (held_if b xs g) ys g
        unfolding marked_if
        some_undoubted l = rw (held ∙ l)

        pub some_again : m ≡ true → (r : Bool) → r ≡ may_hold ys k → r ≡ held_if (held_if b xs g) ys g
        unfolding held_if
        some_again l r j = j ∙ ap (may_hold ys) e ∙ sym (ap (λ (c : Bool). c && may_hold ys g) (held ∙ l))

        pub some_not_again : m ≡ false → false ≡ held_if (held_if b xs g) ys g
        unfolding held_if
        some_not_again l = sym (ap (λ (c : Bool). c && may_hold ys g) (held ∙ l))

both_true : (b m s u : Bool) → ((b && m) && s) ≡ true → u ≡ (b && (m && u))
both_true true true s u k = refl
both_true true false s u k = absurd (false≢true k)
both_true false m s u k = absurd (false≢true k)

none_true : (b m s u : Bool) → ((b && m) && s) ≡ false → (m ≡ true → s ≡ false → u ≡ false) → false ≡ (b && (m && u))
none_true false m s u k f = refl
none_true true false s u k f = refl
none_true true true false u k f = sym (f refl refl)
none_true true true true u k f = absurd (true≢false k)

-- a doubtful name without a mark was not used; one with a mark is looked for
module _ (ds marks : List ℕ) (g : ℕ) (b a : Bool) (i : a ≡ held_if (held_if b ds g) marks g) (u : Bool) where
  pub asked_used : a ≡ true → u ≡ (b && (may_hold ds g && u))
  unfolding held_if
  asked_used k = both_true b (may_hold ds g) (may_hold marks g) u (sym i ∙ k)

  pub asked_not : a ≡ false → (may_hold ds g ≡ true → may_hold marks g ≡ false → u ≡ false) → false ≡ (b && (may_hold ds g && u))
  unfolding held_if
  asked_not k f = none_true b (may_hold ds g) (may_hold marks g) u (sym i ∙ k) f

-- one line, as the code decides on it
module _ (file : List ℕ) (n : ℕ) (t : Turn) (ds marks : List ℕ) (b : Bool) (e : b ≡ is_named t)
    (a : Bool) (i : a ≡ held_if (held_if b ds (key_of file t.row)) marks (key_of file t.row)) where
  pub again_used : (u : Bool) → a ≡ true → u ≡ is_used file n t.row → u ≡ repeats_among file ds n t
  unfolding repeats_among
  again_used u k j = j ∙ asked_used ds marks (key_of file t.row) (is_named t) a (rw e at i) (is_used file n t.row) k

  pub again_not : a ≡ false → Telling file n ds marks → false ≡ repeats_among file ds n t
  unfolding repeats_among
  again_not k l = asked_not ds marks (key_of file t.row) (is_named t) a (rw e at i) (is_used file n t.row) k (l.clear t.row)

pub again_marked : (file : List ℕ) (t : Turn) (ds marks : List ℕ) (b : Bool) (ys : List ℕ) → b ≡ is_named t → ys ≡ marked_if (held_if b ds (key_of file t.row)) marks (key_of file t.row)
    → ys ≡ marked_if (held_if (is_named t) ds (key_of file t.row)) marks (key_of file t.row)
again_marked file t ds marks b ys e j = rw e at j

module _ (file : List ℕ) (n : ℕ) (ds marks : List ℕ) (a : Telling file n ds marks) where
  pub telling_few : 0 < length ds
  telling_few = a.few

  pub telling_room : 0 < length marks
  telling_room = a.room

-- marks with one more, where a test passes
pub marked_if_length : (b : Bool) (xs ys : List ℕ) (h : ℕ) → ys ≡ marked_if b xs h → length ys ≡ length xs
unfolding marked_if
marked_if_length b xs ys h e = ap length e ∙ marking_length xs h b

and-true : (a : Bool) → (a && true) ≡ false → a ≡ false
and-true true k = k
and-true false k = refl

not_both : (a v b : Bool) → (a ≡ true → v ≡ true → b ≡ true) → (b && v) ≡ false → (a && v) ≡ false
not_both false v b f k = refl
not_both true false b f k = refl
not_both true true b f k = absurd (true≢false (rw (f refl refl) at k))

module _ (b : Bool) (xs ys : List ℕ) (h : ℕ) (some : 0 < length xs) (e : ys ≡ marked_if b xs h) where
  -- what has no mark then had none before
  pub marked_keeps : (q : ℕ) → may_hold ys q ≡ false → may_hold xs q ≡ false
  unfolding marked_if
  marked_keeps q c = marking_keeps xs h some b q (rw e at c)

  -- what was marked has one
  pub marked_here : may_hold ys h ≡ false → b ≡ false
  unfolding marked_if
  marked_here c = and-true b (marking_here xs h some b true h (λ j. refl) (rw e at c))

  -- what has none is not what was marked
  pub marked_not : (a v : Bool) (g : ℕ) → (v ≡ true → h ≡ g) → (a ≡ true → v ≡ true → b ≡ true) → may_hold ys g ≡ false → (a && v) ≡ false
  unfolding marked_if
  marked_not a v g k f c = not_both a v b f (marking_here xs h some b v g k (rw e at c))

-- a name that is not doubtful was not used
pub not_used : (a m u : Bool) → (a && m) ≡ false → (m ≡ false → u ≡ false) → (a && u) ≡ false
not_used false m u k f = refl
not_used true m u k f = f k

-- among doubtful names that hold all that are used, a name is used as it is among all
pub among_all : (a m u : Bool) → (m ≡ false → (a && u) ≡ false) → (a && (m && u)) ≡ (a && u)
among_all false m u k = refl
among_all true true u k = refl
among_all true false u k = sym (k refl)
