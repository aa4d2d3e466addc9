-- Rows name a component twice exactly if the records do whose values they hold.
use Prim.Native.Nat.{ℕ}
use mathlib.Core.Path.{◌≡◌, refl, sym, ap, ◌∙◌}
use mathlib.Core.Logic.{◌↔◌}
use mathlib.Core.List.{List, [], ◌∷◌}
use mathlib.Core.Bool.{Bool, true, false, cond, ◌&&◌, ◌||◌}
use lib.IntN.{ℤ}
use Rattle.rows_texts.specs.Names.{same_names}
use Rattle.basics.proofs.Bools.{neither}
use Rattle.law.specs.Values.{Rec}
use Rattle.law.specs.Layouts.{types_of}
use Rattle.law.specs.declared.Rules.{Rules}
use Rattle.law.specs.Rows.{Holds}
use Rattle.law.specs.Records.{Named, names_a_component, name_in}
use Rattle.order.specs.Automaton.{same_name, is_among}
use Rattle.law.specs.Lists.{names_of, AllDiffer, nothing_named, and_new, Distinct}
use Rattle.shown_lists.proofs.Names.{not_among, among_false}
use Rattle.rows_texts.specs.Texts.{same_texts}
use Rattle.write.specs.Writable.{names_it, named_in, twice}
use Rattle.shown_read.proofs.RowColumns.{name_at, name_in_lem, names_is}
use Rattle.shown_write.specs.Texts.{ListMeans, none, more}

-- a name comes again behind itself
abbrev again : List Named → Bool
again [] = false
again (a ∷ bs) = is_among a bs || again bs

again_differ : (ns : List Named) → again ns ≡ false → AllDiffer ns
again_differ [] h = nothing_named
again_differ (a ∷ bs) h = let w = neither (is_among a bs) (again bs) h in and_new (not_among a bs w.0) (again_differ bs w.1)

differ_again : {ns : List Named} → AllDiffer ns → again ns ≡ false
differ_again nothing_named = refl
differ_again (and_new n d) = rw (among_false n, differ_again d)

module _ (v : Rules) (bytes : List ℕ) where
  -- x holds a record that names a component
  module _ (x : List ℤ) (r : Rec) (h : Holds bytes r.kind (types_of v r.kind) x r.values) (e : names_a_component v r.kind ≡ true) where
    same_is : (y : List ℤ) (q : Rec) → Holds bytes q.kind (types_of v q.kind) y q.values → names_a_component v q.kind ≡ true
        → same_names bytes x bytes y ≡ same_name (name_in r) (name_in q)
    unfolding same_names same_texts
    same_is y q g f =
        ap (λ (a : Named). same_name a (name_at bytes y)) (name_in_lem bytes v r.kind x r.values h e)
        ∙ ap (λ (b : Named). same_name (name_in r) b) (name_in_lem bytes v q.kind y q.values g f)

    named_is : {qs : List Rec} {ys : List (List ℤ)} → ListMeans v bytes qs ys → named_in bytes x ys ≡ is_among (name_in r) (names_of v qs)
    unfolding named_in names_it
    named_is none = refl
    named_is (more {r = q} {rs = qs} {x = y} g m) = rw (names_is bytes v q.kind y q.values g, named_is m) (go (names_a_component v q.kind) refl)
      where
        go : (b : Bool) → names_a_component v q.kind ≡ b
            → (b && same_names bytes x bytes y || is_among (name_in r) (names_of v qs)) ≡ is_among (name_in r) (cond b (name_in q ∷ names_of v qs) (names_of v qs))
        go true f = ap (λ (c : Bool). c || is_among (name_in r) (names_of v qs)) (same_is y q g f)
        go false f = refl

  twice_is : {rs : List Rec} {xs : List (List ℤ)} → ListMeans v bytes rs xs → twice bytes xs ≡ again (names_of v rs)
  unfolding twice
  twice_is none = refl
  twice_is (more {r = r} {rs = rs} {x = x} {xs = xs} h m) = rw (names_is bytes v r.kind x r.values h, twice_is m) (go (names_a_component v r.kind) refl)
    where
      go : (b : Bool) → names_a_component v r.kind ≡ b → (b && named_in bytes x xs || again (names_of v rs)) ≡ again (cond b (name_in r ∷ names_of v rs) (names_of v rs))
      go true e = ap (λ (c : Bool). c || again (names_of v rs)) (named_is x r h e m)
      go false e = refl

  pub once_iff : {rs : List Rec} {xs : List (List ℤ)} → ListMeans v bytes rs xs → (twice bytes xs ≡ false) ↔ Distinct v rs
  once_iff {rs} m = (λ t. again_differ (names_of v rs) (sym (twice_is m) ∙ t), λ d. twice_is m ∙ differ_again d)
