-- The kind that a line is read as is the one that it has by the rules.
use Prim.Native.Nat.{ℕ}
use mathlib.Core.Path.{◌≡◌, refl, sym, ap, ◌∙◌, subst}
use mathlib.Core.Logic.{◌⊎◌, inl, inr}
use mathlib.Core.List.{List, [], ◌∷◌}
use Rattle.std.specs.Prelude.{Some as some}
use mathlib.Core.Bool.{Bool, true, false, false≢true}
use native.Mathlib.Omega.{arith}
use borrow.Author.Tests.{eqb-true, eq-eqb}
use lib.Dec.{eqb}
use Rattle.law.specs.declared.refusals.Refusal.TheVariants.{Misplaced}
use Rattle.law.specs.Fields.{Field, field}
use Rattle.law.specs.Values.{Rec}
use Rattle.form.specs.Values.{good}
use Rattle.law.specs.Sections.{Shape, header, outline, component, keepout, listing, placements}
use Rattle.law.specs.Words.{prop_word, same_bytes, folded}
use Rattle.law.specs.declared.Role.TheVariants as role
use Rattle.law.specs.Kinds.{kind_at, section_of, role_in, role_of}
use Rattle.law.specs.declared.Role.{Role}
use Rattle.law.specs.declared.Role.TheVariants.{Unknown as unknown}
use Rattle.law.specs.Layouts.{Front, open_word, close_word}
use Rattle.form.specs.Reading.{Line, free, bad, key_line, data_line, by_first, after_prop, after, keyword_of}
use Rattle.law.specs.declared.Rules.{Rules}
use Rattle.basics.proofs.Bytes.{bytes_true}
use Rattle.line_rows.specs.LineKinds.{is_prop}
use Rattle.order_loops.specs.declared.LoopState.{LoopState}
use Rattle.law.specs.Records.{shape_of}
use Rattle.order.specs.Places.{point_line, has_props, line_at, kind_by, data_kind, key_kind}
use Rattle.order.specs.Automaton.{start, is_role, may_stand}
use Rattle.order.specs.declared.Stage.{Stage}
use Rattle.order.specs.declared.Phase.{Phase}
use Rattle.order.specs.declared.Phase.TheVariants.{AwaitTitle, AwaitName, HeaderFull, AwaitLead, InPoints, InProps, InList, AwaitPart, AwaitPosition}
use Rattle.order.specs.declared.State.{State}
use Rattle.order.specs.declared.State.TheVariants.{Between as between, Inside as inside}
use Rattle.basics.proofs.Bools.{both, not_both}
use Rattle.shown_lists.proofs.Roles.{is_section, role_known}
use Rattle.shown_lists.proofs.Tables.{section_at_lem, role_at, laid}
use Rattle.shown_lists.proofs.ByPlace.{ByPlace, kind_by_lem, kind_by_place}
use Rattle.shown_lists.proofs.CompletePoints.{Leads}
use Rattle.shown_spelling.proofs.Logic.{refused_good, cond_good}
use Rattle.shown_spelling.proofs.KeywordLaws.{IsSection, keyword_at, keyword_is}
use Rattle.shown_told.specs.Told.{own_fields}
use Rattle.shown_told.proofs.Fronts.{front_at, front_is, stands_known, zero_unknown}
use Rattle.shown_told.proofs.LineComplete.{named}
use Rattle.shown_told.proofs.LineSound.{Known, Behind, data_known, key_behind}
use Rattle.law.specs.LineFaults.{Suits, IsOf}
use Rattle.shown_told.proofs.Apart.{stands_may}
use Rattle.shown_told.proofs.Standing.{may_stands}
use Rattle.shown_told.proofs.Looks.{fronted_after, after_fronted}

props_role : (f : Shape) → has_props f ≡ true → role_in f 3 ≡ role.Prop
props_role header h = absurd (false≢true h)
props_role outline h = absurd (false≢true h)
props_role component h = refl
props_role keepout h = absurd (false≢true h)
props_role listing h = absurd (false≢true h)
props_role placements h = absurd (false≢true h)

after_prop_lem : (fs gs : List Field) → after_prop fs ≡ good gs → is_prop fs ≡ true
after_prop_lem [] gs e = absurd (refused_good e)
after_prop_lem (field true s ∷ fs) gs e = absurd (refused_good e)
after_prop_lem (field false s ∷ fs) gs e = (cond_good Misplaced (same_bytes prop_word (folded s)) e).0

-- the role of a kind that a data line can have
record OfData (a : Role) (b : Bool) : Type 0 where
  not_opening : is_role a role.Opening ≡ false
  not_closing : is_role a role.Closing ≡ false
  by_prop : is_role a role.Prop ≡ true → b ≡ true

of_data : (a : Role) (s : ℕ) (fs gs : List Field) → after (front_at a s) (data_line fs) ≡ good gs → OfData a (is_prop fs)
of_data role.Opening s fs gs e = absurd (refused_good e)
of_data role.Closing s fs gs e = absurd (refused_good e)
of_data role.Title s fs gs e = record { not_opening = refl; not_closing = refl; by_prop = λ h. absurd (false≢true h) }
of_data role.Name s fs gs e = record { not_opening = refl; not_closing = refl; by_prop = λ h. absurd (false≢true h) }
of_data role.Lead s fs gs e = record { not_opening = refl; not_closing = refl; by_prop = λ h. absurd (false≢true h) }
of_data role.Point s fs gs e = record { not_opening = refl; not_closing = refl; by_prop = λ h. absurd (false≢true h) }
of_data role.Prop s fs gs e = record { not_opening = refl; not_closing = refl; by_prop = λ h. after_prop_lem fs gs e }
of_data role.Entry s fs gs e = record { not_opening = refl; not_closing = refl; by_prop = λ h. absurd (false≢true h) }
of_data role.Part s fs gs e = record { not_opening = refl; not_closing = refl; by_prop = λ h. absurd (false≢true h) }
of_data role.Position s fs gs e = record { not_opening = refl; not_closing = refl; by_prop = λ h. absurd (false≢true h) }
of_data role.Unknown s fs gs e = record { not_opening = refl; not_closing = refl; by_prop = λ h. absurd (false≢true h) }

module _ (v : Rules) (st : State) where
  -- the kind that a line is read as, and its own fields
  abbrev pub kind_in : Line → ℕ
  kind_in free = 0
  kind_in (bad n) = 0
  kind_in (key_line w fs) = key_kind v (keyword_of w)
  kind_in (data_line fs) = data_kind v st (is_prop fs)

  abbrev pub own_in : Line → List Field
  own_in free = []
  own_in (bad n) = []
  own_in (key_line w fs) = fs
  own_in (data_line fs) = own_fields v (data_kind v st (is_prop fs)) fs

  zero_not : {A : Type 0} → Known v 0 → A
  zero_not h = absurd (not_both (rw (zero_unknown v)) h)

  pub kind_behind : (x : Line) → Known v (kind_in x) → Behind v (kind_in x) x (own_in x)
  kind_behind free h = zero_not h
  kind_behind (bad n) h = zero_not h
  kind_behind (key_line w fs) h = key_behind v w fs (keyword_of w) (keyword_is w) h
  kind_behind (data_line fs) h = data_known v st fs h

  module _ (k : ℕ) (gs : List Field) (m : may_stand v st k ≡ true) where
    section_is : IsSection (section_of v k)
    section_is = named v (section_of v k) (role_known v k (stands_known v st k m))

    key_same : (w : List ℕ) (fs : List Field) → Behind v k (key_line w fs) gs → key_kind v (keyword_of w) ≡ k
    unfolding key_kind
    key_same w fs b = go (role_of v k) refl b
      where
        go : (a : Role) → role_of v k ≡ a → after (front_at a (section_of v k)) (key_line w fs) ≡ good gs → key_kind v (keyword_of w) ≡ k
        go role.Opening e i =
            let z : 46 ∷ open_word (section_of v k) ≡ w = bytes_true _ _ (cond_good Misplaced (same_bytes (46 ∷ open_word (section_of v k)) w) i).0 in
            subst (λ (x : List ℕ). key_kind v (keyword_of x) ≡ k) z (rw (keyword_at (section_of v k) section_is).0 (sym (kind_by_lem v k refl role.Opening refl e)))
        go role.Closing e i =
            let z : 46 ∷ close_word (section_of v k) ≡ w = bytes_true _ _ (cond_good Misplaced (same_bytes (46 ∷ close_word (section_of v k)) w) i).0 in
            subst (λ (x : List ℕ). key_kind v (keyword_of x) ≡ k) z (rw (keyword_at (section_of v k) section_is).1 (sym (kind_by_lem v k refl role.Closing refl e)))
        go role.Title e i = absurd (refused_good i)
        go role.Name e i = absurd (refused_good i)
        go role.Lead e i = absurd (refused_good i)
        go role.Point e i = absurd (refused_good i)
        go role.Prop e i = absurd (refused_good i)
        go role.Entry e i = absurd (refused_good i)
        go role.Part e i = absurd (refused_good i)
        go role.Position e i = absurd (refused_good i)
        go role.Unknown e i = absurd (refused_good i)

  -- a data line is read as k; or as a PROP line, where one may stand
  abbrev Read : ℕ → Bool → Type 0
  Read k b = (data_kind v st b ≡ k) ⊎ ((role_of v (data_kind v st b) ≡ role.Prop) × (may_stand v st (data_kind v st b) ≡ true) × (is_role (role_of v k) role.Prop ≡ false))

module _ (v : Rules) where
  module _ (g : Stage) (s : ℕ) (p : Phase) (k line : ℕ) (e : k ≡ kind_at v s line) where
    same_kind : (b : Bool) → line_at (shape_of v s) p b ≡ some line → data_kind v (inside g s p) b ≡ k
    unfolding data_kind
    same_kind b h = rw h (sym e)

  not_points : (g : Stage) (s k line : ℕ) (l : LoopState) → is_section v s ≡ true → is_role (role_of v k) role.Prop ≡ false → k ≡ kind_at v s line
      → some (point_line (shape_of v s)) ≡ some line → (c : Bool) → has_props (shape_of v s) ≡ c → Read v (inside g s (InPoints l)) k true
  unfolding data_kind may_stand
  not_points g s k line l i n e h true c =
      let r : role_of v (kind_at v s 3) ≡ role.Prop = role_at v s 3 i (omega arith) ∙ props_role (shape_of v s) c in
      inr (rw (c, r), rw (c, r, section_at_lem v s 3 i (omega arith), eq-eqb s s refl), n)
  not_points g s k line l i n e h false c = inl (rw c (ap (kind_by v s) h ∙ sym e))

  data_read : (st : State) (k : ℕ) (fs gs : List Field) → may_stand v st k ≡ true → Behind v k (data_line fs) gs → Read v st k (is_prop fs)
  unfolding may_stand
  data_read (between g) k fs gs m b =
      let d = of_data (role_of v k) (section_of v k) fs gs b in
      absurd (not_both (both (is_role (role_of v k) role.Opening) _ m).0 d.not_opening)
  data_read (inside g s p) k fs gs m b = go (is_role (role_of v k) role.Prop) (is_prop fs) refl refl w.given
    where
      d : OfData (role_of v k) (is_prop fs)
      d = of_data (role_of v k) (section_of v k) fs gs b

      w : ByPlace v s p (record { kind = k; values = [] })
      w = kind_by_place v g s p (record { kind = k; values = [] }) m d.not_closing

      i : is_section v s ≡ true
      i = subst (λ (x : ℕ). is_section v x ≡ true) (eqb-true (section_of v k) s (both (eqb (section_of v k) s) _ m).0) (role_known v k (stands_known v (inside g s p) k m))

      phase : (p : Phase) → is_role (role_of v k) role.Prop ≡ false → k ≡ kind_at v s w.line → line_at (shape_of v s) p false ≡ some w.line → Read v (inside g s p) k true
      phase AwaitTitle n e h = inl (same_kind g s AwaitTitle k w.line e true h)
      phase (AwaitName t) n e h = inl (same_kind g s (AwaitName t) k w.line e true h)
      phase (HeaderFull t) n e h = cc
      phase AwaitLead n e h = inl (same_kind g s AwaitLead k w.line e true h)
      phase (InPoints l) n e h = not_points g s k w.line l i n e h (has_props (shape_of v s)) refl
      phase InProps n e h = cc
      phase InList n e h = inl (same_kind g s InList k w.line e true h)
      phase AwaitPart n e h = inl (same_kind g s AwaitPart k w.line e true h)
      phase AwaitPosition n e h = inl (same_kind g s AwaitPosition k w.line e true h)

      alike : (b : Bool) → line_at (shape_of v s) p b ≡ some w.line → data_kind v (inside g s p) b ≡ k
      alike b h = same_kind g s p k w.line w.kind_is b h

      go : (a b : Bool) → is_role (role_of v k) role.Prop ≡ a → is_prop fs ≡ b → line_at (shape_of v s) p a ≡ some w.line → Read v (inside g s p) k b
      go true true x y h = inl (alike true h)
      go true false x y h = absurd (false≢true (sym y ∙ d.by_prop x))
      go false true x y h = phase p x w.kind_is h
      go false false x y h = inl (alike false h)

module _ (v : Rules) (rs : List Rec) (st : State) (y : Leads v start rs st) where
  -- what a line is read as, it can be by the rules, where it may stand
  suits : (fs : List Field) (x : Line) → x ≡ by_first fs → may_stand v st (kind_in v st x) ≡ true → Suits v rs fs (kind_in v st x) (own_in v st x)
  suits fs x e m =
      let k = kind_in v st x in
      let u = stands_known v st k m in
      let d = laid v k u in
      let b : after d.layout.front (by_first fs) ≡ good (own_in v st x) =
      ap (λ (f : Front). after f (by_first fs)) (front_is v k d.layout d.is_layout) ∙ ap (after (front_at (role_of v k) (section_of v k))) (sym e) ∙ kind_behind v st x u in
      record { layout = d.layout; laid = d.is_layout; fronted = after_fronted d.layout.front fs (own_in v st x) b; stands = may_stands v rs k st y m }

  -- what it can be by the rules may stand, and its fields are behind its front
  may : {fs gs : List Field} {k : ℕ} → Suits v rs fs k gs → may_stand v st k ≡ true
  may s = stands_may v y s.stands

  behind : {fs gs : List Field} {k : ℕ} (x : Line) → x ≡ by_first fs → Suits v rs fs k gs → Behind v k x gs
  behind {fs} {gs} {k} x e s =
      ap (λ (f : Front). after f x) (sym (front_is v k s.layout s.laid)) ∙ ap (after s.layout.front) e ∙ fronted_after s.fronted

  -- read as k, or as a PROP line where one may stand
  abbrev Kinds : Line → ℕ → Type 0
  Kinds x k = (kind_in v st x ≡ k) ⊎ ((role_of v (kind_in v st x) ≡ role.Prop) × (may_stand v st (kind_in v st x) ≡ true) × (is_role (role_of v k) role.Prop ≡ false))

  kinds : {fs gs : List Field} {k : ℕ} (x : Line) → x ≡ by_first fs → Suits v rs fs k gs → Kinds x k
  kinds free e s = absurd (refused_good (behind free e s))
  kinds (bad n) e s = absurd (refused_good (behind (bad n) e s))
  kinds {fs} {gs} {k} (key_line w hs) e s = inl (key_same v st k gs (may s) w hs (behind (key_line w hs) e s))
  kinds {fs} {gs} {k} (data_line hs) e s = data_read v st k hs gs (may s) (behind (data_line hs) e s)

  pub suits_may : {fs gs : List Field} {k : ℕ} (x : Line) → x ≡ by_first fs → Suits v rs fs k gs → may_stand v st (kind_in v st x) ≡ true
  suits_may {fs} {gs} {k} x e s = go (kinds x e s)
    where
      go : Kinds x k → may_stand v st (kind_in v st x) ≡ true
      go (inl z) = ap (may_stand v st) z ∙ may s
      go (inr (z, m, n)) = m

  pub is_of_lem : (fs : List Field) (x : Line) → x ≡ by_first fs → may_stand v st (kind_in v st x) ≡ true → IsOf v rs fs (kind_in v st x) (own_in v st x)
  is_of_lem fs x e m = record { suits = suits fs x e m; prop_first = λ j hs s i. go j i (kinds x e s) }
    where
      go : (j : ℕ) → role_of v j ≡ role.Prop → Kinds x j → j ≡ kind_in v st x
      go j i (inl z) = sym z
      go j i (inr (z, m, n)) = absurd (false≢true (sym n ∙ rw i refl))

  -- it is of the kind that it is read as, and of no other
  pub one_kind : {fs gs : List Field} {k : ℕ} (x : Line) → x ≡ by_first fs → IsOf v rs fs k gs → (kind_in v st x ≡ k) × (own_in v st x ≡ gs)
  one_kind {fs} {gs} {k} x e s = (same, own)
    where
      go : Kinds x k → kind_in v st x ≡ k
      go (inl z) = z
      go (inr (z, m, n)) = s.prop_first (kind_in v st x) (own_in v st x) (suits fs x e m) z

      same : kind_in v st x ≡ k
      same = go (kinds x e s.suits)

      own : own_in v st x ≡ gs
      own =
          let m = suits_may x e s.suits in
          let a = kind_behind v st x (stands_known v st (kind_in v st x) m) in
          let b = subst (λ (j : ℕ). Behind v j x gs) (sym same) (behind x e s.suits) in
          cc
