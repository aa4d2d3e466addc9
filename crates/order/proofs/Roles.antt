-- Two roles that have one number are one.
use Prim.Native.Nat.{ℕ}
use mathlib.Core.Path.{◌≡◌, refl, sym, ap, ◌∙◌}
use mathlib.Core.Bool.{true, cond}
use borrow.Author.Tests.{eqb-true}
use lib.Dec.{eqb}
use Rattle.law.specs.declared.Role.{Role}
use Rattle.law.specs.declared.Role.TheVariants.{Opening as opening, Closing as closing, Title as title, Name as name, Lead as lead, Point as point, Prop as prop, Entry as entry, Part as part, Position as position, Unknown as unknown}
use Rattle.order.specs.Automaton.{role_number, is_role}

role_numbered : ℕ → Role
role_numbered n =
    cond (eqb n 0) opening
    (cond (eqb n 1) title
    (cond (eqb n 2) name
    (cond (eqb n 3) lead
    (cond (eqb n 4) point
    (cond (eqb n 5) prop
    (cond (eqb n 6) entry
    (cond (eqb n 7) part
    (cond (eqb n 8) position
    (cond (eqb n 9) closing unknown)))))))))

numbered_back : (a : Role) → role_numbered (role_number a) ≡ a
unfolding role_numbered
numbered_back opening = refl
numbered_back closing = refl
numbered_back title = refl
numbered_back name = refl
numbered_back lead = refl
numbered_back point = refl
numbered_back prop = refl
numbered_back entry = refl
numbered_back part = refl
numbered_back position = refl
numbered_back unknown = refl

pub is_role_true : (a b : Role) → is_role a b ≡ true → a ≡ b
is_role_true a b h = sym (numbered_back a) ∙ ap role_numbered (eqb-true _ _ h) ∙ numbered_back b
