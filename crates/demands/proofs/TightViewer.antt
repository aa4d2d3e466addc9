-- The line reader, and the iterator over the lines of a file: the contract of each public function leaves no choice.
use mathlib.Core.Path.{◌≡◌, refl, sym, ◌∙◌}
use mathlib.Core.HLevel.{is_prop→PathP}
use seplogic.Ra.Ura.{Ura}
use base.Logic.{ent, sep, via, fst∗, snd∗}
use contract.Monad.{conj, conj_l, conj_r, conj_mono, fact, fact_i, fact_use}
use Rattle.walk.specs.Walks.{begun, Steady}
use Rattle.walk.specs.contracts.steps.Turns.of as walk_steps_Turns_of
use Rattle.walk.proofs.TurnsLaws.{steady_prop}
use Rattle.viewer.specs.contracts.opened as viewer_opened
use Rattle.viewer.specs.contracts.next as viewer_next
use Rattle.viewer.proofs.step_at.Kinds as viewer_step_at
use Rattle.viewer.proofs.step_at.Reads as viewer_step_at_says
use Rattle.viewer.proofs.line.fields_at.Kinds as viewer_line_fields_at
use Rattle.viewer.proofs.line.fields_at.Reads as viewer_line_fields_at_says
use Rattle.demands.specs.Tight.{Tight, TightIn}

-- what follows from two facts
both : {M : Type 1} (𝓤 : Ura M) (φ ψ χ : Type 0) → (φ → ψ → χ) → ent 𝓤 (conj 𝓤 (fact 𝓤 φ) (fact 𝓤 ψ)) (fact 𝓤 χ)
both 𝓤 φ ψ χ f =
    fact_use 𝓤 φ (conj_l 𝓤 (fact 𝓤 φ) (fact 𝓤 ψ)) (λ x.
    fact_use 𝓤 ψ (conj_r 𝓤 (fact 𝓤 φ) (fact 𝓤 ψ)) (λ y.
    fact_i 𝓤 χ (conj 𝓤 (fact 𝓤 φ) (fact 𝓤 ψ)) (f x y)))

pub tight_viewer_opened : {M : Type 1} → TightIn M viewer_opened.ended (λ 𝓤. viewer_opened.clauses)
tight_viewer_opened 𝓤 𝓛 mem run κs a g r q ws us =
    both 𝓤 _ _ _ (λ e f. (λ i. record { file = (e.0 ∙ sym f.0) i; at = (e.1 ∙ sym f.1) i; line = (e.2 ∙ sym f.2) i }, refl))

pub tight_viewer_next : {M : Type 1} → TightIn M viewer_next.ended (λ 𝓤. viewer_next.clauses)
tight_viewer_next 𝓤 𝓛 mem run κs a g r q ws us =
    both 𝓤 _ _ _ (λ e f. (e.0 ∙ sym f.0, λ i. ((e.1 ∙ sym f.1) i, ((e.2 ∙ sym f.2) i, tt))))

pub tight_viewer_step_at : Tight 2 viewer_step_at.ps viewer_step_at.r viewer_step_at_says.Learnt
tight_viewer_step_at κs a r q ws us e f = (e.0 ∙ sym f.0, λ i. (ws.0, (ws.1.0, (ws.1.1.0, ((e.1 ∙ sym f.1) i, tt)))))

pub tight_viewer_line_fields_at : Tight 2 viewer_line_fields_at.ps viewer_line_fields_at.r viewer_line_fields_at_says.Learnt
tight_viewer_line_fields_at κs a r q ws us e f = (e.0 ∙ sym f.0, λ i. (ws.0, (ws.1.0, (ws.1.1.0, ((e.1 ∙ sym f.1) i, tt)))))

-- `walk`: an iterator holds the file that it goes over

-- of three facts side by side the first and the last
ends : {M : Type 1} (𝓤 : Ura M) (φ ψ χ : Type 0) → ent 𝓤 (sep 𝓤 (fact 𝓤 φ) (sep 𝓤 (fact 𝓤 ψ) (fact 𝓤 χ))) (fact 𝓤 (φ × χ))
ends 𝓤 φ ψ χ =
    fact_use 𝓤 φ (fst∗ 𝓤 (fact 𝓤 φ) (sep 𝓤 (fact 𝓤 ψ) (fact 𝓤 χ))) (λ x.
    fact_use 𝓤 χ (via 𝓤 (sep 𝓤 (fact 𝓤 ψ) (fact 𝓤 χ)) (snd∗ 𝓤 (fact 𝓤 φ) (sep 𝓤 (fact 𝓤 ψ) (fact 𝓤 χ))) (snd∗ 𝓤 (fact 𝓤 ψ) (fact 𝓤 χ))) (λ y.
    fact_i 𝓤 (φ × χ) (sep 𝓤 (fact 𝓤 φ) (sep 𝓤 (fact 𝓤 ψ) (fact 𝓤 χ))) (x, y)))

pub tight_walk_steps_Turns_of : {M : Type 1} → TightIn M walk_steps_Turns_of.ended (λ 𝓤. walk_steps_Turns_of.clauses)
tight_walk_steps_Turns_of 𝓤 𝓛 mem run κs a g r q ws us =
    via 𝓤 (conj 𝓤 (fact 𝓤 ((r.file ≡ a.0) × (r.walk ≡ begun))) (fact 𝓤 ((q.file ≡ a.0) × (q.walk ≡ begun))))
    (conj_mono 𝓤
    (ends 𝓤 (r.file ≡ a.0) (r.file.now ≡ a.0.now) (r.walk ≡ begun))
    (ends 𝓤 (q.file ≡ a.0) (q.file.now ≡ a.0.now) (q.walk ≡ begun)))
    (both 𝓤 _ _ _ (λ e f. (
      λ i. record {
        file = (e.0 ∙ sym f.0) i;
        walk = (e.1 ∙ sym f.1) i;
        steady = is_prop→PathP (λ j. Steady ((e.0 ∙ sym f.0) j).now ((e.1 ∙ sym f.1) j)) (λ j. steady_prop ((e.0 ∙ sym f.0) j).now ((e.1 ∙ sym f.1) j)) r.steady q.steady i;
      },
      refl,
    )))
