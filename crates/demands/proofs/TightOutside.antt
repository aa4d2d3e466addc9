-- The functions for other languages: the contract of each leaves no choice.
use mathlib.Core.Path.{refl, sym, ◌∙◌}
use Rattle.quayladle.proofs.quayladle_check.Kinds as quayladle_quayladle_check
use Rattle.quayladle.proofs.quayladle_check.Reads as quayladle_quayladle_check_says
use Rattle.quayladle.proofs.quayladle_read.Kinds as quayladle_quayladle_read
use Rattle.quayladle.proofs.quayladle_read.Reads as quayladle_quayladle_read_says
use Rattle.quayladle.proofs.quayladle_write.Kinds as quayladle_quayladle_write
use Rattle.quayladle.proofs.quayladle_write.Reads as quayladle_quayladle_write_says
use Rattle.quayladle.proofs.quayladle_same.Kinds as quayladle_quayladle_same
use Rattle.quayladle.proofs.quayladle_same.Reads as quayladle_quayladle_same_says
use Rattle.quayladle.proofs.quayladle_judge.Kinds as quayladle_quayladle_judge
use Rattle.quayladle.proofs.quayladle_judge.Reads as quayladle_quayladle_judge_says
use Rattle.quayladle.proofs.quayladle_fields.Kinds as quayladle_quayladle_fields
use Rattle.quayladle.proofs.quayladle_fields.Reads as quayladle_quayladle_fields_says
use Rattle.demands.specs.Tight.{Tight}

pub tight_quayladle_quayladle_check : Tight 2 quayladle_quayladle_check.ps quayladle_quayladle_check.r quayladle_quayladle_check_says.Learnt
tight_quayladle_quayladle_check κs a r q ws us e f = (refl, λ i. (ws.0, ((e ∙ sym f) i, tt)))

pub tight_quayladle_quayladle_read : Tight 3 quayladle_quayladle_read.ps quayladle_quayladle_read.r quayladle_quayladle_read_says.Learnt
tight_quayladle_quayladle_read κs a r q ws us e f = (refl, λ i. (ws.0, ((e.1 ∙ sym f.1) i, ((e.0 ∙ sym f.0) i, tt))))

pub tight_quayladle_quayladle_write : Tight 4 quayladle_quayladle_write.ps quayladle_quayladle_write.r quayladle_quayladle_write_says.Learnt
tight_quayladle_quayladle_write κs a r q ws us e f = (refl, λ i. (ws.0, (ws.1.0, ((e.1 ∙ sym f.1) i, ((e.0 ∙ sym f.0) i, tt)))))

pub tight_quayladle_quayladle_same : Tight 3 quayladle_quayladle_same.ps quayladle_quayladle_same.r quayladle_quayladle_same_says.Learnt
tight_quayladle_quayladle_same κs a r q ws us e f = (refl, λ i. (ws.0, (ws.1.0, ((e ∙ sym f) i, tt))))

pub tight_quayladle_quayladle_judge : Tight 3 quayladle_quayladle_judge.ps quayladle_quayladle_judge.r quayladle_quayladle_judge_says.Learnt
tight_quayladle_quayladle_judge κs a r q ws us e f = (refl, λ i. (ws.0, (ws.1.0, ((e ∙ sym f) i, tt))))

pub tight_quayladle_quayladle_fields : Tight 4 quayladle_quayladle_fields.ps quayladle_quayladle_fields.r quayladle_quayladle_fields_says.Learnt
tight_quayladle_quayladle_fields κs a r q ws us e f =
    (refl, λ i. (ws.0, (ws.1.0, (ws.1.1.0, ((e.1.1 ∙ sym f.1.1) i, ((e.1.0 ∙ sym f.1.0) i, ((e.0 ∙ sym f.0) i, tt)))))))
