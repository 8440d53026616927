use Rattle.std.proofs.Common.{refl, Err}
use Rattle.mail_submission.specs.declared.intake.IntakeFault.TheVariants as faults
use Rattle.smtp_front.proofs.talk.ask.Goals as goal

pub returns-in-Say-clause-asked : goal.returns-in-Say-clause-asked
returns-in-Say-clause-asked g c =
    rw c.in-Say.is (record { moment = 0; answer = Err faults.NoMemory; steps = refl; clock = λ k. refl; is_reply = refl; is_end = refl })

pub returns-in-Start-clause-asked : goal.returns-in-Start-clause-asked
returns-in-Start-clause-asked g c =
    rw c.in-Start.is (record { moment = 0; answer = Err faults.NoMemory; steps = refl; clock = λ k. refl; is_reply = refl; is_end = refl })

pub returns-in-Quit-clause-asked : goal.returns-in-Quit-clause-asked
returns-in-Quit-clause-asked g c =
    rw c.in-Quit.is (record { moment = 0; answer = Err faults.NoMemory; steps = refl; clock = λ k. refl; is_reply = refl; is_end = refl })
