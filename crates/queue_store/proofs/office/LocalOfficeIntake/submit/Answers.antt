use Rattle.std.proofs.Common.{refl, ap, Ok, Err}
use Rattle.queue_store.proofs.office.LocalOfficeIntake.submit.Goals as goal

pub returns-in-Err-clause-gives : goal.returns-in-Err-clause-gives
returns-in-Err-clause-gives g c =
    let all = c.in-Err.ensures.settled in (
      refl,
      refl,
      record {
        does = record { told = Err c.in-Err.fault; is_told = ap Err c.intake_fault.ensures; mid = all.0; keeps = all.1; accepted = tt; cause = c.in-Err.ensures.cause; leads = all.3 };
        stays = c.submit_settled.ensures.stays;
      },
    )

pub returns-in-Ok-clause-gives : goal.returns-in-Ok-clause-gives
returns-in-Ok-clause-gives g c =
    let all = c.in-Ok.ensures.settled in (
      refl,
      refl,
      record {
        does = record { told = Ok c.in-Ok.accepted; is_told = refl; mid = all.0; keeps = all.1; accepted = all.2; cause = c.in-Ok.ensures.cause; leads = all.3 };
        stays = c.submit_settled.ensures.stays;
      },
    )
