use Rattle.std.proofs.Common.{refl, ap, Ok, Err}
use Rattle.queue_store.proofs.office.LocalOfficeIntake.next_number.Goals as goal

pub returns-in-Err-clause-gives : goal.returns-in-Err-clause-gives
returns-in-Err-clause-gives g c = (
  refl,
  refl,
  record {
    does = record {
      told = Err c.in-Err.fault;
      is_told = ap Err c.number_fault.ensures;
      number = tt;
      cause = c.in-Err.ensures.cause;
      opened = λ limits h t stands. tt;
      failed = c.in-Err.ensures.failed;
      moments = c.next_number.ensures.any_moment;
    };
    stays = c.next_number.ensures.stays;
  },
)

pub returns-in-Ok-clause-gives : goal.returns-in-Ok-clause-gives
returns-in-Ok-clause-gives g c = (
  refl,
  refl,
  record {
    does = record {
      told = Ok c.in-Ok.number;
      is_told = refl;
      number = c.in-Ok.ensures.number;
      cause = c.in-Ok.ensures.cause;
      opened = c.in-Ok.ensures.opened;
      failed = λ limits h t stands. tt;
      moments = c.next_number.ensures.any_moment;
    };
    stays = c.next_number.ensures.stays;
  },
)
