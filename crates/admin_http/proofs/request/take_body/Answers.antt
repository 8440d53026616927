use Rattle.std.proofs.Common.{ℕ, List, [], ◌++◌, arith, ◌∙◌, sym, subst}
use Rattle.port_io.proofs.Offered.{Consumes-nothing}
use Rattle.admin_http.specs.Requests.{Asks}
use Rattle.admin_http.proofs.Taking.{asks-here, come-here, short-here, asks-filled, unfinished-short}
use Rattle.admin_http.proofs.Piecing.{filled-end, filled-fault, short-size}
use Rattle.admin_http.proofs.request.take_body.Goals as goal

pub returns-in-Ok-clause-took : goal.returns-in-Ok-clause-took
returns-in-Ok-clause-took g c = λ text target routed p m e.
    ([], Consumes-nothing _, asks-here text routed target c.args.rest.now c.args.deed c.in-Ok.body c.args.size p m e c.if-size-rest.true c.in-Ok.ensures)

pub returns-in-Err-clause-took : goal.returns-in-Err-clause-took
returns-in-Err-clause-took g c = λ text target routed p m e.
    ([], Consumes-nothing _, come-here text routed target c.args.rest.now c.args.size p e c.if-size-rest.true)

pub returns-in_default-clause-took : goal.returns-in_default-clause-took
returns-in_default-clause-took g c = λ text target routed p m e.
    ([], Consumes-nothing _, short-here text routed target c.args.rest.now c.args.size p e (omega (arith, c.if-size-rest.false)))

pub returns-in-Ok-fill_vec-clause-took : goal.returns-in-Ok-fill_vec-clause-took
returns-in-Ok-fill_vec-clause-took g c = λ text target routed p m e.
    let full = c.in-Ok-fill_vec.ensures.filled in (
      full.piece,
      full.took,
      subst (λ (b : List ℕ). Asks (text ++ full.piece) c.args.deed b) (sym c.from_vec.ensures)
          (asks-filled text routed target c.args.rest.now c.args.deed _ _ c.args.size _ _ p m e full c.in-Ok-room_for.ensures.front (c.in-Ok-fill_vec.ensures.size ∙ c.in-Ok-room_for.ensures.size)),
    )

pub returns-in-Err-End-clause-took : goal.returns-in-Err-End-clause-took
returns-in-Err-End-clause-took g c = λ text target routed p m e.
    let cut = filled-end _ _ _ c.fill_vec.new.body.items _ _ c.in-Err-End.field-0-is c.in-Err-End.ensures.filled in
    let short = short-size _ _ _ _ _ cut.0 c.in-Ok-room_for.ensures.size in
    (short.piece, short.took, (unfinished-short text routed target c.args.rest.now c.args.deed c.args.size _ _ p m e short, cut.1))

pub returns-clause-took : goal.returns-clause-took
returns-clause-took g c = λ text target routed p m e.
    let short = short-size _ _ _ _ _ (filled-fault _ _ _ c.fill_vec.new.body.items _ _ c.in-Err-Fault.field-0-is c.in-Err-Fault.ensures.filled) c.in-Ok-room_for.ensures.size in
    (short.piece, short.took, unfinished-short text routed target c.args.rest.now c.args.deed c.args.size _ _ p m e short)
